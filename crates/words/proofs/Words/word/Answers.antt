use Rattle.std.proofs.Common.{rules}
use Rattle.words.proofs.Reading.{word_read}
use Rattle.words.proofs.Words.word.Goals as goal

pub returns : goal.returns
returns g c =
    word_read _ _ c.in_ok-n.n c.fill.new.bytes c.fill-2.new.self (search rules) (search rules) c.in_ok-n.ensures.filled c.in_ok-n.ensures.ended
    (c.fill-2.ensures.after (λ y h. h)) _ c.from_le_bytes.ensures
