use Rattle.std.proofs.Common.{rules, arith, ◌≡◌, take, subst, take_all}
use Rattle.std.specs.Io.KnownBytes.{Consumes}
use Rattle.words.proofs.Reading.{none_read, some_read}
use Rattle.words.proofs.Words.next_word.Goals as goal

pub returns-then-n-lt4 : goal.returns-then-n-lt4
returns-then-n-lt4 g c = none_read _ _ _ (search (rules, arith)) c.in_ok-n.ensures.filled (c.in_ok-n.ensures.ended (search rules))

pub returns : goal.returns
returns g c =
    let whole : take c.in_ok-n.n c.fill.new.bytes ≡ c.fill.new.bytes = take_all _ _ (omega arith) in
    some_read _ _ _ c.fill.array_long (subst (Consumes _ _) whole c.in_ok-n.ensures.filled) _ c.from_le_bytes.ensures
