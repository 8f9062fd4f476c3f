use borrow.Author.Rules.{rules}
use Rattle.vad_door.proofs.Door.{analyzed_read_lem, read_word}
use Rattle.vad_door.proofs.analyzed_until.Goals as goal

pub returns : goal.returns
returns c = analyzed_read_lem _ _ _ (read_word _ _ _ _ _ (λ w p. search rules) c.read.ensures)
