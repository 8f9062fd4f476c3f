use borrow.Author.Rules.{rules}
use Rattle.vad_door.proofs.Door.{segment_read_lem, read_word}
use Rattle.vad_door.proofs.active_segment_start_sample.Goals as goal

pub returns : goal.returns
returns c = segment_read_lem _ _ _ (read_word _ _ _ _ _ (λ w p. search rules) c.read.ensures)
