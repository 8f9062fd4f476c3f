use borrow.Author.Rules.{rules}
use Rattle.vad_door.proofs.Door.{floor_read_lem, read_word}
use Rattle.vad_door.proofs.noise_floor.Goals as goal

pub returns : goal.returns
returns c = floor_read_lem _ _ _ (read_word _ _ _ _ _ (λ w p. search rules) c.read.ensures)
