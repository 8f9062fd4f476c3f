use Rattle.vad_door.proofs.emptied.Goals as goal

pub returns : goal.returns
returns c = rw c.detector_at.ensures at c.reset.ensures
