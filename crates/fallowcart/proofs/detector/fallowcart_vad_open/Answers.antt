use Rattle.fallowcart.proofs.detector.fallowcart_vad_open.Goals as goal

pub returns : goal.returns
returns c = rw c.collected-config.ensures at c.«open».ensures
