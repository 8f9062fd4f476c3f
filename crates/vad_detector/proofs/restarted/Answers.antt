use Rattle.vad_state.specs.State.{window_of}
use Rattle.vad_state.proofs.Parts.{parts, frame_high}
use Rattle.vad_detector.specs.Opening.{restarted_of, reset_to}
use Rattle.vad_detector.proofs.restarted.Goals as goal

pub shared_ref_as_front-fresh : goal.shared_ref_as_front-fresh
shared_ref_as_front-fresh c = frame_high c.args.detector (parts _ c.requires)

pub returns : goal.returns
unfolding reset_to restarted_of window_of
returns c = c.fresh.ensures
