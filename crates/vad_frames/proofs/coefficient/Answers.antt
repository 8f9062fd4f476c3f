use Rattle.vad_frames.specs.Emphasis.{coefficient_of}
use Rattle.vad_frames.proofs.coefficient.Goals as goal

pub returns-then-has_pre_emphasis : goal.returns-then-has_pre_emphasis
unfolding coefficient_of
returns-then-has_pre_emphasis c = simp c.if-has_pre_emphasis.true

pub returns-else-has_pre_emphasis : goal.returns-else-has_pre_emphasis
unfolding coefficient_of
returns-else-has_pre_emphasis c = simp c.if-has_pre_emphasis.false
