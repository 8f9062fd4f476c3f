use native.Mathlib.Omega.{arith}
use native.Mathlib.Numerals.{add-one}
use Rattle.vad_segments.specs.Judging.{extended_by}
use Rattle.score.proofs.Laws.{score_le}
use Rattle.vad_segments.proofs.judging.extend.Goals as goal

pub overflow_add-result : goal.overflow_add-result
overflow_add-result c = let most = score_le c.args.ratio in omega (arith, c.score.ensures)

pub returns : goal.returns
unfolding extended_by
returns c = simp (c.score.ensures, add-one)
