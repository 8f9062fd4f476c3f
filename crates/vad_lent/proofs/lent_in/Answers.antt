use mathlib.Core.Path.{◌≡◌, ap, ◌∙◌}
use lib.ListN.{take, drop}
use lib.Seq.{drop-drop}
use borrow.Author.Rules.{rules}
use Rattle.ranges.specs.Sizes.{frame_most, warmup_most}
use Rattle.vad_lent.proofs.lent_in.Goals as goal

pub returns-clause-warmup_value : goal.returns-clause-warmup_value
returns-clause-warmup_value c =
    let fs = c.args.floats.now in
    let third : c.unwrap-3.result.0.now ≡ take warmup_most c.unwrap-2.result.1.now = search rules in
    let second : c.unwrap-2.result.1.now ≡ drop frame_most c.unwrap.result.1.now = search rules in
    let first : c.unwrap.result.1.now ≡ drop frame_most fs = search rules in
    third ∙ ap (take warmup_most) (second ∙ ap (drop frame_most) first ∙ drop-drop frame_most frame_most fs)
