use mathlib.Core.Path.{sym, ◌∙◌}
use lib.ListN.{length}
use Rattle.vad_detector.proofs.Answers.{checked, detect_refused, detect_ran, rows_kept, rows_written}
use Rattle.vad_detector.proofs.detect.Goals as goal

pub returns-in-Err : goal.returns-in-Err
returns-in-Err c =
    let e = sym c.check.ensures ∙ c.in-Err.is in
    record { value = detect_refused _ _ e (length c.args.rows.now) c.refused.result c.refused.ensures; rows_left = rows_kept _ _ e c.args.rows.now }

pub run-requires : goal.run-requires
run-requires c = let t = checked _ _ (sym c.check.ensures ∙ c.in-Ok.is) in record { detector_value = t.sound; samples_len_bound = (t.short, t.fits) }

pub returns-in-Ok : goal.returns-in-Ok
returns-in-Ok c =
    let e = sym c.check.ensures ∙ c.in-Ok.is in
    record { value = detect_ran _ _ e (length c.args.rows.now) c.run.result c.run.ensures.value; rows_left = rows_written _ _ e c.args.rows.now c.run.new.rows c.run.ensures.rows_left }
