use mathlib.Core.Path.{sym, ◌∙◌}
use Rattle.vad_detector.proofs.Answers.{open_refused, open_taken, open_passed, window_short}
use Rattle.vad_detector.proofs.open.Goals as goal

pub returns-then-is_err : goal.returns-then-is_err
returns-then-is_err c =
    let s = c.args in
    let r = c.opening_refusal-outcome in
    open_refused s.config s.window.now s.speech_floor_rise r.result r.ensures (sym c.is_err.ensures.value ∙ c.if-is_err.true) c.nothing_open.result c.nothing_open.ensures

pub fresh-requires : goal.fresh-requires
fresh-requires c =
    let s = c.args in
    let r = c.opening_refusal-outcome in
    window_short s.config s.window.now s.speech_floor_rise (open_passed s.config s.window.now s.speech_floor_rise r.result r.ensures (sym c.is_err.ensures.value ∙ c.if-is_err.false))

pub returns : goal.returns
returns c =
    let s = c.args in
    let r = c.opening_refusal-outcome in
    let l = c.lengths_of in
    open_taken s.config s.window.now s.speech_floor_rise r.result r.ensures (sym c.is_err.ensures.value ∙ c.if-is_err.false) l.result l.ensures c.fresh.result c.fresh.ensures
