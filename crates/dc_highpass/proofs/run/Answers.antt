use mathlib.Core.Path.{◌≡◌, sym, ap, ◌∙◌}
use Prim.Native.Nat.{◌+◌}
use native.Mathlib.Omega.{arith}
use lib.ListN.{length, drop, get_or}
use lib.Ieee.{nan}
use lib.Seq.{sets}
use Rattle.lists.proofs.Stores.{sets_cons}
use Rattle.dc_state.proofs.Finite.{same}
use Rattle.dc_highpass.specs.Filter.{pass_of, results_of}
use Rattle.dc_highpass.proofs.Turns.{results_step, results_stop, results_end, after_step, after_end}
use Rattle.dc_highpass.proofs.Calls.{ran_stuck, ran_done, written_stuck, written_done}
use Rattle.dc_highpass.proofs.run.Goals as goal

pub returns-then-not-is_finite : goal.returns-then-not-is_finite
returns-then-not-is_finite c =
    let l = c.loop-i in
    let xs = c.args.samples.now in
    let f = c.args.filter in
    let inside = c.loop-i-test.true in
    let bad = rw c.pass-result.ensures.1 at (sym (same _) ∙ sym c.is_finite.ensures.value ∙ c.if-not-is_finite.true) in
    let none = results_stop l.i xs inside l.filter bad in
    let long = ap length none in
    let n : l.i ≡ length (results_of f xs) = omega (arith, long, l.invariant.counted) in
    record {
      value = ran_stuck c.args.given f xs l.i n inside;
      output_left = written_stuck c.args.given f xs l.i n c.args.output.now l.output c.requires (rw none at l.invariant.written) c.clear.new.output c.clear.ensures;
    }

pub loop-i-preserved : goal.loop-i-preserved
loop-i-preserved c =
    let l = c.loop-i in
    let xs = c.args.samples.now in
    let f = l.filter in
    let y = (pass_of f (get_or xs l.i nan)).output in
    let e = c.pass-result.ensures in
    let good = rw e.1 at (sym (same _) ∙ sym c.is_finite.ensures.value ∙ c.if-not-is_finite.false) in
    let rs = results_step l.i xs c.loop-i-test.true f good in
    let more = ap length rs in
    rw (e.0, e.1) record {
      counted = omega (arith, more, l.invariant.counted);
      carried = sym (after_step l.i xs c.loop-i-test.true f good) ∙ l.invariant.carried;
      written = sets_cons l.output l.i y (results_of (pass_of f (get_or xs l.i nan)).filter (drop (l.i + 1) xs)) ∙ ap (sets l.output l.i) (sym rs) ∙ l.invariant.written;
    }

pub returns : goal.returns
returns c =
    let l = c.loop-i in
    let xs = c.args.samples.now in
    let f = c.args.filter in
    let none = results_end l.filter l.i xs c.loop-i-test.false in
    let long = ap length none in
    let n : l.i ≡ length (results_of f xs) = omega (arith, long, l.invariant.counted) in
    let after = sym (after_end l.filter l.i xs c.loop-i-test.false) ∙ l.invariant.carried in
    record {
      value = ran_done c.args.given f xs l.i n c.loop-i-test.false l.filter after;
      output_left = written_done c.args.given f xs l.i n c.args.output.now l.output c.requires (rw none at l.invariant.written) c.loop-i-test.false;
    }
