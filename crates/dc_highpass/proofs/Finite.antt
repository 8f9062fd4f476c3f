-- One test at a sample's end is refusal 26: the last result is finite exactly where every one is. Assumes nothing.
use mathlib.Core.Path.{◌≡◌, refl, sym}
use mathlib.Core.Bool.{Bool, true, false, cond}
use mathlib.Core.List.{[], ◌∷◌, ◌++◌}
use lib.Ieee.{Float}
use lib.Ieee.Scale.{finite}
use Rattle.lists.proofs.Tests.{both}
use Rattle.dc_state.specs.Biquad.{heard}
use Rattle.dc_state.specs.Operations.{centred_of, stage_results, stages_results, sample_results, every_finite}
use Rattle.dc_state.specs.declared.HighpassOrder.{HighpassOrder}
use Rattle.dc_state.specs.declared.HighpassOrder.TheVariants.{SecondOrder, FourthOrder}
use Rattle.dc_state.specs.declared.DcHighPassFilter.{DcHighPassFilter}
use Rattle.dc_state.proofs.Finite.{stage_passes, append_true, append_right, centre_true, last_finite}
use Rattle.dc_highpass.specs.Filter.{staged_by, pass_of}

same_truth : (a b : Bool) → (a ≡ true → b ≡ true) → (b ≡ true → a ≡ true) → a ≡ b
same_truth true b f g = sym (f refl)
same_truth false true f g = g refl
same_truth false false f g = refl

-- ---- a sample
-- by the two switches and the order: r, whether c was made by a subtraction
exactly : (r h : Bool) (o : HighpassOrder) (f : DcHighPassFilter) (c : Float) → (r ≡ false → finite c ≡ true)
    → finite (cond h (staged_by o f c) (record { filter = f; output = c })).output ≡ every_finite (cond r (c ∷ []) [] ++ cond h (stages_results o f c) [])
unfolding staged_by stages_results every_finite
exactly true false o f c h = same_truth _ _ (λ t. rw t) (λ t. (both (finite c) true t).0)
exactly false false o f c h = h refl
exactly r true SecondOrder f c h =
    same_truth _ _
    (λ t. let p = stage_passes f.first c t in append_true (cond r (c ∷ []) []) (stage_results f.first c) (centre_true r c (λ _. p.input)) p.results)
    (λ t. last_finite f.first c (append_right (cond r (c ∷ []) []) (stage_results f.first c) t))
exactly r true FourthOrder f c h =
    let one = stage_results f.first c in
    let two = stage_results f.second (heard f.first c) in
    same_truth _ _
    (λ t.
    let q = stage_passes f.second (heard f.first c) t in
    let p = stage_passes f.first c q.input in
    append_true (cond r (c ∷ []) []) (one ++ two) (centre_true r c (λ _. p.input)) (append_true one two p.results q.results))
    (λ t. last_finite f.second (heard f.first c) (append_right one two (append_right (cond r (c ∷ []) []) (one ++ two) t)))

-- 26, 'a filter operation's rounded result isn't finite', exactly when: the sample's result is finite exactly where every operation's is
pub stops_exactly : (f : DcHighPassFilter) (x : Float) → finite x ≡ true → finite (pass_of f x).output ≡ every_finite (sample_results f x)
unfolding pass_of sample_results centred_of
stops_exactly f x h =
    exactly f.config.enable_dc_removal f.config.enable_highpass f.config.highpass_order f (centred_of f x) (λ off. rw off h)
