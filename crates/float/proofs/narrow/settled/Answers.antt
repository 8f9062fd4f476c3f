use Rattle.std.specs.Prelude.{None, Option, Some}
use Rattle.std.specs.Option.{IfSome, MatchOption}
use Rattle.std.proofs.Common.{◌≡◌, ℕ, T, sym, refl, rules}
use lib.Ieee.{Float, binary32, fits}
use Rattle.float.specs.Fused.{fused_of}
use Rattle.float.specs.Inside.{WideOf, Narrowed}
use Rattle.float.proofs.Words.{T_of}
use Rattle.float.proofs.Wide.{narrow_fused}
use Rattle.float.proofs.narrow.settled.Goals as goal

through : (a b c : Float) (w : Option ℕ) (r : Option Float) → T (fits binary32 a) → T (fits binary32 b) → IfSome w (λ k. WideOf k a b c) → MatchOption w (r ≡ None) (λ k. Narrowed k r) → IfSome r (λ x. fused_of a b c ≡ Some x)
through a b c w None s t p q = tt
through a b c None (Some x) s t p q = cc
through a b c (Some k) (Some x) s t p q = sym (narrow_fused a b c k (Some x) x s t p q refl)

pub returns : goal.returns
returns c =
    let a = c.args in
    through a.a a.b a.c c.wide_bits.result c.and_then.result (T_of c.well_formed.0.1) (T_of c.well_formed.1.0.1) c.wide_bits.ensures (search rules)
