use Rattle.std.specs.Prelude.{Some}
use Rattle.std.proofs.Common.{ℕ, Bool, sym, ap, ◌∙◌, ap₂}
use lib.Ieee.{Float}
use Rattle.float.specs.Settled.{evened_of, settled_by, quick_of}
use Rattle.float.proofs.Settling.{number, casts, wide_number, quick_fused}
use Rattle.float.proofs.quick.quick_sum.Goals as goal

pub float_to_float-bits : goal.float_to_float-bits
float_to_float-bits c = casts c.args.a c.row_known-1.given c.requires.0

pub float_to_float-bits-2 : goal.float_to_float-bits-2
float_to_float-bits-2 c = casts c.args.b c.row_known-2-1.given c.requires.1

pub float_to_float-bits-3 : goal.float_to_float-bits-3
float_to_float-bits-3 c = casts c.args.c c.row_known-3-1.given c.requires.2

pub float_to_bits-bits : goal.float_to_bits-bits
float_to_bits-bits c = wide_number c.args.a c.args.b c.args.c c.row_known-1.given c.row_known-2-1.given c.requires

pub float_to_bits-x : goal.float_to_bits-x
float_to_bits-x c = number c.args.a c.requires.0

pub float_to_bits-y : goal.float_to_bits-y
float_to_bits-y c = number c.args.b c.requires.1

pub float_to_bits-z : goal.float_to_bits-z
float_to_bits-z c = number c.args.c c.requires.2

pub returns : goal.returns
unfolding quick_of
returns c =
    let a = c.args in
    let h = c.upper-high.ensures in
    let l = c.lower-low.ensures in
    let x = c.evened.ensures ∙ ap₂ evened_of h l in
    let t = c.settles.ensures ∙ ap₂ (λ (x y : ℕ). settled_by x y c.exact.result) h l ∙ ap (settled_by _ _) c.exact.ensures in record {
      value = ap₂ {A = Float} {B = Bool} (λ (x : Float) (t : Bool). record { sum = x; settled = t }) x t;
      sum_value = λ h. ap Some x ∙ quick_fused a.a a.b a.c c.row_known-1.given c.row_known-2-1.given c.row_known-3-1.given c.requires (sym t ∙ h);
    }
