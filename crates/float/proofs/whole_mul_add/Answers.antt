use Rattle.std.proofs.Common.{◌≡◌, ℕ, sym, ap, ◌∙◌, ap₂}
use lib.Ieee.{Float, binary32, to_bits}
use Rattle.float.specs.Inside.{field_of, fused_bits_of}
use Rattle.float.proofs.Words.{T_of}
use Rattle.float.proofs.Decode.{decoded}
use Rattle.float.proofs.Exact.{no_first, no_second, no_third, fused_is}
use Rattle.float.proofs.whole_mul_add.Goals.{then-field-eq255-via-then-field-eq255, then-field-eq255-via-else-field-eq255+then-field-eq255-2, then-field-eq255-via-else-field-eq255+else-field-eq255-2+then-field-eq255-3}
use Rattle.float.proofs.whole_mul_add.Goals as goal

field-says : (x : Float) (b r : ℕ) → b ≡ to_bits binary32 x → r ≡ field_of b → field_of (to_bits binary32 x) ≡ r
field-says x b r e f = sym (f ∙ ap field_of e)

pub returns-then-field-eq255 : goal.returns-then-field-eq255
returns-then-field-eq255 c =
    let s = c.args in
    elim c.then-field-eq255.branch [
      | then-field-eq255-via-then-field-eq255 w ↦ no_first s.a s.b s.c (T_of c.well_formed.0.1) (field-says s.a c.to_bits-x.result c.field.result c.to_bits-x.ensures c.field.ensures ∙ w.if-field-eq255.true)
      | then-field-eq255-via-else-field-eq255+then-field-eq255-2 w ↦
          let f = w.field-else-field-eq255 in
          no_second s.a s.b s.c (T_of c.well_formed.1.0.1) (field-says s.b c.to_bits-y.result f.result c.to_bits-y.ensures f.ensures ∙ w.if-field-eq255-2.true)
      | then-field-eq255-via-else-field-eq255+else-field-eq255-2+then-field-eq255-3 w ↦
          let f = w.field-else-field-eq255-2 in
          no_third s.a s.b s.c (T_of c.well_formed.1.1.0.1) (field-says s.c c.to_bits-z.result f.result c.to_bits-z.ensures f.ensures ∙ w.if-field-eq255-3.true)
    ]

pub returns : goal.returns
returns c =
    c.fused_bits.ensures
    ∙ ap₂ (λ (x y : ℕ). fused_bits_of x y c.to_bits-z.result) c.to_bits-x.ensures c.to_bits-y.ensures
    ∙ ap (λ (z : ℕ). fused_bits_of (to_bits binary32 c.args.a) (to_bits binary32 c.args.b) z) c.to_bits-z.ensures
    ∙ fused_is c.args.a c.args.b c.args.c (decoded c.args.a (T_of c.well_formed.0.1)) (decoded c.args.b (T_of c.well_formed.1.0.1)) (decoded c.args.c (T_of c.well_formed.1.1.0.1))
    (λ e. c.if-field-eq255.false (sym (field-says c.args.a c.to_bits-x.result c.field.result c.to_bits-x.ensures c.field.ensures) ∙ e))
    (λ e. c.if-field-eq255-2.false (sym (field-says c.args.b c.to_bits-y.result c.field-else-field-eq255.result c.to_bits-y.ensures c.field-else-field-eq255.ensures) ∙ e))
    (λ e. c.if-field-eq255-3.false (sym (field-says c.args.c c.to_bits-z.result c.field-else-field-eq255-2.result c.to_bits-z.ensures c.field-else-field-eq255-2.ensures) ∙ e))
