use Rattle.std.proofs.Common.{◌≡◌, ℕ, ◌<◌, T, sym, ap, ◌∙◌, subst, inl, inr, eq-zero-or-pos}
use lib.Ieee.{Float, binary32, fits, to_bits}
use Rattle.float.specs.Inside.{field_of}
use Rattle.float.proofs.Words.{T_of}
use Rattle.float.proofs.Decode.{Decoded, decoded}
use Rattle.float.proofs.RootExact.{no_root, zero_root, minus_root, plus_root}
use Rattle.float.proofs.sqrt.Goals as goal

positive : (m : ℕ) → (m ≡ 0 → ⊥) → 0 < m
positive m n = elim (eq-zero-or-pos m) [ inl e ↦ absurd (n e) | inr p ↦ p ]

-- the bits b of x
known : (x : Float) (b : ℕ) → b ≡ to_bits binary32 x → T (fits binary32 x) → Decoded x b
known x b e t = subst (λ (z : ℕ). Decoded x z) (sym e) (decoded x t)

pub returns-then-field-eq255 : goal.returns-then-field-eq255
returns-then-field-eq255 c =
    no_root c.args.x (T_of c.well_formed.0.1) (ap field_of (sym c.to_bits-b.ensures) ∙ sym c.field.ensures ∙ c.if-field-eq255.true)

pub returns-then-significand-eq0 : goal.returns-then-significand-eq0
returns-then-significand-eq0 c =
    let b = c.to_bits-b.result in
    zero_root c.args.x b (known c.args.x b c.to_bits-b.ensures (T_of c.well_formed.0.1)) (λ e. c.if-field-eq255.false (c.field.ensures ∙ e)) (sym c.significand.ensures ∙ c.if-significand-eq0.true)

pub returns-then-negative : goal.returns-then-negative
returns-then-negative c =
    let b = c.to_bits-b.result in
    minus_root c.args.x b (known c.args.x b c.to_bits-b.ensures (T_of c.well_formed.0.1))
    (λ e. c.if-field-eq255.false (c.field.ensures ∙ e))
    (λ e. c.if-significand-eq0.false (c.significand.ensures ∙ e))
    (sym c.negative.ensures ∙ c.if-negative.true)

pub positive_root-requires : goal.positive_root-requires
positive_root-requires c = positive _ (λ e. c.if-significand-eq0.false (c.significand.ensures ∙ e))

pub returns : goal.returns
returns c =
    let b = c.to_bits-b.result in
    c.positive_root.ensures
    ∙ plus_root c.args.x b (known c.args.x b c.to_bits-b.ensures (T_of c.well_formed.0.1))
    (λ e. c.if-field-eq255.false (c.field.ensures ∙ e))
    (λ e. c.if-significand-eq0.false (c.significand.ensures ∙ e))
    (sym c.negative.ensures ∙ c.if-negative.false)
