use Rattle.std.proofs.Common.{◌≡◌, ℕ, ◌+◌, ◌-◌, ◌*◌, ◌/◌, ◌%◌, ◌<◌, ◌≤◌, Bool, true, false, cond, sym, ap, ◌∙◌, add-zero, add_assoc, arith, rules}
use lib.Ieee.{binary32, of_bits}
use Rattle.float.specs.Settled.{normal_size, cut_of, up_of, evened_of}
use Rattle.float.proofs.Words.{no_nan}
use Rattle.float.proofs.Settling.{normal_says, up_le}
use Rattle.float.proofs.quick.evened.Goals.{Then-normal}
use Rattle.float.proofs.quick.evened.Goals as goal

-- what f32 keeps of the size, and 1 where that is rounded up
abbrev m-of : ℕ → ℕ → ℕ
m-of high low = (high % 0x8000_0000 - 0x3800_0000) * 8 + low / 0x2000_0000

abbrev rise : ℕ → ℕ → ℕ
rise high low = (low % 0x2000_0000 + 0x0fff_ffff + m-of high low % 2) / 0x2000_0000

on : (k : Then-normal) → normal_size (k.args.high % 0x8000_0000) ≡ true
on k = sym k.normal.ensures ∙ k.if-normal.true

-- below an infinity's pattern
kept : (size low : ℕ) → 0x3810_0000 < size → size < 0x47ef_ffff → low < 4294967296 → (size - 0x3800_0000) * 8 + low / 0x2000_0000 < 0x7f7f_ffff
kept size low l h f = omega arith

bounds : (k : Then-normal) → let a = k.args in (0x3810_0000 < a.high % 0x8000_0000) × (a.high % 0x8000_0000 < 0x47ef_ffff) × (m-of a.high a.low < 0x7f7f_ffff) × (rise a.high a.low ≤ 1)
bounds k =
    let a = k.args in
    let s = normal_says (a.high % 0x8000_0000) (on k) in
    (s.0, s.1, kept (a.high % 0x8000_0000) a.low s.0 s.1 (omega arith), up_le (m-of a.high a.low) a.low)

-- the sign's digit stands above them
signed : (high m u : ℕ) → high < 4294967296 → m < 0x7f7f_ffff → u ≤ 1 → high / 0x8000_0000 * 0x8000_0000 + m + u < 4294967296
signed high m u f l h = omega arith

unsigned : (high m u : ℕ) → m < 0x7f7f_ffff → u ≤ 1 → (high / 0x8000_0000 * 0x8000_0000 + m + u) % 2147483648 ≤ 2139095040
unsigned high m u l h = omega arith

fits : (k : Then-normal) → let a = k.args in a.high / 0x8000_0000 * 0x8000_0000 + m-of a.high a.low + rise a.high a.low < 4294967296
fits k = let a = k.args in signed a.high (m-of a.high a.low) (rise a.high a.low) (omega arith) (bounds k).2 (bounds k).3

pub overflow_sub-m : goal.overflow_sub-m
overflow_sub-m c = let l = (bounds (goal.at.overflow_sub-m c).Then-normal).0 in omega arith

pub overflow_mul-m : goal.overflow_mul-m
overflow_mul-m c = let l = (bounds (goal.at.overflow_mul-m c).Then-normal).1 in search rules

pub overflow_add-m : goal.overflow_add-m
overflow_add-m c = let l = (bounds (goal.at.overflow_add-m c).Then-normal).2 in search rules

pub overflow_add-result : goal.overflow_add-result
overflow_add-result c = let l = fits (goal.at.overflow_add-result c).Then-normal in search rules

pub overflow_add-result-then-normal : goal.overflow_add-result-then-normal
overflow_add-result-then-normal c = let l = fits (goal.at.overflow_add-result-then-normal c).Then-normal in search rules

pub float_from_bits-result : goal.float_from_bits-result
float_from_bits-result c =
    let a = c.args in
    let m = m-of a.high a.low in
    let u = rise a.high a.low in
    no_nan (a.high / 0x8000_0000 * 0x8000_0000 + m + u) (unsigned a.high m u (bounds (goal.at.float_from_bits-result c).Then-normal).2 (bounds (goal.at.float_from_bits-result c).Then-normal).3)

pub returns-then-normal : goal.returns-then-normal
unfolding evened_of cut_of up_of
returns-then-normal c =
    let a = c.args in
    let m = m-of a.high a.low in
    let u = rise a.high a.low in
    ap (of_bits binary32) (add_assoc (a.high / 0x8000_0000 * 0x8000_0000) m u) ∙ ap (λ (t : Bool). of_bits binary32 (a.high / 0x8000_0000 * 0x8000_0000 + cond t (m + u) 0)) (sym (on (goal.at.returns-then-normal c).Then-normal))

pub float_from_bits-result-2 : goal.float_from_bits-result-2
float_from_bits-result-2 c = no_nan (c.args.high / 0x8000_0000 * 0x8000_0000) (omega arith)

pub returns : goal.returns
unfolding evened_of cut_of up_of
returns c =
    let a = c.args in
    let m = m-of a.high a.low in
    let u = rise a.high a.low in
    let off : normal_size (a.high % 0x8000_0000) ≡ false = sym c.normal.ensures ∙ c.if-normal.false in
    ap (of_bits binary32) (sym (add-zero (a.high / 0x8000_0000 * 0x8000_0000))) ∙ ap (λ (t : Bool). of_bits binary32 (a.high / 0x8000_0000 * 0x8000_0000 + cond t (m + u) 0)) (sym off)
