-- A word with its top digit placed rounds to q * 2 ^ k units, and the bits of that are k * 2 ^ 23 + q.
use Rattle.std.proofs.Common.{◌≡◌, ℕ, zero, suc, ◌+◌, ◌-◌, ◌*◌, ◌/◌, ◌%◌, ◌^◌, ◌<◌, ◌≤◌, Bool, true, false, cond, T, ltb, ◌⊎◌, sym, refl, ap, ◌∙◌, subst, ap₂, inl, inr, le_trans, le_of_eq, le_refl, lt_of_lt_of_le, lt_of_le_of_lt, add_assoc, lt_irrefl, mul-le-mul_right, mul_assoc, suc-mul, eq-zero-or-pos, le_antisymm, eq-or-lt_of_le, mul-lt-mul_of_pos_right, mul-pos, lt_of_not-le, le-div_iff_mul-le, mul-one, mul-div_cancel, arith, lit<, ltb→lt, lt→ltb, pow_pos, pow_mono, pow-add, shr_lt}
use Prim.Native.Nat.{compare}
use native.Mathlib.Nat.{pow-succ'}
use lib.Dec.{not_T}
use lib.Pow.{pow-lt}
use lib.Ieee.{Float, nan, inf, fin, Format, binary32, prec, low, down, size, odd, units, round, hid, top, to_bits, of_bits}
use lib.Ieee.Digits.{Equals, odd_val, size-lt, size-le}
use lib.Ieee.Fits.{round_is, two, two-le_pos, nearest-le, odd-fits, down_pos}
use lib.Ieee.Bits.{of_bits-to_bits, cond_no}
use lib.Ieee.Nearest.{closest, closest_same, nearest-ge}
use Rattle.float.proofs.Sticky.{Dropped, drop_is}

-- ---- a word with its top digit placed
module _ (f : Format) (s : Bool) (w c i j : ℕ) (lo : 2 ^ (prec f - 1 + c) ≤ w) (hi : w < 2 ^ (prec f + c)) where
  word_dropped : Dropped (prec f) (w * 2 ^ i * 2 ^ low f) (2 ^ j) (i + low f + c - j)
  word_dropped =
      let p = prec f in
      let l = low f in
      let k = i + l + c - j in
      let n_is : w * 2 ^ i * 2 ^ l ≡ w * 2 ^ (i + l) = mul_assoc w (2 ^ i) (2 ^ l) ∙ ap (λ (z : ℕ). w * z) (sym (pow-add 2 i l)) in (
        subst (λ (z : ℕ). z < 2 ^ (p + k) * 2 ^ j) (sym n_is)
            (lt_of_lt_of_le (mul-lt-mul_of_pos_right hi (pow_pos (i + l)))
            (le_trans (le_of_eq (sym (pow-add 2 (p + c) (i + l)))) (le_trans (pow_mono (omega arith)) (le_of_eq (pow-add 2 (p + k) j))))),
        elim (eq-zero-or-pos k) [
          | inl z ↦ inl z
          | inr g ↦
              inr (subst (λ (z : ℕ). 2 ^ (p - 1 + k) * 2 ^ j ≤ z) (sym n_is)
              (le_trans (le_of_eq (sym (pow-add 2 (p - 1 + k) j) ∙ ap (λ (z : ℕ). 2 ^ z) (omega arith) ∙ pow-add 2 (p - 1 + c) (i + l))) (mul-le-mul_right (2 ^ (i + l)) lo)))
        ],
      )

  pub round_word : round f s (w * 2 ^ i) (2 ^ j) ≡ units f s (closest w (2 ^ (c + (j - (i + low f + c))))) (i + low f + c - j)
  round_word =
      let p = prec f in
      let l = low f in
      let k = i + l + c - j in
      let h = c + (j - (i + l + c)) in
      let n = w * 2 ^ i * 2 ^ l in
      round_is f s (w * 2 ^ i) (2 ^ j)
      ∙ ap (λ (z : ℕ). units f s (closest n (2 ^ j * 2 ^ z)) z) (drop_is p n (2 ^ j) k (two-le_pos p (two f)) (pow_pos j) word_dropped)
      ∙ ap (λ (z : ℕ). units f s z k)
      (closest_same n (2 ^ j * 2 ^ k) w (2 ^ h) (mul-pos (pow_pos j) (pow_pos k)) (pow_pos h)
      (ap (λ (z : ℕ). z * 2 ^ h) (mul_assoc w (2 ^ i) (2 ^ l) ∙ ap (λ (z : ℕ). w * z) (sym (pow-add 2 i l)))
      ∙ mul_assoc w (2 ^ (i + l)) (2 ^ h)
      ∙ ap (λ (z : ℕ). w * z) (sym (pow-add 2 (i + l) h) ∙ ap (λ (z : ℕ). 2 ^ z) (omega arith) ∙ pow-add 2 j k)))

  -- the kept number has at most prec digits or is 2 ^ prec, and has all of them where digits are dropped
  pub word_le : closest w (2 ^ (c + (j - (i + low f + c)))) ≤ 2 ^ prec f
  word_le =
      let h = c + (j - (i + low f + c)) in
      le_trans (nearest-le (w / 2 ^ h) (compare (w % 2 ^ h * 2) (2 ^ h))) (shr_lt (prec f) h (lt_of_lt_of_le hi (pow_mono (omega arith))))

  pub word_ge : (i + low f + c - j ≡ 0) ⊎ (2 ^ (prec f - 1) ≤ closest w (2 ^ (c + (j - (i + low f + c)))))
  word_ge =
      let h = c + (j - (i + low f + c)) in
      elim (eq-zero-or-pos (i + low f + c - j)) [
        | inl z ↦ inl z
        | inr g ↦
            inr (le_trans
            ((le-div_iff_mul-le {k = 2 ^ h} {x = 2 ^ (prec f - 1)} {y = w} (pow_pos h)).1
            (le_trans (le_of_eq (sym (pow-add 2 (prec f - 1) h) ∙ ap (λ (z : ℕ). 2 ^ (prec f - 1 + z)) (omega arith))) lo))
            (nearest-ge (w / 2 ^ h) (compare (w % 2 ^ h * 2) (2 ^ h))))
      ]

-- ---- the bits of q * 2 ^ k units
size_is : (n z : ℕ) → n < 2 ^ suc z → 2 ^ z ≤ n → size n ≡ suc z
size_is n z hi lo = le_antisymm (size-le n (suc z) hi) (lt_of_not-le (λ (g : size n ≤ z). lt_irrefl n (lt_of_lt_of_le (size-lt n) (le_trans (pow_mono g) lo))))

-- v is finite and has the sign s
abbrev pub Signed : Bool → Float → Type 0
Signed s nan = ⊥
Signed s (inf t) = ⊥
Signed s (fin t m e) = t ≡ s

pub to_bits_val : (f : Format) (s : Bool) (v : Float) (a : ℕ) → Signed s v → Equals v a (2 ^ low f) → to_bits f v ≡ cond s (top f) 0 + (size a - prec f) * hid f + a / 2 ^ (size a - prec f)
unfolding to_bits
to_bits_val f s nan a p h = absurd h
to_bits_val f s (inf t) a p h = absurd h
to_bits_val f s (fin t m e) a p h =
    ap₂ (λ (t : Bool) (x : ℕ). cond t (top f) 0 + (size x - prec f) * hid f + x / 2 ^ (size x - prec f)) p (ap (λ (x : ℕ). x / down e) h ∙ mul-div_cancel a (down_pos e))

odd_finite : (d : ℕ) (s : Bool) (q k l : ℕ) → Signed s (odd d s q k l)
unfolding odd
odd_finite d s zero k l = refl
odd_finite d s (suc q) k l = refl

-- what the two fields of the bits come to, in a format of suc p digits
pub fields_of_lem : (p q k : ℕ) → q ≤ 2 ^ suc p → (k ≡ 0) ⊎ (2 ^ p ≤ q) → (size (q * 2 ^ k) - suc p) * 2 ^ p + q * 2 ^ k / 2 ^ (size (q * 2 ^ k) - suc p) ≡ k * 2 ^ p + q
fields_of_lem p q k le ge = elim (eq-or-lt_of_le le) [
  | inl e ↦
      let n_is : q * 2 ^ k ≡ 2 ^ (suc p + k) = ap (λ (z : ℕ). z * 2 ^ k) e ∙ sym (pow-add 2 (suc p) k) in
      let z : size (q * 2 ^ k) ≡ suc (suc p + k) = size_is (q * 2 ^ k) (suc p + k) (subst (λ (x : ℕ). x < 2 ^ suc (suc p + k)) (sym n_is) (pow-lt (le_refl (suc (suc p + k))))) (le_of_eq (sym n_is)) in
      ap (λ (x : ℕ). (x - suc p) * 2 ^ p + q * 2 ^ k / 2 ^ (x - suc p)) z
      ∙ ap (λ (x : ℕ). x * 2 ^ p + q * 2 ^ k / 2 ^ x) (omega arith)
      ∙ ap (λ (x : ℕ). suc k * 2 ^ p + x / 2 ^ suc k) (n_is ∙ ap (λ (x : ℕ). 2 ^ x) (omega arith) ∙ pow-add 2 p (suc k))
      ∙ ap (λ (x : ℕ). suc k * 2 ^ p + x) (mul-div_cancel (2 ^ p) (pow_pos (suc k)))
      ∙ ap (λ (x : ℕ). x + 2 ^ p) (suc-mul k (2 ^ p))
      ∙ (omega (arith, pow-succ' 2 p))
  | inr l ↦
      let k_is : size (q * 2 ^ k) - suc p ≡ k = elim ge [
        | inl z ↦ omega (arith, (size-le (q * 2 ^ k) (suc p) (subst (λ (x : ℕ). q * 2 ^ x < 2 ^ suc p) (sym z) (subst (λ (x : ℕ). x < 2 ^ suc p) (sym (mul-one q)) l))))
        | inr g ↦ ap (λ (x : ℕ). x - suc p) (size_is (q * 2 ^ k) (p + k) (lt_of_lt_of_le (mul-lt-mul_of_pos_right l (pow_pos k)) (le_of_eq (sym (pow-add 2 (suc p) k) ∙ ap (λ (x : ℕ). 2 ^ x) (omega arith)))) (le_trans (le_of_eq (pow-add 2 p k)) (mul-le-mul_right (2 ^ k) g))) ∙ (omega arith)
      ] in
      ap (λ (x : ℕ). x * 2 ^ p + q * 2 ^ k / 2 ^ x) k_is ∙ ap (λ (x : ℕ). k * 2 ^ p + x) (mul-div_cancel q (pow_pos k))
]

-- below the largest finite value, in units and in bits alike
pub in_range : (q k : ℕ) → q ≤ 2 ^ 24 → (k ≡ 0) ⊎ (2 ^ 23 ≤ q) → k * 8388608 + q < 2139095040 → q * 2 ^ k < 2 ^ 277
in_range q k le ge h = elim (cases q k le ge h) [
  | inl g ↦ lt_of_le_of_lt (mul-le-mul_right (2 ^ k) le) (subst (λ (x : ℕ). x < 2 ^ 277) (pow-add 2 24 k) (pow-lt (low k g)))
  | inr g ↦ lt_of_lt_of_le (mul-lt-mul_of_pos_right g.1 (pow_pos k)) (le_of_eq (sym (pow-add 2 24 k) ∙ ap (λ (x : ℕ). 2 ^ (24 + x)) g.0))
]
  where
    cases : (q k : ℕ) → q ≤ 16777216 → (k ≡ 0) ⊎ (8388608 ≤ q) → k * 8388608 + q < 2139095040 → (k < 253) ⊎ ((k ≡ 253) × (q < 16777216))
    cases q k le (inl z) h = inl (omega arith)
    cases q k le (inr g) h = elim (eq-or-lt_of_le (at_most q k g h)) [ inl e ↦ inr (e, last q k e h) | inr l ↦ inl l ]
      where
        at_most : (q k : ℕ) → 8388608 ≤ q → k * 8388608 + q < 2139095040 → k ≤ 253
        at_most q k g h = omega arith

        last : (q k : ℕ) → k ≡ 253 → k * 8388608 + q < 2139095040 → q < 16777216
        last q k e h = omega arith

    low : (k : ℕ) → k < 253 → 24 + k < 277
    low k g = omega arith

out_of_range : (q k : ℕ) → q ≤ 2 ^ 24 → (k ≡ 0) ⊎ (2 ^ 23 ≤ q) → 2139095040 ≤ k * 8388608 + q → 2 ^ 277 ≤ q * 2 ^ k
out_of_range q k le ge h = elim (cases q k le ge h) [
  | inl g ↦ le_trans (pow_mono (high k g.0)) (le_trans (le_of_eq (pow-add 2 23 k)) (mul-le-mul_right (2 ^ k) g.1))
  | inr g ↦ le_trans (le_of_eq (ap (λ (x : ℕ). 2 ^ (24 + x)) (sym g.0) ∙ pow-add 2 24 k)) (mul-le-mul_right (2 ^ k) g.1)
]
  where
    cases : (q k : ℕ) → q ≤ 16777216 → (k ≡ 0) ⊎ (8388608 ≤ q) → 2139095040 ≤ k * 8388608 + q → ((254 ≤ k) × (8388608 ≤ q)) ⊎ ((k ≡ 253) × (16777216 ≤ q))
    cases q k le (inl z) h = absurd (no q k le z h)
      where
        no : (q k : ℕ) → q ≤ 16777216 → k ≡ 0 → 2139095040 ≤ k * 8388608 + q → ⊥
        no q k le z h = omega arith
    cases q k le (inr g) h = elim (eq-or-lt_of_le (at_least_lem q k le h)) [ inl e ↦ inr (sym e, last q k e h) | inr l ↦ inl (l, g) ]
      where
        at_least_lem : (q k : ℕ) → q ≤ 16777216 → 2139095040 ≤ k * 8388608 + q → 253 ≤ k
        at_least_lem q k g h = omega arith

        last : (q k : ℕ) → 253 ≡ k → 2139095040 ≤ k * 8388608 + q → 16777216 ≤ q
        last q k e h = omega arith

    high : (k : ℕ) → 254 ≤ k → 277 ≤ 23 + k
    high k g = omega arith

pub units_in : (s : Bool) (q k : ℕ) → q * 2 ^ k < 2 ^ 277 → units binary32 s q k ≡ odd 25 s q k 149
unfolding units
units_in s q k h = go (ltb (q * 2 ^ k) (2 ^ 277)) (lt→ltb (q * 2 ^ k) (2 ^ 277) h)
  where
    go : (b : Bool) → T b → cond b (odd 25 s q k 149) (inf s) ≡ odd 25 s q k 149
    go true t = refl
    go false t = absurd t

units_out : (s : Bool) (q k : ℕ) → 2 ^ 277 ≤ q * 2 ^ k → units binary32 s q k ≡ inf s
unfolding units
units_out s q k h = cond_no (ltb (q * 2 ^ k) (2 ^ 277)) (odd 25 s q k 149) (inf s) (not_T (ltb (q * 2 ^ k) (2 ^ 277)) (λ t. lt_irrefl (2 ^ 277) (lt_of_le_of_lt h (ltb→lt (q * 2 ^ k) (2 ^ 277) t))))

pub pack_in : (s : Bool) (q k : ℕ) → q ≤ 2 ^ 24 → (k ≡ 0) ⊎ (2 ^ 23 ≤ q) → k * 8388608 + q < 2139095040 → of_bits binary32 (cond s 2147483648 0 + (k * 8388608 + q)) ≡ units binary32 s q k
pack_in s q k le ge h =
    let v = odd 25 s q k 149 in
    let r : q * 2 ^ k < 2 ^ 277 = in_range q k le ge h in
    let b : to_bits binary32 v ≡ cond s 2147483648 0 + (k * 8388608 + q) =
    to_bits_val binary32 s v (q * 2 ^ k) (odd_finite 25 s q k 149) (odd_val 25 s q k 149)
    ∙ add_assoc (cond s 2147483648 0) ((size (q * 2 ^ k) - 24) * 8388608) (q * 2 ^ k / 2 ^ (size (q * 2 ^ k) - 24))
    ∙ ap (λ (x : ℕ). cond s 2147483648 0 + x) (fields_of_lem 23 q k le ge) in
    ap (of_bits binary32) (sym b) ∙ of_bits-to_bits binary32 v (odd-fits binary32 25 s q k (lt_of_le_of_lt le (lit< tt)) le r) ∙ sym (units_in s q k r)

pub pack_out : (s : Bool) (q k : ℕ) → q ≤ 2 ^ 24 → (k ≡ 0) ⊎ (2 ^ 23 ≤ q) → 2139095040 ≤ k * 8388608 + q → units binary32 s q k ≡ inf s
pack_out s q k le ge h = units_out s q k (out_of_range q k le ge h)
