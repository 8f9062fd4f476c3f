-- What the bits of a float say: its sign, its significand and its place, and that its value is these.
use Rattle.std.proofs.Common.{◌≡◌, ℕ, zero, suc, ◌+◌, ◌*◌, ◌%◌, ◌^◌, ◌<◌, ◌≤◌, Bool, true, false, cond, not, T, eqb, ◌⊎◌, ℤ, sym, refl, ap, ◌∙◌, subst, ap₂, inl, inr, le_of_suc-le-suc, lt_irrefl, mod-lt, mul_assoc, div-lt_iff_lt-mul, add_comm, pow-suc, mul_right_comm, arith, pow_pos, eq-eqb, ne_eqb, eqb-true}
use lib.Arith.{lt_of_le-ne}
use lib.Ieee.{Float, nan, inf, fin, binary32, up, down, odd, of_fields, of_bits, to_bits, is_nan, fits}
use lib.Ieee.Bits.{of_bits-to_bits}
use lib.Ieee.Scale.{finite}
use lib.Ieee.Exact.{HasValue, odd_sign}
use borrow.Author.Tests.{eqb-false}
use Rattle.float.specs.Inside.{field_of, sign_of, place_at, significand_at, M, Q}

-- finite: the field is below 255, and the value is the significand times 2 ^ (place - 150)
abbrev pub Decoded : Float → ℕ → Type 0
Decoded nan b = field_of b ≡ 255
Decoded (inf s) b = field_of b ≡ 255
Decoded (fin s m e) b = (field_of b < 255) × (s ≡ sign_of b) × (m * up e * 2 ^ 150 ≡ M b * 2 ^ Q b * down e)

pub field_in : (b : ℕ) → field_of b < 256
field_in b = (div-lt_iff_lt-mul {k = 8388608} {x = b % 2147483648} {y = 256} (pow_pos 23)).1 (mod-lt b (pow_pos 31))

twice : (x : Float) (s : Bool) (a : ℕ) → HasValue x s a (2 ^ 149) → HasValue x s (a * 2) (2 ^ 150)
twice nan s a h = absurd h
twice (inf t) s a h = absurd h
twice (fin t m e) s a h = (h.0, ap (λ (k : ℕ). m * up e * k) (pow-suc 2 149) ∙ sym (mul_assoc (m * up e) (2 ^ 149) 2) ∙ ap (λ (k : ℕ). k * 2) h.1 ∙ mul_right_comm a (down e) 2)

-- what the fields of a finite value are
abbrev Says : Float → Bool → ℕ → ℕ → Type 0
Says v s x t = (x < 255) × HasValue v s (significand_at x t * 2 ^ place_at x) (2 ^ 150)

no_lt : (x : ℕ) → x < 256 → (x ≡ 255 → ⊥) → x < 255
no_lt x h n = lt_of_le-ne (le_of_suc-le-suc h) n

read : (s : Bool) (x t : ℕ) (r : Bool) (m : ℕ) (e : ℤ) → x < 256 → of_fields binary32 s x t ≡ fin r m e → Says (of_fields binary32 s x t) s x t
unfolding of_fields
read s zero t r m e h p = ((omega arith), subst (λ (k : ℕ). HasValue (odd 24 s t 0 149) s k (2 ^ 150)) (ap (λ (k : ℕ). k * 2) (omega arith)) (twice (odd 24 s t 0 149) s (t * 2 ^ 0) (odd_sign 24 s t 0 149)))
read s (suc x) t r m e h p = go (eqb (suc x) 255) (eqb t 0) (eqb-true (suc x) 255) (eqb-false (suc x) 255) p
  where
    go : (a b : Bool) → (a ≡ true → suc x ≡ 255) → (a ≡ false → suc x ≡ 255 → ⊥) → cond a (cond b (inf s) nan) (odd 24 s (8388608 + t) x 149) ≡ fin r m e
        → Says (cond a (cond b (inf s) nan) (odd 24 s (8388608 + t) x 149)) s (suc x) t
    go true true y n q = absurd (let z : ◌≡◌ {A = ℕ} 0 1 = cc q in omega arith)
    go true false y n q = absurd (let z : ◌≡◌ {A = ℕ} 0 1 = cc q in omega arith)
    go false b y n q = (
      no_lt (suc x) h (n refl),
      subst (λ (k : ℕ). HasValue (odd 24 s (8388608 + t) x 149) s k (2 ^ 150)) (mul_assoc (8388608 + t) (2 ^ x) 2 ∙ ap₂ (λ (k l : ℕ). k * l) (add_comm 8388608 t) (sym (pow-suc 2 x))) (twice (odd 24 s (8388608 + t) x 149) s ((8388608 + t) * 2 ^ x) (odd_sign 24 s (8388608 + t) x 149)),
    )

of_bits_is : (b : ℕ) → of_bits binary32 b ≡ of_fields binary32 (sign_of b) (field_of b) (b % 8388608)
unfolding of_bits
of_bits_is b = refl

pub decoded : (x : Float) → T (fits binary32 x) → Decoded x (to_bits binary32 x)
unfolding is_nan to_bits
decoded nan t = refl
decoded (inf true) t = refl
decoded (inf false) t = refl
decoded (fin s m e) t =
    let b = to_bits binary32 (fin s m e) in
    let p : of_fields binary32 (sign_of b) (field_of b) (b % 8388608) ≡ fin s m e = sym (of_bits_is b) ∙ of_bits-to_bits binary32 (fin s m e) t in
    finish s m e b (subst (λ (v : Float). Says v (sign_of b) (field_of b) (b % 8388608)) p (read (sign_of b) (field_of b) (b % 8388608) s m e (field_in b) p))
  where
    finish : (s : Bool) (m : ℕ) (e : ℤ) (b : ℕ) → Says (fin s m e) (sign_of b) (field_of b) (b % 8388608) → Decoded (fin s m e) b
    finish s m e b h = (h.0, h.1.0, h.1.1)

-- ---- finite, by the field
pub finite_says : (x : Float) → T (fits binary32 x) → not (eqb (field_of (to_bits binary32 x)) 255) ≡ finite x
finite_says x t = go x (decoded x t)
  where
    go : (x : Float) → Decoded x (to_bits binary32 x) → not (eqb (field_of (to_bits binary32 x)) 255) ≡ finite x
    go nan d = ap not (eq-eqb (field_of (to_bits binary32 nan)) 255 d)
    go (inf s) d = ap not (eq-eqb (field_of (to_bits binary32 (inf s))) 255 d)
    go (fin s m e) d = ap not (ne_eqb (field_of (to_bits binary32 (fin s m e))) 255 (λ q. lt_irrefl 255 (subst (λ (k : ℕ). k < 255) q d.0)))

-- ---- the significand's size
pub significand_lt : (b : ℕ) → M b < 2 ^ 24
significand_lt b = go (field_of b) (b % 8388608) (mod-lt b (pow_pos 23))
  where
    go : (x t : ℕ) → t < 8388608 → significand_at x t < 16777216
    go zero t h = omega arith
    go (suc x) t h = omega arith

-- it has its leading digit, or stands at the lowest place
pub normal_or_low : (b : ℕ) → (8388608 ≤ M b) ⊎ (Q b ≡ 1)
normal_or_low b = go (field_of b) (b % 8388608)
  where
    go : (x t : ℕ) → (8388608 ≤ significand_at x t) ⊎ (place_at x ≡ 1)
    go zero t = inr refl
    go (suc x) t = inl (omega arith)

pub place_lt : (b : ℕ) → Q b < 256
place_lt b = go (field_of b) (field_in b)
  where
    go : (x : ℕ) → x < 256 → place_at x < 256
    go zero h = omega arith
    go (suc x) h = h
