-- Rows one after the other, what they count as talk, and their order. Assumes nothing.
use Rattle.std.specs.Prelude.{None, Option, Some}
use mathlib.Core.Path.{◌≡◌, refl}
use mathlib.Core.List.{List, [], ◌∷◌, ◌++◌, append_assoc, append-nil}
use Prim.Native.Nat.{ℕ, ◌+◌, ◌-◌, ◌*◌, ◌≤◌, ◌<◌}
use native.Mathlib.Nat.{le_refl, le_trans, div-mul-le_self}
use native.Mathlib.Omega.{arith}
use lib.ListN.{length, length-append}
use Rattle.lists.specs.Every.{Every}
use Rattle.vad_row.specs.Rows.{fields_of, row_width, room_of, flat, reported, talk_in, talk_of, InOrder}
use Rattle.vad_row.specs.declared.Row.{Row}

-- ---- rows as numbers

pub fields_length : (r : Row) → length (fields_of r) ≡ row_width
unfolding fields_of
fields_length r = refl

pub flat_length : (rs : List Row) → length (flat rs) ≡ length rs * row_width
unfolding flat
flat_length [] = refl
flat_length (r ∷ rs) = let here = length-append (fields_of r) (flat rs) in let w = fields_length r in let rest = flat_length rs in omega arith

-- rows that fit have room
pub room_enough : (k n : ℕ) → k ≤ room_of n → k * row_width ≤ n
unfolding room_of
room_enough k n h = let m = div-mul-le_self n row_width in omega arith

pub flat_append : (a b : List Row) → flat (a ++ b) ≡ flat a ++ flat b
unfolding flat
flat_append [] b = refl
flat_append (r ∷ a) b = rw (flat_append a b, append_assoc (fields_of r) (flat a) (flat b))

-- what a frame reports
pub report_le : (p : Option Row) → length (reported p) ≤ 1
unfolding reported
report_le None = omega arith
report_le (Some r) = omega arith

pub flat_none : flat (reported None) ≡ []
unfolding flat reported
flat_none = refl

pub flat_row : (r : Row) → flat (reported (Some r)) ≡ fields_of r
unfolding flat reported
flat_row r = append-nil (fields_of r)

-- ---- talk

-- all that laws ask of what a row counts: at most its length, and something where it has one
pub record TalkFits (r : Row) : Type 0 where
  pub most : talk_in r ≤ r.end_sample - r.start_sample
  pub some : r.start_sample < r.end_sample → 1 ≤ talk_in r

pub talk_fits : (r : Row) → TalkFits r
unfolding talk_in
talk_fits r = record { most = le_refl (r.end_sample - r.start_sample); some = λ h. omega arith }

pub talk_none : talk_of [] ≡ 0
unfolding talk_of
talk_none = refl

-- of two lists of rows
pub talk_append : (rs ss : List Row) → talk_of (rs ++ ss) ≡ talk_of rs + talk_of ss
unfolding talk_of
talk_append [] ss = omega arith
talk_append (r ∷ rs) ss = omega (arith, talk_append rs ss)

-- ---- order

-- where the last row ends, or where rows may begin if there is none
abbrev pub last_end : ℕ → List Row → ℕ
last_end from [] = from
last_end from (r ∷ rs) = last_end r.end_sample rs

-- rows in order, the last of them ended by to
abbrev pub Between : ℕ → List Row → ℕ → Type 0
Between from rs to = InOrder from rs × (last_end from rs ≤ to)

-- every row starts at n or later
abbrev pub RowsFrom : ℕ → List Row → Type 0
RowsFrom n rs = Every (λ r. n ≤ r.start_sample) rs

-- the end is not before the beginning
pub last_end_le : (from : ℕ) (rs : List Row) → InOrder from rs → from ≤ last_end from rs
last_end_le from [] h = le_refl from
last_end_le from (r ∷ rs) h = omega (arith, h.0, h.1, last_end_le r.end_sample rs h.2)

pub between_le : (from : ℕ) (rs : List Row) (to : ℕ) → Between from rs to → from ≤ to
between_le from rs to h = le_trans (last_end_le from rs h.0) h.1

-- an earlier beginning
pub in_order_sooner : (a b : ℕ) (rs : List Row) → a ≤ b → InOrder b rs → InOrder a rs
in_order_sooner a b [] l h = tt
in_order_sooner a b (r ∷ rs) l h = (le_trans l h.0, h.1, h.2)

-- rows in order, and rows in order after them
pub in_order_append : (a b : ℕ) (rs ss : List Row) → Between a rs b → InOrder b ss → InOrder a (rs ++ ss)
in_order_append a b [] ss h g = in_order_sooner a b ss h.1 g
in_order_append a b (r ∷ rs) ss h g = (h.0.0, h.0.1, in_order_append r.end_sample b rs ss (h.0.2, h.1) g)

-- an earlier beginning, a later end
pub between_wider : (a b c d : ℕ) (rs : List Row) → a ≤ b → c ≤ d → Between b rs c → Between a rs d
between_wider a b c d [] l u h = (tt, omega (arith, h.1))
between_wider a b c d (r ∷ rs) l u h = (in_order_sooner a b (r ∷ rs) l h.0, le_trans h.1 u)

pub between_append : (a b c : ℕ) (rs ss : List Row) → Between a rs b → Between b ss c → Between a (rs ++ ss) c
between_append a b c [] ss h g = between_wider a b c c ss h.1 (le_refl c) g
between_append a b c (r ∷ rs) ss h g =
    let rest = between_append r.end_sample b c rs ss (h.0.2, h.1) g in
    ((h.0.0, h.0.1, rest.0), rest.1)

-- they don't overlap, so their talk together is at most the way from the beginning to the end
pub between_talk : (from : ℕ) (rs : List Row) (to : ℕ) → Between from rs to → from + talk_of rs ≤ to
unfolding talk_of
between_talk from [] to h = omega (arith, h.1)
between_talk from (r ∷ rs) to h = omega (arith, h.0.0, h.0.1, (talk_fits r).most, between_talk r.end_sample rs to (h.0.2, h.1))

-- and each counts a sample at least
pub in_order_rows : (from : ℕ) (rs : List Row) → InOrder from rs → length rs ≤ talk_of rs
unfolding talk_of
in_order_rows from [] h = omega arith
in_order_rows from (r ∷ rs) h = omega (arith, (talk_fits r).some h.1, in_order_rows r.end_sample rs h.2)

-- each starts at the beginning or later
pub in_order_starts : (from : ℕ) (rs : List Row) → InOrder from rs → RowsFrom from rs
in_order_starts from [] h = tt
in_order_starts from (r ∷ rs) h = (h.0, in_order_starts from rs (in_order_sooner from r.end_sample rs (omega (arith, h.0, h.1)) h.2))

-- and ends at the end or sooner
pub between_ends : (from : ℕ) (rs : List Row) (to : ℕ) → Between from rs to → Every (λ r. r.end_sample ≤ to) rs
between_ends from [] to h = tt
between_ends from (r ∷ rs) to h = (between_le r.end_sample rs to (h.0.2, h.1), between_ends r.end_sample rs to (h.0.2, h.1))
