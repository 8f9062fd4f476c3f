-- Document 01's rows: their fields, rows as numbers, what they count as talk, and their order.
use Rattle.std.specs.Prelude.{List, [], ◌∷◌, ◌++◌, map, ℕ, ◌+◌, ◌-◌, ◌/◌, ◌≤◌, ◌<◌, length, None, Option, Some}
use Rattle.vad_row.specs.declared.Row.{Row}

-- ---- rows as numbers

-- 'A row is seven u64: start sample, end sample, start time, end time, score total, loud frames, bits of the f32 mean energy'
abbrev pub fields : List (Row → ℕ)
fields =
    (λ r. r.start_sample)
    ∷ (λ r. r.end_sample)
    ∷ (λ r. r.start_time)
    ∷ (λ r. r.end_time)
    ∷ (λ r. r.score_total)
    ∷ (λ r. r.loud_frames)
    ∷ (λ r. r.mean_energy)
    ∷ []

unfoldable pub fields_of : Row → List ℕ
fields_of r = map (λ f. f r) fields

abbrev pub row_width : ℕ
row_width = length fields

-- of a lent slice 'its length div the fields of a row fit'
unfoldable pub room_of : ℕ → ℕ
room_of n = n / row_width

-- rows one after the other
unfoldable pub flat : List Row → List ℕ
flat [] = []
flat (r ∷ rs) = fields_of r ++ flat rs

-- what a frame reports, as rows
unfoldable pub reported : Option Row → List Row
reported None = []
reported (Some r) = r ∷ []

-- ---- talk

-- what a row counts: 'end − start'
unfoldable pub talk_in : Row → ℕ
talk_in r = r.end_sample - r.start_sample

-- 'talk samples: the sum of end − start over all rows'
unfoldable pub talk_of : List Row → ℕ
talk_of [] = 0
talk_of (r ∷ rs) = talk_in r + talk_of rs

-- ---- order

-- 'Rows come out in order and never overlap': each starts where the one before it ended, or later, and ends past its start
abbrev pub InOrder : ℕ → List Row → Type 0
InOrder from [] = Unit {0}
InOrder from (r ∷ rs) = (from ≤ r.start_sample) × (r.start_sample < r.end_sample) × InOrder r.end_sample rs
