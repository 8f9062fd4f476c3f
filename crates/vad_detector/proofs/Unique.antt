-- Two answers that meet a contract are equal, and so are two slices of rows: each contract is an equation.
use mathlib.Core.Path.{◌≡◌}
use mathlib.Core.List.{List}
use Prim.Native.Nat.{ℕ}
use lib.Ieee.{Float}
use Rattle.std.specs.Prelude.{Option, Result}
use Rattle.refusals.specs.declared.Refusal.{Refusal}
use Rattle.float.proofs.Unique.{only}
use Rattle.vad_config.specs.declared.VadConfig.{VadConfig}
use Rattle.vad_state.specs.declared.VadDetector.{VadDetector}
use Rattle.vad_call.specs.Answers.{Detected}
use Rattle.vad_detector.specs.Opening.{open_of, reset_of}
use Rattle.vad_detector.specs.Entries.{detect_of, detect_rows, flush_of, flush_rows}
use Rattle.vad_detector.specs.Readings.{undecided_read, analyzed_read, rows_read, talk_read, floor_read, segment_read}
use Rattle.vad_detector.specs.Answers.{Opened}

pub open_unique : (c : VadConfig) (window : List Float) (rise : Float) (r q : Opened) → r ≡ open_of c window rise → q ≡ open_of c window rise → r ≡ q
open_unique c window rise r q = only

pub reset_unique : (d : VadDetector) (start : ℕ) (r q : Opened) → r ≡ reset_of d start → q ≡ reset_of d start → r ≡ q
reset_unique d start r q = only

pub detect_unique : (d : VadDetector) (xs : List Float) (room : ℕ) (r q : Detected) → r ≡ detect_of d xs room → q ≡ detect_of d xs room → r ≡ q
detect_unique d xs room r q = only

pub detect_rows_unique : (d : VadDetector) (xs : List Float) (out r q : List ℕ) → r ≡ detect_rows d xs out → q ≡ detect_rows d xs out → r ≡ q
detect_rows_unique d xs out r q = only

pub flush_unique : (d : VadDetector) (room : ℕ) (r q : Detected) → r ≡ flush_of d room → q ≡ flush_of d room → r ≡ q
flush_unique d room r q = only

pub flush_rows_unique : (d : VadDetector) (out r q : List ℕ) → r ≡ flush_rows d out → q ≡ flush_rows d out → r ≡ q
flush_rows_unique d out r q = only

pub undecided_unique : (d : VadDetector) (r q : Result ℕ Refusal) → r ≡ undecided_read d → q ≡ undecided_read d → r ≡ q
undecided_unique d r q = only

pub analyzed_unique : (d : VadDetector) (r q : Result ℕ Refusal) → r ≡ analyzed_read d → q ≡ analyzed_read d → r ≡ q
analyzed_unique d r q = only

pub rows_unique : (d : VadDetector) (r q : Result ℕ Refusal) → r ≡ rows_read d → q ≡ rows_read d → r ≡ q
rows_unique d r q = only

pub talk_unique : (d : VadDetector) (r q : Result ℕ Refusal) → r ≡ talk_read d → q ≡ talk_read d → r ≡ q
talk_unique d r q = only

pub floor_unique : (d : VadDetector) (r q : Result Float Refusal) → r ≡ floor_read d → q ≡ floor_read d → r ≡ q
floor_unique d r q = only

pub segment_unique : (d : VadDetector) (r q : Result (Option ℕ) Refusal) → r ≡ segment_read d → q ≡ segment_read d → r ≡ q
segment_unique d r q = only
