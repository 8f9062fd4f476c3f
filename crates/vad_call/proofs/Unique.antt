-- Two answers that meet a public function's contract are equal, and so are two slices of rows: each contract is an equation.
use mathlib.Core.Path.{◌≡◌, sym, ap, ◌∙◌}
use mathlib.Core.Bool.{Bool, cond}
use mathlib.Core.List.{List, ◌++◌}
use Prim.Native.Nat.{ℕ, ◌+◌}
use native.Mathlib.Omega.{arith}
use lib.ListN.{length, take}
use lib.Seq.{sets}
use lib.Ieee.{Float}
use Rattle.float.proofs.Unique.{only}
use Rattle.vad_frames.specs.Emphasis.{emphasized, last_of}
use Rattle.vad_frames.specs.Grid.{energies_of, framed_of}
use Rattle.vad_frames.specs.declared.Framed.{Framed}
use Rattle.vad_classify.specs.declared.Classified.{Classified}
use Rattle.vad_state.specs.declared.Kept.{Kept}
use Rattle.vad_state.specs.declared.VadDetector.{VadDetector}
use Rattle.vad_call.specs.Calls.{holding_with, due_of, verdict_of, rows_due, refused_by, too_many, reported_in, ran_of, written_of, taken_of, settled_of}
use Rattle.vad_call.specs.declared.Outcome.{Outcome}
use Rattle.std.specs.Prelude.{Result, Ok, Err, IfOk}
use Rattle.std.specs.Result.{result_unwrap_or, result_and}
use Rattle.refusals.proofs.First.{ok_or_err}
use Rattle.refusals.specs.declared.Refusal.{Refusal}
use Rattle.vad_call.specs.declared.Tally.{Tally}
use Rattle.vad_call.specs.Answers.{Detected}
use Rattle.vad_call.specs.declared.Heard.{Heard}

-- ---- the parts of a call
pub gather_last_unique : (previous : Float) (xs : List Float) (r q : Float) → r ≡ last_of previous xs → q ≡ last_of previous xs → r ≡ q
gather_last_unique previous xs r q = only

pub gather_unique : (carry : List Float) (n : ℕ) (coeff previous : Float) (xs to r q : List Float) → r ≡ sets to 0 (take n carry ++ emphasized coeff previous xs) → q ≡ sets to 0 (take n carry ++ emphasized coeff previous xs) → r ≡ q
gather_unique carry n coeff previous xs to r q = only

pub waiting_unique : (k : Kept) (r q : ℕ) → r ≡ cond k.desk.warming k.desk.held 0 → q ≡ cond k.desk.warming k.desk.held 0 → r ≡ q
waiting_unique k r q = only

framed_same : (r q : Framed) → r.frames ≡ q.frames → r.consumed ≡ q.consumed → r ≡ q
framed_same r q a b =
    ap {B = Framed} (λ (n : ℕ). record { frames = n; consumed = r.consumed }) a ∙ ap {B = Framed} (λ (n : ℕ). record { frames = q.frames; consumed = n }) b

module _ (finish : Bool) (window : List Float) (n hop : ℕ) (warmup : List Float) (held : ℕ) (values : List Float) where
  pub measure_unique : (r q : Framed)
      → r.frames ≡ length (take held warmup ++ energies_of finish (take n window) hop values) → r.consumed ≡ (framed_of finish (take n window) hop values).consumed
      → q.frames ≡ length (take held warmup ++ energies_of finish (take n window) hop values) → q.consumed ≡ (framed_of finish (take n window) hop values).consumed → r ≡ q
  measure_unique r q a b c e = framed_same r q (only a c) (only b e)

  pub energies_unique : (to r q : List Float) → r ≡ sets to 0 (take held warmup ++ energies_of finish (take n window) hop values) → q ≡ sets to 0 (take held warmup ++ energies_of finish (take n window) hop values) → r ≡ q
  energies_unique to r q = only

outcome_same : (r q : Outcome) → r.refused ≡ q.refused → r.holds ≡ q.holds → r.needed ≡ q.needed → r.classified ≡ q.classified → r ≡ q
outcome_same r q a b c e =
    ap {B = Outcome} (λ (x : Bool). record { refused = x; holds = r.holds; needed = r.needed; classified = r.classified }) a
    ∙ ap {B = Outcome} (λ (x : Bool). record { refused = q.refused; holds = x; needed = r.needed; classified = r.classified }) b
    ∙ ap {B = Outcome} (λ (x : ℕ). record { refused = q.refused; holds = q.holds; needed = x; classified = r.classified }) c
    ∙ ap {B = Outcome} (λ (x : Classified). record { refused = q.refused; holds = q.holds; needed = q.needed; classified = x }) e

module _ (finish : Bool) (k : Kept) (received : ℕ) (es : List Float) where
  -- `hold_or_judge`'s contract
  abbrev pub Judges : ℕ → Outcome → Type 0
  Judges room r =
      (r.refused ≡ too_many (rows_due finish k received (due_of finish k es)) room)
      × (r.holds ≡ holding_with finish k (length es))
      × (r.needed ≡ length (rows_due finish k received (due_of finish k es)))
      × (r.classified ≡ verdict_of finish k received (due_of finish k es))

  pub hold_or_judge_unique : (room : ℕ) (r q : Outcome) → Judges room r → Judges room q → r ≡ q
  hold_or_judge_unique room r q a b = outcome_same r q (only a.0 b.0) (only a.1 b.1) (only a.2 b.2) (only a.3 b.3)

  pub reported_unique : (out r q : List ℕ) → r ≡ reported_in (rows_due finish k received (due_of finish k es)) out → q ≡ reported_in (rows_due finish k received (due_of finish k es)) out → r ≡ q
  reported_unique out r q = only

-- ---- the call
pub refused_unique : (by : Refusal) (d : VadDetector) (r q : Detected) → r ≡ refused_by by d → q ≡ refused_by by d → r ≡ q
refused_unique by d r q = only

pub run_unique : (finish : Bool) (d : VadDetector) (xs : List Float) (room : ℕ) (r q : Detected) → r ≡ ran_of finish d xs room → q ≡ ran_of finish d xs room → r ≡ q
run_unique finish d xs room r q = only

pub rows_unique : (finish : Bool) (d : VadDetector) (xs : List Float) (out r q : List ℕ) → r ≡ written_of finish d xs out → q ≡ written_of finish d xs out → r ≡ q
rows_unique finish d xs out r q = only

heard_same : (r q : Heard) → r.consumed ≡ q.consumed → r.kept ≡ q.kept → r.tally ≡ q.tally → r ≡ q
heard_same r q a b c =
    ap {B = Heard} (λ (x : ℕ). record { consumed = x; kept = r.kept; tally = r.tally }) a
    ∙ ap {B = Heard} (λ (x : Kept). record { consumed = q.consumed; kept = x; tally = r.tally }) b
    ∙ ap {B = Heard} (λ (x : Tally). record { consumed = q.consumed; kept = q.kept; tally = x }) c

abbrev tally_or : Tally → Detected → Tally
tally_or t p = result_unwrap_or p.outcome t

module _ (finish : Bool) (d : VadDetector) (xs : List Float) (room : ℕ) where
  -- `hear`'s contract, whose d is `state_of kept ..`, without its bounds; its rows are `run`'s
  abbrev pub Hears : List Float → List Float → Result Heard Refusal → Type 0
  Hears values energies r =
      (ran_of finish d xs room ≡ settled_of r values energies d) × IfOk r (λ h. (h.kept ≡ (ran_of finish d xs room).detector.kept) × (h.kept.stream.carry_start ≡ d.kept.stream.carry_start + h.consumed))

  -- whatever else the slices hold
  pub hear_unique : (vs es : List Float) (r : Result Heard Refusal) (ws fs : List Float) (q : Result Heard Refusal) → Hears vs es r → Hears ws fs q → r ≡ q
  unfolding settled_of taken_of refused_by
  hear_unique vs es (Ok r) ws fs (Ok q) a b =
      let both = sym a.0 ∙ b.0 in
      let kept = only a.1.0 b.1.0 in
      let start = ap (λ (k : Kept). k.stream.carry_start) kept in
      let first = a.1.1 in
      let second = b.1.1 in
      ap (λ (h : Heard). Ok h) (heard_same r q (omega arith) kept (ap (tally_or r.tally) both))
  hear_unique vs es (Ok r) ws fs (Err q) a b = absurd (ok_or_err (ap (λ (x : Detected). x.outcome) (sym a.0 ∙ b.0)))
  hear_unique vs es (Err r) ws fs (Ok q) a b = absurd (ok_or_err (ap (λ (x : Detected). x.outcome) (sym b.0 ∙ a.0)))
  hear_unique vs es (Err r) ws fs (Err q) a b = ap (λ (x : Detected). result_and {U = Heard} x.outcome (Err r)) (sym a.0 ∙ b.0)

  -- the new carry and the energies held too
  pub settled_unique : (vs es : List Float) (r : Result Heard Refusal) (ws fs : List Float) (q : Result Heard Refusal) → Hears vs es r → Hears ws fs q → settled_of r vs es d ≡ settled_of q ws fs d
  settled_unique vs es r ws fs q a b = sym a.0 ∙ b.0
