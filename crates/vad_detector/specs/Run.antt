-- A run of calls, refused ones among them.
use Rattle.std.specs.Prelude.{List, [], ◌∷◌, ℕ, Float, Result, Ok, Err, ⊤}
use Rattle.refusals.specs.Refusals.{number_in}
use Rattle.refusals.specs.declared.Refusal.{Refusal}
use Rattle.vad_call.specs.Calls.{no_tally}
use Rattle.vad_call.specs.declared.Tally.{Tally}
use Rattle.vad_call.specs.Answers.{Detected}
use Rattle.vad_detector.specs.Opening.{reset_of}
use Rattle.vad_detector.specs.Entries.{detect_of, flush_of}
use Rattle.vad_state.specs.declared.VadDetector.{VadDetector}

-- a block and the length of the lent rows, a flush and that length, or a reset and its new start
pub data Call : Type 0 where
  Detect : List Float → ℕ → Call
  Flush : ℕ → Call
  Reset : ℕ → Call

-- a reset counts nothing
abbrev pub none_counted : Result ⊤ Refusal → Result Tally Refusal
none_counted (Ok x) = Ok no_tally
none_counted (Err r) = Err r

-- what the detector answers to it; to a reset in the form of a call's answer, with a tally of zeros
abbrev pub answered : Call → VadDetector → Detected
answered (Detect xs room) d = detect_of d xs room
answered (Flush room) d = flush_of d room
answered (Reset start) d = let r = reset_of d start in record { outcome = none_counted r.outcome; detector = r.detector }

unfoldable pub next : VadDetector → Call → VadDetector
next d k = (answered k d).detector

-- 0, or the number of the refusal
unfoldable pub number_of : VadDetector → Call → ℕ
number_of d k = number_in (answered k d).outcome

unfoldable pub play : VadDetector → List Call → VadDetector
play d [] = d
play d (k ∷ ks) = play (next d k) ks
