-- What the filter's four entry points answer, and what they leave in the slices lent to them.
use Rattle.std.specs.Prelude.{Bool, true, false, ◌&&◌, cond, List, [], ◌∷◌, ℕ, ◌+◌, ltb, length, get_or, Float, None, Option, Some, Err, is_ok}
use Rattle.std.specs.Float.{nan}
use Rattle.std.specs.Result.{result_unwrap_or}
use Rattle.refusals.specs.Answers.{packed}
use Rattle.refusals.specs.Refusals.{number_in, carries_in}
use Rattle.refusals.specs.declared.Refusal.TheVariants as why
use Rattle.float.specs.Numbers.{zero32}
use Rattle.dc_state.specs.declared.PreprocessingConfig.{PreprocessingConfig}
use Rattle.dc_highpass.specs.Filter.{open_of, nothing_open, process_of, output_after, reset_of, bias_read}
use Rattle.dc_highpass.specs.declared.VadContext.{VadContext}
use Rattle.dc_highpass.specs.declared.VadContext.TheVariants.{Silence, Speech}
use Rattle.dc_highpass.specs.declared.Answered.{Answered}
use Rattle.dc_door.specs.FilterState.{filter_at, readable, written, order_of, word_of}

-- ---- opening

abbrev pub settings_of : Float → ℕ → Float → Bool → Bool → Bool → PreprocessingConfig
settings_of cutoff rate alpha removal highpass fourth =
    record {
      highpass_cutoff_hz = cutoff;
      sample_rate_hz = rate;
      dc_bias_alpha = alpha;
      enable_dc_removal = removal;
      enable_highpass = highpass;
      highpass_order = order_of fourth;
    }

abbrev pub five_at : List Float → ℕ → List Float
five_at xs i = get_or xs i nan ∷ get_or xs (i + 1) nan ∷ get_or xs (i + 2) nan ∷ get_or xs (i + 3) nan ∷ get_or xs (i + 4) nan ∷ []

-- ten numbers, five a stage; too few of them are refused as coefficients are
unfoldable pub opened_of : PreprocessingConfig → List Float → Answered
opened_of c xs = cond (ltb (length xs) 10) (record { outcome = Err why.FilterCoefficient; filter = nothing_open }) (open_of c (five_at xs 0 ∷ five_at xs 5 ∷ []))

unfoldable pub open_answer : PreprocessingConfig → List Float → List ℕ → ℕ
open_answer c xs ws = cond (ltb (length ws) 25) 27 (number_in (opened_of c xs).outcome)

-- a refused opening leaves the all-zero state
unfoldable pub open_state : PreprocessingConfig → List Float → List ℕ → List ℕ
open_state c xs ws = cond (ltb (length ws) 25) ws (written (opened_of c xs).filter ws)

-- ---- a block

-- the Rust's `Option<VadContext>` as two flags
abbrev pub label_of : Bool → Bool → Option VadContext
label_of false silence = None
label_of true false = Some Speech
label_of true true = Some Silence

unfoldable pub process_answer : List ℕ → List Float → Option VadContext → ℕ → ℕ
process_answer ws xs label room =
    let v = (process_of (filter_at ws) xs label room).outcome in
    cond (readable ws) (packed (number_in v) (carries_in v)) 27

-- a refusal leaves the state as it is
unfoldable pub process_state : List ℕ → List Float → Option VadContext → ℕ → List ℕ
process_state ws xs label room =
    let p = process_of (filter_at ws) xs label room in
    cond (readable ws && is_ok p.outcome) (written p.filter ws) ws

unfoldable pub process_output : List ℕ → List Float → Option VadContext → List Float → List Float
process_output ws xs label out = cond (readable ws) (output_after (filter_at ws) xs label out) out

-- ---- reset, and the bias read

unfoldable pub reset_answer : List ℕ → ℕ
reset_answer ws = cond (readable ws) (number_in (reset_of (filter_at ws)).outcome) 27

unfoldable pub reset_state : List ℕ → List ℕ
reset_state ws =
    let r = reset_of (filter_at ws) in
    cond (readable ws && is_ok r.outcome) (written r.filter ws) ws

-- a refused reading's value is 0, and so are its bits
unfoldable pub bias_answer : List ℕ → ℕ
bias_answer ws =
    let r = bias_read (filter_at ws) in
    cond (readable ws) (packed (number_in r) (word_of (result_unwrap_or r zero32))) 27
