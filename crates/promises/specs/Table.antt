-- Document 01's 'Small table to prove', as one list.
use Rattle.std.specs.Prelude.{◌≡◌, false, true, List, [], ◌∷◌, ◌++◌, map, ℕ, negsuc, replicate, Float, Some}
use Rattle.std.specs.Float.{fin, binary32}
use Rattle.std.specs.Float.Ieee.{of_bits}
use Rattle.float.specs.Numbers.{one32}
use Rattle.float.specs.Fused.{fused_of}
use Rattle.float.specs.Root.{root_of}
use Rattle.score.specs.Score.{score_of}
use Rattle.vad_config.specs.Lengths.{frame_length_of, hop_length_of, warmup_frames_of}
use Rattle.vad_config.specs.declared.VadConfig.{VadConfig}
use Rattle.vad_row.specs.Rows.{row_width, flat}
use Rattle.vad_state.specs.State.{half32}
use Rattle.refusals.specs.Refusals.{number_in}
use Rattle.vad_detector.specs.Opening.{open_refusal, open_of}
use Rattle.vad_runs.specs.Detector.{config_of, config, window, block_of, a, b, row_a, row_b}
use Rattle.promises.specs.Log.{Turn, Detect, Flush, log_of}

-- ---- what a line of the table says
pub data Case : Type 0 where
  -- a × b + c, rounded once, is r
  Fused : (a b c r : Float) → Case
  Root : (x r : Float) → Case
  -- a frame of so many nanoseconds at a rate has n samples
  Frame : (ns rate n : ℕ) → Case
  Hop : (frame : ℕ) (overlap : Float) (n : ℕ) → Case
  WarmUp : (hop rate n : ℕ) → Case
  -- an opening with a window all 1 of n samples is refused by a number; 0: accepted
  Opening : (c : VadConfig) (n number : ℕ) → Case
  Score : (ratio : Float) (n : ℕ) → Case
  -- six detects and a flush, with a release ratio: no row but at the flush
  Run : (release : ℕ) (row : List ℕ) → Case

-- 'Six detects of 80 equal samples: 1/64, 1/64, 1, 1, 1/64, 1/64; then flush'; nothing but the flush needs room
abbrev pub calls : List Turn
calls = map (λ k. Detect (block_of k) 0) (0 ∷ 1 ∷ 2 ∷ 3 ∷ 4 ∷ 5 ∷ []) ++ (Flush row_width ∷ [])

abbrev pub Reports : ℕ → List ℕ → Type 0
Reports release row =
    let opened = open_of (config release) window half32 in
    let log = log_of opened.detector calls in
    (number_in opened.outcome ≡ 0) × (map (λ s. s.number) log ≡ replicate 7 0) × (map (λ s. flat s.rows) log ≡ replicate 6 [] ++ (row ∷ []))

abbrev pub Holds : Case → Type 0
Holds (Fused a b c r) = fused_of a b c ≡ Some r
Holds (Root x r) = root_of x ≡ Some r
Holds (Frame ns rate n) = frame_length_of rate ns ≡ n
Holds (Hop frame overlap n) = hop_length_of frame overlap ≡ n
Holds (WarmUp hop rate n) = warmup_frames_of hop rate ≡ n
Holds (Opening c n number) = open_refusal c (replicate n one32) half32 ≡ number
Holds (Score ratio n) = score_of ratio ≡ n
Holds (Run release row) = Reports release row

-- ---- the numbers: a fraction by its exact value, or by its bits

-- 1 + 2^-12, −(1 + 2^-11), 2^-24, 2^-60, 1 + 2^-11 + 2^-23
abbrev pub one_plus12 : Float
one_plus12 = fin false 4097 (negsuc 11)

abbrev pub neg_one_plus11 : Float
neg_one_plus11 = fin true 2049 (negsuc 10)

abbrev pub power24 : Float
power24 = fin false 1 (negsuc 23)

abbrev pub power60 : Float
power60 = fin false 1 (negsuc 59)

abbrev pub one_plus11_plus23 : Float
one_plus11_plus23 = fin false 8392705 (negsuc 22)

abbrev pub two : Float
two = of_bits binary32 0x4000_0000

-- run A's settings but for the frame, 10 ms (80 samples), 1 ms (8) or 875 µs (7), and the two ratios, by their bits
abbrev pub framed : ℕ → ℕ → ℕ → VadConfig
framed frame activation release = config_of 0 frame 5000000 activation release

-- ---- the table, in document 01's order
abbrev pub small_table : List Case
small_table =
    Fused one_plus12 one_plus12 neg_one_plus11 power24
    ∷ Fused one_plus12 one_plus12 power60 one_plus11_plus23
    ∷ Root (of_bits binary32 0) (of_bits binary32 0)
    ∷ Root two (of_bits binary32 0x3FB5_04F3)
    ∷ Frame 20000000 16000 320
    ∷ Hop 320 half32 160
    ∷ WarmUp 160 16000 30
    ∷ Hop 5 half32 3
    ∷ Opening (framed 10000000 0x4080_0000 0x7F80_0000) 80 6
    ∷ Opening (framed 10000000 0x7F80_0000 0x7F80_0000) 80 6
    ∷ Score one32 0
    ∷ Score (of_bits binary32 0x4120_0000) 1024
    ∷ WarmUp 8 8000 300
    ∷ Opening (framed 1000000 0x4080_0000 0x4000_0000) 8 0
    ∷ WarmUp 7 8000 343
    ∷ Opening (framed 875000 0x4080_0000 0x4000_0000) 7 12
    ∷ Run a row_a
    ∷ Run b row_b
    ∷ []
