-- A small run, and what our detector shows in it: proofs/Shown computes it, proofs/Broken holds the wrong detectors of proofs/Wrong against it.
use mathlib.Core.Bool.{Bool, true, false, cond}
use mathlib.Core.List.{List, [], ◌∷◌}
use Prim.Native.Nat.{ℕ, ◌-◌, ◌*◌}
use lib.ListN.{length, replicate}
use lib.Ieee.{Float, binary32, of_bits}
use Rattle.vad_config.specs.declared.VadConfig.{VadConfig}
use Rattle.vad_row.specs.Rows.{row_width}
use Rattle.vad_row.specs.declared.Row.{Row}
use Rattle.vad_call.specs.declared.Tally.{Tally}
use Rattle.vad_detector.specs.Opening.{open_of}
use Rattle.vad_runs.specs.Detector.{config_of}
use Rattle.promises.specs.Log.{Seen, Turn, Detect, Flush, run_of}

-- ---- the run

-- as run A, but frames and hops of 8 samples, so that the warm-up has 300 frames, and a padding of 4 samples
abbrev pub settings : VadConfig
settings = config_of 0 1000000 500000 0x4080_0000 0x4000_0000

abbrev pub window : List Float
window = replicate 8 (of_bits binary32 0x3F80_0000)

abbrev pub rise : Float
rise = of_bits binary32 0x3F00_0000

-- eight samples of 2^-10 are as quiet as the floor, eight of 1 are loud
abbrev pub quiet : List Float
quiet = replicate 8 (of_bits binary32 0x3A80_0000)

abbrev pub loud : List Float
loud = replicate 8 (of_bits binary32 0x3F80_0000)

-- the first flush ends the warm-up; the fifth call's row has no room, so it is refused, and the block comes again with room; the last flush closes a segment at the end of the sound
abbrev pub calls : List Turn
calls = Flush 0 ∷ Detect quiet 0 ∷ Detect loud 0 ∷ Detect quiet 0 ∷ Detect quiet 0 ∷ Detect quiet row_width ∷ Detect loud 0 ∷ Flush row_width ∷ []

abbrev pub run : List Seen
run = run_of (open_of settings window rise).detector calls

-- ---- what our detector shows in it

-- the floor is 2^-10 after quiet, and 1/2 + 2^-11 after a loud frame
abbrev pub floor_at : Bool → Float
floor_at loud = of_bits binary32 (cond loud 0x3F00_2000 0x3A80_0000)

-- a row of one loud frame
abbrev pub row_from : ℕ → ℕ → Row
row_from from to =
    record {
      start_sample = from;
      end_sample = to;
      start_time = from * 125000;
      end_time = to * 125000;
      score_total = 1024;
      loud_frames = 1;
      mean_energy = 0x3F80_0000;
    }

-- frames, how many of them are loud, the floor, and how many rows
abbrev pub counts : ℕ → ℕ → Float → ℕ → Tally
counts frames noisy floor rows = record { frames = frames; loud = noisy; quiet = frames - noisy; noise_floor = floor; rows = rows }

-- one call: a flush or not, the block's length, the number; the rows, the counts, which frames are loud; then what is read: undecided, rows, talk, segment open
abbrev pub seen : Bool → ℕ → ℕ → List Row → Tally → List Bool → ℕ → ℕ → ℕ → Bool → Seen
seen flush block number rows tally louds undecided reported talk segment =
    record {
      flush = flush;
      block = block;
      number = number;
      rows = rows;
      tally = tally;
      undecided = undecided;
      reported = reported;
      talk = talk;
      segment = segment;
      readings = 0 ∷ 0 ∷ 0 ∷ 0 ∷ [];
      louds = louds;
      due = rows;
    }

-- a block of one frame, loud or not
abbrev pub heard : Bool → List Row → ℕ → ℕ → ℕ → Bool → Seen
heard noisy rows undecided reported talk segment =
    seen false 8 0 rows (counts 1 (cond noisy 1 0) (floor_at noisy) (length rows)) (noisy ∷ []) undecided reported talk segment

-- the opening
abbrev pub first : Seen
first = seen false 0 0 [] (counts 0 0 (of_bits binary32 0) 0) [] 0 0 0 false

-- the eight calls
abbrev pub later : List Seen
later =
    seen true 0 0 [] (counts 0 0 (floor_at false) 0) [] 0 0 0 false
    ∷ heard false [] 4 0 0 false
    ∷ heard true [] 4 0 0 true
    ∷ heard false [] 4 0 0 true
    ∷ seen false 8 18 [] (counts 0 0 (of_bits binary32 0) 0) [] 4 0 0 true
    ∷ heard false (row_from 4 20 ∷ []) 28 1 16 false
    ∷ heard true [] 28 1 16 true
    ∷ seen true 0 0 (row_from 28 40 ∷ []) (counts 0 0 (floor_at true) 1) [] 40 2 28 false
    ∷ []

abbrev pub shown : List Seen
shown = first ∷ later
