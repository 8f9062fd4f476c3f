-- Two answers of the door that meet a contract are equal, and so is what it leaves in the slices lent.
use mathlib.Core.Path.{◌≡◌}
use mathlib.Core.List.{List}
use Prim.Native.Nat.{ℕ}
use lib.Ieee.{Float}
use Rattle.float.proofs.Unique.{only}
use Rattle.vad_config.specs.declared.VadConfig.{VadConfig}
use Rattle.vad_detector.specs.Readings.{undecided_read, analyzed_read, rows_read, talk_read}
use Rattle.vad_detector.specs.Run.{Reset, answered}
use Rattle.vad_door.specs.DetectorDoor.{read_answer, floor_word, segment_word}
use Rattle.vad_door.proofs.Door.{OpenEnds, CallEnds, DetectEnds, FlushEnds}

module _ (ns : List ℕ) (fs : List Float) (r q : ℕ) (ms ls : List ℕ) (gs hs : List Float) where
  pub open_unique : (c : VadConfig) (window : List Float) (rise : Float) → OpenEnds c window rise ns fs r ms gs → OpenEnds c window rise ns fs q ls hs → (r ≡ q) × (ms ≡ ls) × (gs ≡ hs)
  open_unique c window rise h k = (only h.0 k.0, only h.1.0 k.1.0, only h.1.1 k.1.1)

  pub reset_unique : (start : ℕ) → CallEnds ns fs (answered (Reset start)) r ms gs → CallEnds ns fs (answered (Reset start)) q ls hs → (r ≡ q) × (ms ≡ ls) × (gs ≡ hs)
  reset_unique start h k = (only h.0 k.0, only h.1.0 k.1.0, only h.1.1 k.1.1)

-- ---- with the rows lent

module _ (ns : List ℕ) (fs : List Float) (rows : List ℕ) (r q : ℕ) (ms ls : List ℕ) (gs hs : List Float) (new other : List ℕ) where
  pub detect_unique : (xs : List Float) → DetectEnds ns fs xs rows r ms gs new → DetectEnds ns fs xs rows q ls hs other → (r ≡ q) × (ms ≡ ls) × (gs ≡ hs) × (new ≡ other)
  detect_unique xs h k = (only h.0 k.0, only h.1.0 k.1.0, only h.1.1.0 k.1.1.0, only h.1.1.1 k.1.1.1)

  pub flush_unique : FlushEnds ns fs rows r ms gs new → FlushEnds ns fs rows q ls hs other → (r ≡ q) × (ms ≡ ls) × (gs ≡ hs) × (new ≡ other)
  flush_unique h k = (only h.0 k.0, only h.1.0 k.1.0, only h.1.1.0 k.1.1.0, only h.1.1.1 k.1.1.1)

-- ---- readings

module _ (ns : List ℕ) (fs : List Float) (r q : ℕ) where
  pub undecided_unique : r ≡ read_answer ns fs undecided_read → q ≡ read_answer ns fs undecided_read → r ≡ q
  undecided_unique = only

  pub analyzed_unique : r ≡ read_answer ns fs analyzed_read → q ≡ read_answer ns fs analyzed_read → r ≡ q
  analyzed_unique = only

  pub rows_unique : r ≡ read_answer ns fs rows_read → q ≡ read_answer ns fs rows_read → r ≡ q
  rows_unique = only

  pub talk_unique : r ≡ read_answer ns fs talk_read → q ≡ read_answer ns fs talk_read → r ≡ q
  talk_unique = only

  pub floor_unique : r ≡ read_answer ns fs floor_word → q ≡ read_answer ns fs floor_word → r ≡ q
  floor_unique = only

  pub segment_unique : r ≡ read_answer ns fs segment_word → q ≡ read_answer ns fs segment_word → r ≡ q
  segment_unique = only
