-- What a frame's parts come to, over plain variables. Assumes nothing.
use Rattle.std.specs.Prelude.{Some}
use mathlib.Core.Path.{◌≡◌}
use mathlib.Core.Bool.{Bool, ◌&&◌}
use Prim.Native.Nat.{ℕ, ◌≤◌, ◌<◌}
use borrow.Author.Tests.{le-leb, lt-leb}
use lib.Ieee.{Float, binary32, le, div}
use Rattle.vad_segments.specs.Loudness.{ratio_of, required_of, loud_of, in_speech_of, weight_of, floor_of}
use Rattle.vad_segments.specs.Closing.{time_at, row_of, dropped_of, timed_of}
use Rattle.vad_segments.specs.Judging.{floored_to, floor_after, turned_of, judged_of}
use Rattle.vad_segments.specs.declared.Judged.{Judged}
use Rattle.vad_segments.specs.declared.Rules.{Rules}
use Rattle.vad_segments.specs.declared.FrameMetrics.{FrameMetrics}
use Rattle.vad_segments.specs.declared.Track.{Track}
use Rattle.vad_config.specs.declared.VadConfig.{VadConfig}
use Rattle.vad_segments.specs.declared.ActiveSegmentState.{ActiveSegmentState}
use Rattle.vad_row.specs.declared.Row.{Row}

pub judged_is : (r : Rules) (limit : ℕ) (t : Track) (f : FrameMetrics) (required weight floor : Float) (loud speech : Bool)
    → required ≡ required_of r.config t.active_segment
    → loud ≡ le r.config.min_speech_energy f.energy && le required (div binary32 f.energy t.noise_floor)
    → speech ≡ in_speech_of r.config.hangover_frames t.active_segment loud
    → weight ≡ weight_of r.speech_floor_rise r.config.noise_smoothing speech t.noise_floor f.energy
    → floor ≡ floor_of r.config.energy_floor weight t.noise_floor f.energy
    → (j : Judged) → j ≡ turned_of r limit (floored_to floor t) f (div binary32 f.energy t.noise_floor) loud speech → j ≡ judged_of r limit t f
unfolding ratio_of loud_of floor_after judged_of
judged_is r limit t f required weight floor loud speech q l s w e j turned = rw (turned, e, w, s, l, q)

-- ---- a segment closed

module _ (c : VadConfig) (limit prev start end : ℕ) (s : ActiveSegmentState) (a b : ℕ) (x : a ≡ time_at c end) (y : b ≡ time_at c start) where
  pub timed_dropped : a ≤ b → dropped_of limit prev s ≡ timed_of c limit prev start end s
  unfolding timed_of
  timed_dropped h = rw (← x, ← y, le-leb a b h)

  pub timed_row : b < a → (k : Row) → k ≡ row_of c start end s → record { end = end; report = Some k } ≡ timed_of c limit prev start end s
  unfolding timed_of
  timed_row h k e = rw (e, ← x, ← y, lt-leb a b h)
