-- What a call's parts come to, over plain variables. Assumes nothing.
use mathlib.Core.Path.{◌≡◌, sym, ap, ◌∙◌}
use mathlib.Core.Bool.{Bool, not}
use mathlib.Core.List.{List, ◌++◌, map}
use Prim.Native.Nat.{ℕ, ◌+◌, ◌-◌}
use native.Mathlib.Omega.{arith}
use native.Mathlib.Nat.{zero-add}
use lib.ListN.{length, length-append}
use lib.Seq.{sets}
use Rattle.lists.proofs.Stores.{sets_append}
use Rattle.vad_row.specs.Rows.{reported, flat}
use Rattle.vad_segments.specs.Judging.{track_after, rows_of, louds_of, count_of, ended_of, call_rows, call_track}
use Rattle.vad_segments.specs.declared.Rules.{Rules}
use Rattle.vad_segments.specs.declared.FrameMetrics.{FrameMetrics}
use Rattle.vad_segments.specs.declared.Track.{Track}
use Rattle.vad_segments.specs.declared.Judged.{Judged}
use Rattle.vad_classify.specs.Classify.{classified_of}
use Rattle.vad_row.proofs.Laws.{flat_append}
use Rattle.vad_segments.proofs.Counts.{loud_and_quiet}

module _ (finish : Bool) (r : Rules) (limit : ℕ) (t : Track) (fs : List FrameMetrics) (u : Track) (e : u ≡ track_after r limit t fs) (j : Judged) (k : j ≡ ended_of finish r limit u) where
  pub classified_is : (n loud : ℕ) → n ≡ length fs → loud ≡ count_of (louds_of r limit t fs) → record { track = j.track; frames = n; loud = loud; quiet = n - loud } ≡ classified_of finish r limit t fs
  unfolding classified_of call_track
  classified_is n loud f l =
      let all = loud_and_quiet r limit t fs in
      let quiet : n - loud ≡ count_of (map not (louds_of r limit t fs)) = omega arith in
      rw (quiet, k, e, l, f)

  call_flat : flat (call_rows finish r limit t fs) ≡ flat (rows_of r limit t fs) ++ flat (reported j.report)
  unfolding call_rows
  call_flat = rw (k, e) (flat_append (rows_of r limit t fs) (reported (ended_of finish r limit (track_after r limit t fs)).report))

  pub call_width : length (flat (call_rows finish r limit t fs)) ≡ length (flat (rows_of r limit t fs)) + length (flat (reported j.report))
  call_width = ap length call_flat ∙ length-append (flat (rows_of r limit t fs)) (flat (reported j.report))

  pub call_written : (rows mid last : List ℕ) (end : ℕ) → end ≡ length (flat (rows_of r limit t fs)) → mid ≡ sets rows 0 (flat (rows_of r limit t fs)) → last ≡ sets mid end (flat (reported j.report))
      → last ≡ sets rows 0 (flat (call_rows finish r limit t fs))
  call_written rows mid last end a b c =
      let joined = sets_append rows 0 (flat (rows_of r limit t fs)) (flat (reported j.report)) in
      c ∙ rw (a, b, call_flat) (sym (joined ∙ rw (zero-add (length (flat (rows_of r limit t fs))))))
