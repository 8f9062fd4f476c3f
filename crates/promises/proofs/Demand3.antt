-- Demand 3: from an accepted opening, and from any accepted reset, every run of detect and flush keeps each of its sentences. Assumes nothing.
use Rattle.vad_segments.specs.declared.ActiveSegmentState.{ActiveSegmentState}
use Rattle.std.specs.Prelude.{None, Option, Some}
use mathlib.Core.Path.{◌≡◌, refl, sym, ap, ◌∙◌, subst}
use mathlib.Core.Logic.{⊎_elim}
use mathlib.Core.Bool.{Bool, true, false, not, true≢false}
use mathlib.Core.List.{List, [], ◌∷◌, ◌++◌, map, reverse, reverse_aux, reverse_aux-eq}
use Prim.Native.Nat.{ℕ, zero, suc, ◌+◌, ◌*◌, ◌≤◌, ◌<◌}
use native.Mathlib.Nat.{suc-mul, mul-le-mul_right}
use native.Mathlib.Omega.{arith}
use borrow.Author.Tests.{lt-leb}
use lib.ListN.{length, take, get_or, length-append}
use lib.Ieee.{Float}
use Rattle.lists.specs.Every.{Every}
use Rattle.lists.proofs.Every.{every_map}
use Rattle.vad_config.specs.Settings.{frame_of, padding_of, lengths_of}
use Rattle.vad_config.specs.declared.VadConfig.{VadConfig}
use Rattle.vad_config.specs.declared.Lengths.{Lengths}
use Rattle.vad_row.specs.Rows.{talk_of, InOrder}
use Rattle.vad_segments.specs.Setters.{fresh_track}
use Rattle.vad_segments.specs.Judging.{count_of}
use Rattle.vad_segments.specs.Positions.{undecided_of}
use Rattle.vad_segments.specs.declared.Rules.{Rules}
use Rattle.vad_segments.specs.declared.Track.{Track}
use Rattle.vad_row.proofs.Laws.{talk_append, in_order_sooner, in_order_append, between_ends}
use Rattle.vad_segments.proofs.Counts.{ActiveCounted, Recent}
use Rattle.vad_segments.proofs.Undecided.{undecided_trails}
use Rattle.vad_state.specs.declared.VadDetector.{VadDetector}
use Rattle.vad_call.specs.Calls.{refused_by, desk_after, joined_of, advanced_of}
use Rattle.vad_detector.specs.Opening.{rules_of, fresh_of, open_of, Handed, restarted_of, reset_to, reset_of, open_refusal}
use Rattle.std.specs.Prelude.{is_some}
use Rattle.refusals.specs.Refusals.{number_in}
use Rattle.vad_detector.specs.Readings.{undecided_in, open_start}
use Rattle.vad_detector.specs.Run.{Call, Detect, Flush, Reset, next, play}
use Rattle.vad_detector.proofs.Running.{Running}
use Rattle.vad_detector.proofs.Runs.{opened_is, open_running, detect_ends, flush_ends, reset_ends, reset_running, run_running}
use Rattle.promises.specs.Log.{Turn, Seen, answer_of, seen_of, log_of, seen_opened, run_of}
use Rattle.promises.specs.Demand.{AtEachAfter, AtEach, sound_in, rows_in, louds_in, flushed_in, total_of, Within, NotBefore, Onward, warmed_up, Trails, one_loud, LatelyLoud, Counted, Never19, Promised}
use Rattle.promises.proofs.Turns.{Moves, opened_moves, turn_moves}

-- ---- flags, the latest first

-- what is added up flag by flag does not see their order
added : (m : List Bool → ℕ) (w : Bool → ℕ) → m [] ≡ 0 → ((b : Bool) (bs : List Bool) → m (b ∷ bs) ≡ w b + m bs) → (xs ys : List Bool) → m (reverse xs ++ ys) ≡ m xs + m ys
added m w none one xs ys = ap m (sym (reverse_aux-eq xs ys)) ∙ go xs ys
  where
    go : (xs ys : List Bool) → m (reverse_aux xs ys) ≡ m xs + m ys
    go [] ys = omega arith
    go (x ∷ xs) ys = omega (arith, go xs (x ∷ ys), one x xs, one x ys)

-- a loud flag among the first n
one_loud_lem : (k n : ℕ) (flags : List Bool) → k < n → get_or flags k false ≡ true → one_loud (take n flags) ≡ true
unfolding one_loud
one_loud_lem k zero flags l e = absurd (omega arith)
one_loud_lem k (suc n) [] l e = absurd (true≢false (sym e))
one_loud_lem k (suc n) (true ∷ flags) l e = refl
one_loud_lem zero (suc n) (false ∷ flags) l e = absurd (true≢false (sym e))
one_loud_lem (suc k) (suc n) (false ∷ flags) l e = one_loud_lem k n flags (omega arith) e

-- a segment is open only while a loud frame is recent
lately : (hangover : ℕ) (flags : List Bool) (a : Option ActiveSegmentState) → ActiveCounted hangover a → Recent flags a → is_some (open_start a) ≡ true → one_loud (take (suc hangover) flags) ≡ true
unfolding open_start
lately hangover flags None c h e = absurd (true≢false (sym e))
lately hangover flags (Some s) c h e = one_loud_lem s.silence_run (suc hangover) flags (omega (arith, c.2)) h

not_open : (a : Option ActiveSegmentState) → is_some (open_start a) ≡ false → a ≡ None
unfolding open_start
not_open None e = refl
not_open (Some s) e = absurd (true≢false e)

-- ---- rows in order, the rows of each call after those before it
log_order : (ks : List Turn) (d : VadDetector) → Running d → InOrder d.kept.desk.track.last_segment_end (rows_in (log_of d ks))
unfolding log_of rows_in
log_order [] d r = tt
log_order (k ∷ ks) d r = let m = turn_moves d k r in in_order_append _ _ (seen_of d k).rows (rows_in (log_of (answer_of d k).detector ks)) m.in_order (log_order ks (answer_of d k).detector m.running)

run_order : (ks : List Turn) (d : VadDetector) → Running d → InOrder 0 (rows_in (run_of d ks))
unfolding run_of rows_in
run_order ks d r = in_order_sooner 0 d.kept.desk.track.last_segment_end (rows_in (run_of d ks)) (omega arith) (in_order_append _ _ (seen_opened d).rows (rows_in (log_of d ks)) (opened_moves d r).in_order (log_order ks d r))

-- ---- a state, and what was seen before it: the latest first
record Story (c : VadConfig) (before : List Seen) (d : VadDetector) : Type 0 where
  running : Running d
  settings : d.kept.rules.config ≡ c
  sound : sound_in before ≡ d.kept.stream.processed_samples
  given : Every (λ e. e.undecided ≤ undecided_in d) before
  unflushed : d.kept.desk.warming ≡ true → flushed_in before ≡ false
  recent : Recent (louds_in before) d.kept.desk.track.active_segment
  frames : total_of (λ e. e.tally.frames) before ≡ length (louds_in before)
  loud : total_of (λ e. e.tally.loud) before ≡ count_of (louds_in before)
  quiet : total_of (λ e. e.tally.quiet) before ≡ count_of (map not (louds_in before))
  rows : d.kept.desk.track.rows_reported ≡ length (rows_in before)
  talk : d.kept.desk.track.talk_samples ≡ talk_of (rows_in before)

module _ (c : VadConfig) (before : List Seen) (d e : VadDetector) (s : Seen) (k : Story c before d) (m : Moves d e s) where
  -- a call goes on with it
  on : Story c (s ∷ before) e
  unfolding sound_in louds_in flushed_in rows_in total_of count_of
  on = record {
    running = m.running;
    settings = ap (λ (r : Rules). r.config) m.rules ∙ k.settings;
    sound = omega (arith, k.sound, m.sound);
    given = (omega (arith, m.shown.undecided), every_map _ _ (λ g l. omega (arith, m.onward)) before k.given);
    unflushed = λ w. let still = m.warming w in rw still.1 (k.unflushed still.0);
    recent = rw (sym (reverse_aux-eq s.louds (louds_in before))) (m.recent (louds_in before) k.recent);
    frames = omega (arith, k.frames, m.frames, added length (λ b. 1) refl (λ b bs. omega arith) s.louds (louds_in before));
    loud = omega (arith, k.loud, m.loud, added count_of (λ b. count_of (b ∷ [])) refl (λ b bs. omega arith) s.louds (louds_in before));
    quiet = omega (arith, k.quiet, m.quiet, added (λ bs. count_of (map not bs)) (λ b. count_of (not b ∷ [])) refl (λ b bs. omega arith) s.louds (louds_in before));
    rows = omega (arith, k.rows, m.all_rows, length-append s.rows (rows_in before));
    talk = omega (arith, k.talk, m.all_talk, talk_append s.rows (rows_in before));
  }

  -- its lengths are those of the settings
  lengths_on : e.kept.rules.lengths ≡ lengths_of c
  lengths_on = m.running.lengths ∙ ap lengths_of on.settings

  within : Within before s
  within = every_map _ _ (λ r l. omega (arith, on.sound, m.running.ordered.ended)) s.rows (between_ends _ s.rows _ m.in_order)

  not_before : NotBefore before s
  not_before = every_map _ _ (λ g l. every_map _ _ (λ r n. omega arith) s.rows m.rows_from) before k.given

  onward : Onward before s
  onward = every_map _ _ (λ g l. omega (arith, m.onward, m.shown.undecided)) before k.given

  -- while frames are held, they lie hop by hop from the stream's start, and are fewer than the warm-up's; so warm-up has not ended
  warm : e.kept.desk.warming ≡ true → warmed_up c (s ∷ before) ≡ false
  unfolding warmed_up lengths_of
  warm w =
      let held = m.running.held w in
      let hop = e.kept.rules.lengths.hop_length in
      let most : suc e.kept.desk.held * hop ≤ e.kept.rules.lengths.warmup_frames * hop = mul-le-mul_right hop held.few in
      let few = subst (λ (l : Lengths). sound_in (s ∷ before) + l.hop_length < l.frame_length + l.warmup_frames * l.hop_length) lengths_on
      (omega (arith, suc-mul e.kept.desk.held hop, held.start, on.sound, m.running.joined, m.running.short)) in
      rw (on.unflushed w, lt-leb _ _ few)

  -- afterwards fewer samples than a frame are carried
  trails : Trails c before s
  unfolding undecided_in lengths_of
  trails warmed none = go e.kept.desk.warming refl
    where
      t : Track
      t = e.kept.desk.track

      padding : ℕ
      padding = e.kept.rules.lengths.padding_samples

      go : (b : Bool) → e.kept.desk.warming ≡ b → sound_in (s ∷ before) < s.undecided + (frame_of c + padding_of c)
      go true w = absurd (true≢false (sym warmed ∙ warm w))
      go false off =
          let position : s.undecided ≡ undecided_of false padding e.kept.stream.carry_start t = m.shown.undecided ∙ ap (λ (b : Bool). undecided_of b padding e.kept.stream.carry_start t) off in
          let free = undecided_trails padding e.kept.stream.carry_start t e.kept.stream.carry_len e.kept.rules.lengths.frame_length (not_open t.active_segment (sym m.shown.segment ∙ none)) m.running.short in
          subst (λ (l : Lengths). sound_in (s ∷ before) < s.undecided + (l.frame_length + l.padding_samples)) lengths_on (omega (arith, on.sound, m.running.joined))

  lately_loud : LatelyLoud c before s
  lately_loud o = rw (sym on.settings) (lately e.kept.rules.config.hangover_frames (louds_in (s ∷ before)) e.kept.desk.track.active_segment m.running.counted on.recent (sym m.shown.segment ∙ o))

  counted : Counted before s
  counted = record {
    written = m.written;
    frames = m.frames;
    loud = m.loud;
    quiet = m.quiet;
    rows = m.rows;
    all_frames = on.frames;
    all_loud = on.loud;
    all_quiet = on.quiet;
    all_rows = m.shown.reported ∙ on.rows;
    all_talk = m.shown.talk ∙ on.talk;
  }

-- ---- a run: what a state's story and its next call say holds at each call
module _ (c : VadConfig) (P : List Seen → Seen → Type 0) (say : (before : List Seen) (d e : VadDetector) (s : Seen) → Story c before d → Moves d e s → P before s) where
  at_calls : (ks : List Turn) (before : List Seen) (d : VadDetector) → Story c before d → AtEachAfter before P (log_of d ks)
  unfolding log_of
  at_calls [] before d h = tt
  at_calls (k ∷ ks) before d h =
      let m = turn_moves d k h.running in
      let next = (answer_of d k).detector in
      (say before d next (seen_of d k) h m, at_calls ks (seen_of d k ∷ before) next (on c before d next (seen_of d k) h m))

  at_each : (ks : List Turn) (d : VadDetector) → Story c [] d → AtEach P (run_of d ks)
  unfolding run_of
  at_each ks d h =
      let m = opened_moves d h.running in
      (say [] d d (seen_opened d) h m, at_calls ks (seen_opened d ∷ []) d (on c [] d d (seen_opened d) h m))

promised : (c : VadConfig) (d : VadDetector) (ks : List Turn) → Story c [] d → Promised c (run_of d ks)
promised c d ks h = record {
  in_order = run_order ks d h.running;
  within = at_each c Within (within c) ks d h;
  not_before = at_each c NotBefore (not_before c) ks d h;
  onward = at_each c Onward (onward c) ks d h;
  trails = at_each c (Trails c) (trails c) ks d h;
  lately_loud = at_each c (LatelyLoud c) (lately_loud c) ks d h;
  counted = at_each c Counted (counted c) ks d h;
  never_19 = at_each c Never19 (λ before d e s k m. (m.never_19, m.shown.readings)) ks d h;
}

-- ---- a fresh state

-- nothing was heard, and nothing seen
fresh_story : (r : Rules) (window : List Float) (d : VadDetector) → d ≡ fresh_of r window → Running d → Story d.kept.rules.config [] d
unfolding fresh_of fresh_track sound_in louds_in flushed_in rows_in total_of count_of talk_of
fresh_story r window d e running = record {
  running = running;
  settings = refl;
  sound = rw e;
  given = tt;
  unflushed = λ w. refl;
  recent = rw e tt;
  frames = refl;
  loud = refl;
  quiet = refl;
  rows = rw e;
  talk = rw e;
}

-- every sentence of demand 3, of every run from an accepted opening, whatever its calls
pub demand_3 : (c : VadConfig) (window : List Float) (rise : Float) (ks : List Turn) → open_refusal c window rise ≡ 0 → Handed c rise → Promised c (run_of (open_of c window rise).detector ks)
unfolding fresh_of rules_of
demand_3 c window rise ks z f =
    let d = (open_of c window rise).detector in
    let e = opened_is c window rise z in
    subst (λ (s : VadConfig). Promised s (run_of d ks)) (ap (λ (x : VadDetector). x.kept.rules.config) e) (promised d.kept.rules.config d ks (fresh_story (rules_of c rise) window d e (open_running c window rise z f)))

-- ---- after a reset

-- calls keep the settings, but for the stream's start
next_settings : (d : VadDetector) (k : Call) (start : ℕ) → restarted_of (next d k).kept.rules.config start ≡ restarted_of d.kept.rules.config start
unfolding next refused_by joined_of desk_after advanced_of reset_to fresh_of restarted_of
next_settings d k start = go k
  where
    same : VadDetector → VadConfig
    same e = restarted_of e.kept.rules.config start

    go : (k : Call) → same (next d k) ≡ same d
    go (Detect xs room) = ⊎_elim (λ e. ap same e.2) (λ e. ap same e.1) (detect_ends d xs room)
    go (Flush room) = ⊎_elim (λ e. ap same e.2) (λ e. ap same e.1) (flush_ends d room)
    go (Reset new) = ⊎_elim (λ e. ap same e.2) (λ e. ap same e.1) (reset_ends d new)

play_settings : (cs : List Call) (d : VadDetector) (start : ℕ) → restarted_of (play d cs).kept.rules.config start ≡ restarted_of d.kept.rules.config start
unfolding play
play_settings [] d start = refl
play_settings (k ∷ cs) d start = play_settings cs (next d k) start ∙ next_settings d k start

-- from any accepted reset of a run, too: a fresh start with the settings of the opening and a new stream start
pub demand_3_again : (c : VadConfig) (window : List Float) (rise : Float) (cs : List Call) (start : ℕ) (ks : List Turn) → open_refusal c window rise ≡ 0 → Handed c rise
    → number_in (reset_of (play (open_of c window rise).detector cs) start).outcome ≡ 0 → Promised (restarted_of c start) (run_of (reset_of (play (open_of c window rise).detector cs) start).detector ks)
unfolding reset_to fresh_of rules_of
demand_3_again c window rise cs start ks z f a =
    let o = (open_of c window rise).detector in
    let d = play o cs in
    let e = (reset_of d start).detector in
    let r = reset_running d start (run_running c window rise cs z f) in
    let new : e ≡ reset_to d start = ⊎_elim (λ k. k.2) (λ k. absurd (k.0 a)) (reset_ends d start) in
    let settings : e.kept.rules.config ≡ restarted_of c start = ap (λ (x : VadDetector). x.kept.rules.config) new ∙ play_settings cs o start ∙ ap (λ (x : VadDetector). restarted_of x.kept.rules.config start) (opened_is c window rise z) in
    subst (λ (x : VadConfig). Promised x (run_of e ks)) settings (promised e.kept.rules.config e ks (fresh_story _ _ e new r))
