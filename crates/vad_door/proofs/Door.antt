-- What an entry point does with memory that cannot be read, and with memory that can, over plain lists. Assumes nothing.
use Rattle.std.specs.Prelude.{Result, Ok, Err, ⊤, IfOk, is_err}
use Rattle.std.specs.Result.{result_map_both, result_unwrap_or}
use mathlib.Core.Path.{◌≡◌, refl, sym, ap, subst, ◌∙◌}
use mathlib.Core.Bool.{Bool, true, false, not, ◌&&◌, cond, true≢false}
use mathlib.Core.List.{List, [], ◌∷◌}
use Prim.Native.Nat.{ℕ, ◌+◌, ◌^◌, ◌≤◌, ◌<◌}
use native.Mathlib.Omega.{arith}
use borrow.Author.Tests.{ne_eqb, le-leb}
use lib.Dec.{T, eqb}
use lib.ListN.{length, take, drop}
use lib.Seq.{sets}
use lib.Ieee.{Float, binary32, to_bits}
use Rattle.refusals.specs.Answers.{packed}
use Rattle.refusals.specs.Refusals.{number, carries, number_in, carries_in, refusing, first_of, if_passed}
use Rattle.refusals.specs.declared.Refusal.TheVariants as why
use Rattle.refusals.proofs.First.{decided, number_some}
use Rattle.ranges.specs.Ranges.{leading_of, clean_of}
use Rattle.vad_config.specs.Domain.{received_in, start_in}
use Rattle.vad_config.specs.declared.VadConfig.{VadConfig}
use Rattle.vad_layout.proofs.InFloats as in-floats
use Rattle.ranges.specs.Sizes.{frame_most, warmup_most, block_most, received_most}
use Rattle.vad_state.specs.State.{state_of, sound_of}
use Rattle.vad_state.specs.declared.Kept.{Kept}
use Rattle.vad_state.specs.declared.VadDetector.{VadDetector}
use Rattle.vad_state.proofs.Parts.{parts}
use Rattle.vad_call.specs.Calls.{no_tally, tally_in, refused_by, ran_of, written_of, tallied}
use Rattle.vad_call.specs.Answers.{Detected}
use Rattle.vad_call.specs.declared.Heard.{Heard}
use Rattle.refusals.specs.declared.Refusal.{Refusal}
use Rattle.vad_call.specs.declared.Tally.{Tally}
use Rattle.vad_segments.specs.Positions.{undecided_of}
use Rattle.vad_detector.specs.Opening.{open_refusal, open_of, reset_of}
use Rattle.vad_call.specs.Checks.{block_refusals, check_of}
use Rattle.vad_detector.specs.Entries.{detect_of, detect_rows, flush_of, flush_rows}
use Rattle.vad_detector.specs.Run.{Detect, Flush, Reset, answered, none_counted}
use Rattle.vad_detector.specs.Readings.{read_of, undecided_in, undecided_read, analyzed_read, rows_read, talk_read, floor_read, open_start, segment_read}
use Rattle.vad_detector.specs.Answers.{Opened}
use Rattle.vad_detector.proofs.Answers.{checked}
use Rattle.vad_lent.specs.Lent.{state_at, arrays_in}
use Rattle.vad_lent.proofs.Laws.{arrays_back}
use Rattle.vad_memory.specs.DetectorState.{kept_at, detector_at, long_enough, readable, singles_of, numbers_written, floats_written}
use Rattle.vad_memory.proofs.Parts as memory
use Rattle.vad_memory.proofs.Put.{singles_put}
use Rattle.vad_memory.proofs.RoundTrip.{read_shaped}
use Rattle.vad_door.specs.DetectorDoor.{open_answer, open_numbers, open_floats, call_answer, call_numbers, call_floats, detected_rows, flushed_rows, read_answer, floor_word, start_word, segment_word}
use Rattle.vad_door.specs.Inside.{carried_in, word_of, uncounted, call_outcome, heard_of, heard_rows, rows_heard, ReadBy}
use Rattle.vad_door.proofs.Bounds.{ran_given, ran_arrays, heard_small}

-- ---- opening

open_number : (c : VadConfig) (window : List Float) (rise : Float) → number_in (open_of c window rise).outcome ≡ open_refusal c window rise
unfolding open_of open_refusal
open_number c window rise = refl

module _ (c : VadConfig) (window : List Float) (rise : Float) (ns : List ℕ) (fs : List Float) where
  -- what is answered, and what stands in the memory then
  abbrev pub OpenEnds : ℕ → List ℕ → List Float → Type 0
  OpenEnds a ms gs = (a ≡ open_answer c window rise ns fs) × ((ms ≡ open_numbers c window rise ns fs) × (gs ≡ open_floats c window rise ns fs))

  pub open_short : long_enough ns fs ≡ false → (a : ℕ) → a ≡ 19 → OpenEnds a ns fs
  unfolding open_answer open_numbers open_floats
  open_short h a e = (e ∙ rw h, (rw h, rw h))

  pub open_put : long_enough ns fs ≡ true → (o : Opened) → o ≡ open_of c window rise → (a : ℕ) → a ≡ number_in o.outcome → (ms : List ℕ) → ms ≡ numbers_written o.detector.kept no_tally ns
      → (gs : List Float) → gs ≡ floats_written o.detector fs → OpenEnds a ms gs
  unfolding open_answer open_numbers open_floats
  open_put h o e a p ms m gs g = (p ∙ rw (h, e) (open_number c window rise), (m ∙ rw (h, e), g ∙ rw (h, e)))

-- a block without samples is refused by 19 alone
by_end : (d : VadDetector) (P : Bool → Result ⊤ Refusal → Type 0) → P true (Ok tt) → P false (Err why.State) → P (sound_of d) (check_of d [])
unfolding check_of first_of received_in clean_of leading_of
by_end d P good bad = go (sound_of d) refl
  where
    go : (b : Bool) → sound_of d ≡ b → P b (first_of (refusing why.State (not b) ∷ block_refusals d.kept.stream.processed_samples []))
    go true h = let m = (parts d h).received in rw (le-leb (d.kept.stream.processed_samples + 0) received_most (omega arith)) good
    go false h = bad

-- ---- a call

module _ (ns : List ℕ) (fs : List Float) where
  pub readable_long : readable ns fs ≡ true → long_enough ns fs ≡ true
  unfolding readable
  readable_long h = first (long_enough ns fs) _ h
    where
      first : (a b : Bool) → a && b ≡ true → a ≡ true
      first true b h = refl
      first false b h = h

  pub readable_room : readable ns fs ≡ true → in-floats.singles ≤ length fs
  readable_room h = let long = (memory.parts ns fs h).long.floats in omega arith

  -- ---- the state that the memory holds

  abbrev d : VadDetector
  d = detector_at ns fs

  abbrev pub CallEnds : (VadDetector → Detected) → ℕ → List ℕ → List Float → Type 0
  CallEnds f a ms gs = (a ≡ call_answer ns fs f) × ((ms ≡ call_numbers ns fs f) × (gs ≡ call_floats ns fs f))

  -- the same before it is packed, and that it is then packed
  abbrev pub OutcomeEnds : (VadDetector → Detected) → Result ℕ Refusal → List ℕ → List Float → Type 0
  OutcomeEnds f v ms gs = (v ≡ call_outcome ns fs f) × ((ms ≡ call_numbers ns fs f) × (gs ≡ call_floats ns fs f))

  pub outcome_packed : (f : VadDetector → Detected) → word_of (call_outcome ns fs f) ≡ call_answer ns fs f
  unfolding call_outcome call_answer
  outcome_packed f = go (readable ns fs) (f d).outcome
    where
      go : (b : Bool) (v : Result Tally Refusal) → word_of (cond b (uncounted v) (Err why.State)) ≡ cond b (packed (number_in v) (carries_in v)) 19
      go true (Ok t) = refl
      go true (Err r) = refl
      go false v = refl

  pub call_packed : (f : VadDetector → Detected) (v : Result ℕ Refusal) (ms : List ℕ) (gs : List Float) → OutcomeEnds f v ms gs → (a : ℕ) → a ≡ word_of v → CallEnds f a ms gs
  call_packed f v ms gs h a e = (e ∙ ap word_of h.0 ∙ outcome_packed f, h.1)

  module _ (f : VadDetector → Detected) where
    abbrev p : Detected
    p = f d

    pub call_unread : readable ns fs ≡ false → (v : Result ℕ Refusal) → v ≡ Err why.State → OutcomeEnds f v ns fs
    unfolding call_outcome call_numbers call_floats
    call_unread h v e = (e ∙ rw h, (rw h, rw h))

    module _ (h : readable ns fs ≡ true) (v : Result ℕ Refusal) where
      pub call_refused : (r : Refusal) → p.outcome ≡ Err r → v ≡ Err r → OutcomeEnds f v ns fs
      unfolding call_outcome call_numbers call_floats
      call_refused r z e = let n = ne_eqb (number r) 0 (number_some r) in (e ∙ rw (h, z), (rw (h, z, n), rw (h, z, n)))

      pub call_written : (t : Tally) → p.outcome ≡ Ok t → v ≡ Ok 0 → (ms : List ℕ) → ms ≡ numbers_written p.detector.kept t ns → (gs : List Float) → gs ≡ floats_written p.detector fs → OutcomeEnds f v ms gs
      unfolding call_outcome call_numbers call_floats
      call_written t z e ms m gs g = (e ∙ rw (h, z), (m ∙ rw (h, z), g ∙ rw (h, z)))

    -- the same answer in other words
    pub call_kept : (g : VadDetector → Detected) → g d ≡ p → (v : Result ℕ Refusal) (ms : List ℕ) (gs : List Float) → OutcomeEnds g v ms gs → OutcomeEnds f v ms gs
    unfolding call_outcome call_numbers call_floats
    call_kept g e v ms gs h =
        let outcome = ap (λ (q : Detected). cond (readable ns fs) (uncounted q.outcome) (Err why.State)) e in
        let numbers = ap (λ (q : Detected). cond (readable ns fs && eqb (number_in q.outcome) 0) (numbers_written q.detector.kept (tally_in q.outcome) ns) ns) e in
        let floats = ap (λ (q : Detected). cond (readable ns fs && eqb (number_in q.outcome) 0) (floats_written q.detector fs) fs) e in
        (h.0 ∙ outcome, (h.1.0 ∙ numbers, h.1.1 ∙ floats))

  -- ---- reset

  pub reset_unread : readable ns fs ≡ false → (start a : ℕ) → a ≡ 19 → CallEnds (answered (Reset start)) a ns fs
  reset_unread h start a e = call_packed (answered (Reset start)) (Err why.State) ns fs (call_unread (answered (Reset start)) h _ refl) a (e ∙ omega arith)

  module _ (good : readable ns fs ≡ true) (start : ℕ) (o : Opened) (q : o ≡ reset_of (detector_at ns fs) start) (a : ℕ) (t : a ≡ number_in o.outcome) where
    emptied : VadDetector → Detected
    emptied _ = record { outcome = none_counted o.outcome; detector = o.detector }

    same : emptied d ≡ answered (Reset start) d
    unfolding emptied
    same = rw q

    -- what refuses a reset carries nothing
    bare : carries_in o.outcome ≡ 0
    unfolding reset_of
    bare = ap (λ (x : Opened). carries_in x.outcome) q ∙ decided (λ v. carries_in v ≡ 0) (refusing why.State (not (sound_of d)) ∷ refusing why.Limits (not (start_in start)) ∷ []) ((λ s. refl), λ s. ((λ l. refl), λ l. refl))

    pub reset_refused : is_err o.outcome ≡ true → CallEnds (answered (Reset start)) a ns fs
    unfolding emptied
    reset_refused z = go o.outcome refl z
      where
        go : (v : Result ⊤ Refusal) → o.outcome ≡ v → is_err v ≡ true → CallEnds (answered (Reset start)) a ns fs
        go (Ok x) e k = absurd (true≢false (sym k))
        go (Err r) e k =
            let none : carries r ≡ 0 = ap (λ (u : Result ⊤ Refusal). carries_in u) (sym e) ∙ bare in
            let told : a ≡ number r = t ∙ ap (λ (u : Result ⊤ Refusal). number_in u) e in
            call_packed (answered (Reset start)) (Err r) ns fs (call_kept (answered (Reset start)) emptied same (Err r) ns fs (call_refused emptied good (Err r) r (ap none_counted e) refl)) a (omega arith)

    pub reset_put : is_err o.outcome ≡ false → (ms : List ℕ) → ms ≡ numbers_written o.detector.kept no_tally ns → (gs : List Float) → gs ≡ floats_written o.detector fs → CallEnds (answered (Reset start)) a ms gs
    unfolding emptied
    reset_put z ms m gs g = go o.outcome refl z
      where
        go : (v : Result ⊤ Refusal) → o.outcome ≡ v → is_err v ≡ false → CallEnds (answered (Reset start)) a ms gs
        go (Err r) e k = absurd (true≢false k)
        go (Ok x) e k =
            let told : a ≡ 0 = t ∙ ap (λ (u : Result ⊤ Refusal). number_in u) e in
            call_packed (answered (Reset start)) (Ok 0) ms gs (call_kept (answered (Reset start)) emptied same (Ok 0) ms gs (call_written emptied good (Ok 0) no_tally (ap none_counted e) refl ms m gs g)) a (omega arith)

  -- ---- its arrays where they stand

  module _ (k : Kept) (e : k ≡ kept_at ns fs) where
    pub state_lent : state_at k fs ≡ d
    unfolding state_at detector_at
    state_lent = ap (λ (x : Kept). state_of x (take frame_most fs) (take frame_most (drop in-floats.carry fs)) (take warmup_most (drop in-floats.warmup fs))) e

    arrays_same : arrays_in d fs ≡ fs
    arrays_same = ap (λ (x : VadDetector). arrays_in x fs) (sym state_lent) ∙ arrays_back k fs

    -- a call that was heard in the memory: the single floats, put behind the arrays that it wrote, complete the state
    module _ (finish : Bool) (xs : List Float) (room : ℕ) (good : readable ns fs ≡ true) (sound : sound_of d ≡ true) where
      abbrev ran : VadDetector → Detected
      ran x = ran_of finish x xs room

      module _ (v : Result Heard Refusal) (r : (tallied v ≡ (ran (state_at k fs)).outcome) × IfOk v (λ h. h.kept ≡ (ran (state_at k fs)).detector.kept)) (gs : List Float) (g : gs ≡ arrays_in (ran (state_at k fs)).detector fs) where
        outcome_is : tallied v ≡ (ran d).outcome
        outcome_is = r.0 ∙ ap (λ (x : VadDetector). (ran x).outcome) state_lent

        pub heard_refused : (by : Refusal) → v ≡ Err by → (a : Result ℕ Refusal) → a ≡ Err by → OutcomeEnds ran a ns gs
        heard_refused by z a w =
            let stuck : (ran d).outcome ≡ Err by = sym outcome_is ∙ ap tallied z in
            let some : number_in (ran d).outcome ≡ 0 → ⊥ = (λ n. number_some by (ap (λ (u : Result Tally Refusal). number_in u) (sym stuck) ∙ n)) in
            let stays : gs ≡ fs = g ∙ ap (λ (x : VadDetector). arrays_in (ran x).detector fs) state_lent ∙ ap (λ (x : VadDetector). arrays_in x fs) (ran_given finish d xs room some) ∙ arrays_same in
            let ends = call_refused ran good a by stuck w in
            (ends.0, (ends.1.0, stays ∙ ends.1.1))

        pub heard_written : (h : Heard) → v ≡ Ok h → (a : Result ℕ Refusal) → a ≡ Ok 0 → (ms : List ℕ) → ms ≡ numbers_written h.kept h.tally ns → (hs : List Float) → hs ≡ sets gs in-floats.singles (singles_of h.kept) → OutcomeEnds ran a ms hs
        unfolding arrays_in
        heard_written h z a w ms m hs s =
            let new = (ran d).detector in
            let done : (ran d).outcome ≡ Ok h.tally = sym outcome_is ∙ ap tallied z in
            let of : h.kept ≡ (ran (state_at k fs)).detector.kept = subst (λ (u : Result Heard Refusal). IfOk u (λ i. i.kept ≡ (ran (state_at k fs)).detector.kept)) z r.1 in
            let kept : h.kept ≡ new.kept = of ∙ ap (λ (x : VadDetector). (ran x).detector.kept) state_lent in
            let arrays : gs ≡ arrays_in new fs = g ∙ ap (λ (x : VadDetector). arrays_in (ran x).detector fs) state_lent in
            let shape = ran_arrays finish d xs room (parts d sound) (read_shaped ns fs good) in
            let long = (memory.parts ns fs good).long.floats in
            let numbers : ms ≡ numbers_written new.kept h.tally ns = m ∙ ap (λ (x : Kept). numbers_written x h.tally ns) kept in
            let floats : hs ≡ floats_written new fs = s ∙ ap (λ (x : Kept). sets gs in-floats.singles (singles_of x)) kept ∙ ap (λ (ys : List Float). sets ys in-floats.singles (singles_of new.kept)) arrays ∙ singles_put new fs shape.window shape.carry shape.warmup long in
            call_written ran good a h.tally done w ms numbers hs floats

  -- ---- a call that reports rows

  module _ (finish : Bool) (xs : List Float) (rows : List ℕ) where
    abbrev pub RanEnds : Result ℕ Refusal → List ℕ → List Float → List ℕ → Type 0
    RanEnds a ms gs new =
        let f : VadDetector → Detected = (λ x. ran_of finish x xs (length rows)) in
        (a ≡ call_outcome ns fs f) × ((ms ≡ call_numbers ns fs f) × ((gs ≡ call_floats ns fs f) × (new ≡ written_of finish d xs rows)))

    pub ran_ends : (k : Kept) → k ≡ kept_at ns fs → (a : Result ℕ Refusal) (ms : List ℕ) (gs : List Float) → OutcomeEnds (λ x. ran_of finish x xs (length rows)) a ms gs → (new : List ℕ) → new ≡ written_of finish (state_at k fs) xs rows → RanEnds a ms gs new
    ran_ends k e a ms gs ends new w = (ends.0, (ends.1.0, (ends.1.1, w ∙ ap (λ (x : VadDetector). written_of finish x xs rows) (state_lent k e))))

  -- ---- detect and flush, which are one

  module _ (finish : Bool) (xs : List Float) (rows : List ℕ) where
    abbrev pub HeardEnds : Result ℕ Refusal → List ℕ → List Float → List ℕ → Type 0
    HeardEnds a ms gs new =
        let f = heard_of finish xs (length rows) in
        (a ≡ call_outcome ns fs f) × ((ms ≡ call_numbers ns fs f) × ((gs ≡ call_floats ns fs f) × (new ≡ rows_heard finish ns fs xs rows)))

    pub hear_unread : readable ns fs ≡ false → (a : Result ℕ Refusal) → a ≡ Err why.State → HeardEnds a ns fs rows
    unfolding rows_heard
    hear_unread h a e = let ends = call_unread (heard_of finish xs (length rows)) h a e in (ends.0, (ends.1.0, (ends.1.1, rw h)))

    -- what an answer carries is small
    pub heard_carries : (a : Result ℕ Refusal) → a ≡ call_outcome ns fs (heard_of finish xs (length rows)) → carried_in a < 2 ^ 55
    unfolding call_outcome
    heard_carries a e = rw e (go (readable ns fs) _ (heard_small finish d xs (length rows)))
      where
        go : (b : Bool) (v : Result ℕ Refusal) → carried_in v < 2 ^ 55 → carried_in (cond b v (Err why.State)) < 2 ^ 55
        go true v h = h
        go false v h = omega arith

    module _ (good : readable ns fs ≡ true) (k : Kept) (e : k ≡ kept_at ns fs) (r : Result ⊤ Refusal) (c : r ≡ check_of (state_at k fs) xs) where
      check_is : r ≡ check_of d xs
      check_is = c ∙ ap (λ (x : VadDetector). check_of x xs) (state_lent k e)

      -- what `call_checked` asks
      pub check_passed : r ≡ Ok tt → ((k ≡ kept_at ns fs) × (sound_of d ≡ true)) × ((length xs ≤ block_most) × (k.stream.processed_samples + length xs ≤ received_most))
      unfolding detector_at
      check_passed z =
          let ok = checked d xs (sym check_is ∙ z) in
          let fits = ok.fits in
          let same = ap (λ (x : Kept). x.stream.processed_samples) e in
          ((e, ok.sound), (ok.short, omega arith))

      pub hear_stopped : (by : Refusal) → r ≡ Err by → (a : Result ℕ Refusal) → a ≡ Err by → HeardEnds a ns fs rows
      unfolding heard_of rows_heard heard_rows refused_by
      hear_stopped by z a w =
          let n : check_of d xs ≡ Err by = sym check_is ∙ z in
          let p = refused_by by d in
          let same : p ≡ heard_of finish xs (length rows) d = rw n in
          let ends = call_kept (heard_of finish xs (length rows)) (λ _. p) same a ns fs (call_refused (λ _. p) good a by refl w) in
          (ends.0, (ends.1.0, (ends.1.1, rw (good, n))))

      pub hear_ran : r ≡ Ok tt → (a : Result ℕ Refusal) (ms : List ℕ) (gs : List Float) (new : List ℕ) → RanEnds finish xs rows a ms gs new → HeardEnds a ms gs new
      unfolding heard_of rows_heard heard_rows
      hear_ran z a ms gs new h =
          let n : check_of d xs ≡ Ok tt = sym check_is ∙ z in
          let f : VadDetector → Detected = (λ x. ran_of finish x xs (length rows)) in
          let same : f d ≡ heard_of finish xs (length rows) d = rw n in
          let ends = call_kept (heard_of finish xs (length rows)) f same a ms gs (h.0, (h.1.0, h.1.1.0)) in
          (ends.0, (ends.1.0, (ends.1.1, h.1.1.1 ∙ rw (good, n))))

  module _ (xs : List Float) (rows : List ℕ) where
    abbrev pub DetectEnds : ℕ → List ℕ → List Float → List ℕ → Type 0
    DetectEnds a ms gs new =
        let f = answered (Detect xs (length rows)) in
        (a ≡ call_answer ns fs f) × ((ms ≡ call_numbers ns fs f) × ((gs ≡ call_floats ns fs f) × (new ≡ detected_rows ns fs xs rows)))

    block_is : heard_of false xs (length rows) d ≡ answered (Detect xs (length rows)) d
    unfolding heard_of detect_of
    block_is = refl

    pub detect_ends : (v : Result ℕ Refusal) (ms : List ℕ) (gs : List Float) (new : List ℕ) → HeardEnds false xs rows v ms gs new → (a : ℕ) → a ≡ word_of v → DetectEnds a ms gs new
    unfolding rows_heard heard_rows detected_rows detect_rows
    detect_ends v ms gs new h a e =
        let f = answered (Detect xs (length rows)) in
        let ends = call_packed f v ms gs (call_kept f (heard_of false xs (length rows)) block_is v ms gs (h.0, (h.1.0, h.1.1.0))) a e in
        (ends.0, (ends.1.0, (ends.1.1, h.1.1.1)))

  module _ (rows : List ℕ) where
    abbrev pub FlushEnds : ℕ → List ℕ → List Float → List ℕ → Type 0
    FlushEnds a ms gs new =
        let f = answered (Flush (length rows)) in
        (a ≡ call_answer ns fs f) × ((ms ≡ call_numbers ns fs f) × ((gs ≡ call_floats ns fs f) × (new ≡ flushed_rows ns fs rows)))

    end_is : heard_of true [] (length rows) d ≡ answered (Flush (length rows)) d
    unfolding heard_of flush_of
    end_is = by_end d (λ b v. if_passed v (ran_of true d [] (length rows)) (λ r. refused_by r d) ≡ cond b (ran_of true d [] (length rows)) (refused_by why.State d)) refl refl

    end_rows : rows_heard true ns fs [] rows ≡ flushed_rows ns fs rows
    unfolding rows_heard heard_rows flushed_rows flush_rows
    end_rows = ap (λ (l : List ℕ). cond (readable ns fs) l rows) (by_end d (λ b v. if_passed v (written_of true d [] rows) (λ r. rows) ≡ cond b (written_of true d [] rows) rows) refl refl)

    pub flush_ends : (v : Result ℕ Refusal) (ms : List ℕ) (gs : List Float) (new : List ℕ) → HeardEnds true [] rows v ms gs new → (a : ℕ) → a ≡ word_of v → FlushEnds a ms gs new
    flush_ends v ms gs new h a e =
        let f = answered (Flush (length rows)) in
        let ends = call_packed f v ms gs (call_kept f (heard_of true [] (length rows)) end_is v ms gs (h.0, (h.1.0, h.1.1.0))) a e in
        (ends.0, (ends.1.0, (ends.1.1, h.1.1.1 ∙ end_rows)))

  -- ---- readings: each is one of `read`'s

  abbrev pub Carries : ℕ → ℕ → Type 0
  Carries v a = a ≡ cond (readable ns fs && sound_of d) (packed 0 v) 19

  reading_is : (v : ℕ) (r : Bool → Result ℕ Refusal) → r true ≡ Ok v → r false ≡ Err why.State
      → cond (readable ns fs && sound_of d) (packed 0 v) 19 ≡ cond (readable ns fs) (packed (number_in (r (sound_of d))) (result_unwrap_or (r (sound_of d)) 0)) 19
  reading_is v r good bad = go (readable ns fs) (sound_of d)
    where
      go : (a b : Bool) → cond (a && b) (packed 0 v) 19 ≡ cond a (packed (number_in (r b)) (result_unwrap_or (r b) 0)) 19
      go true true = rw good
      go true false = rw bad
      go false b = refl

  number_is : (v : ℕ) → cond (readable ns fs && sound_of d) (packed 0 v) 19 ≡ cond (readable ns fs) (packed (number_in (read_of d v)) (result_unwrap_or (read_of d v) 0)) 19
  unfolding read_of
  number_is v = reading_is v (λ b. cond b (Ok v) (Err why.State)) refl refl

  module _ (a : ℕ) where
    pub undecided_read_lem : Carries (let k = kept_at ns fs in undecided_of k.desk.warming k.rules.lengths.padding_samples k.stream.carry_start k.desk.track) a → a ≡ read_answer ns fs undecided_read
    unfolding read_answer undecided_read undecided_in detector_at
    undecided_read_lem h = h ∙ number_is _

    pub analyzed_read_lem : Carries (kept_at ns fs).stream.carry_start a → a ≡ read_answer ns fs analyzed_read
    unfolding read_answer analyzed_read detector_at
    analyzed_read_lem h = h ∙ number_is _

    pub rows_read_lem : Carries (kept_at ns fs).desk.track.rows_reported a → a ≡ read_answer ns fs rows_read
    unfolding read_answer rows_read detector_at
    rows_read_lem h = h ∙ number_is _

    pub talk_read_lem : Carries (kept_at ns fs).desk.track.talk_samples a → a ≡ read_answer ns fs talk_read
    unfolding read_answer talk_read detector_at
    talk_read_lem h = h ∙ number_is _

    pub floor_read_lem : Carries (to_bits binary32 (kept_at ns fs).desk.track.noise_floor) a → a ≡ read_answer ns fs floor_word
    unfolding read_answer read_of floor_read detector_at
    floor_read_lem h = h ∙ reading_is _ (λ b. result_map_both (to_bits binary32) (λ r. r) (cond b (Ok (kept_at ns fs).desk.track.noise_floor) (Err why.State))) refl refl

    pub segment_read_lem : Carries (start_word (open_start (kept_at ns fs).desk.track.active_segment)) a → a ≡ read_answer ns fs segment_word
    unfolding read_answer read_of segment_read detector_at
    segment_read_lem h = h ∙ reading_is _ (λ b. result_map_both start_word (λ r. r) (cond b (Ok (open_start (kept_at ns fs).desk.track.active_segment)) (Err why.State))) refl refl

  -- `read` of memory that holds no sound state, and of one that does
  module _ (Word : Kept → ℕ → Type 0) (a : ℕ) where
    stopped : readable ns fs && sound_of d ≡ false → a ≡ 19 → ReadBy Word ns fs a
    unfolding ReadBy
    stopped z e = (0, (λ t. absurd (subst (λ (b : Bool). T (not b)) (sym z ∙ t) tt)), e ∙ rw z)

    pub read_unread : readable ns fs ≡ false → a ≡ 19 → ReadBy Word ns fs a
    read_unread h = stopped (ap (λ (b : Bool). b && sound_of d) h)

    module _ (good : readable ns fs ≡ true) (k : Kept) (e : k ≡ kept_at ns fs) (t : Bool) (c : t ≡ sound_of (state_at k fs)) where
      sound_says : readable ns fs && sound_of d ≡ t
      sound_says = ap (λ (b : Bool). b && sound_of d) good ∙ ap sound_of (sym (state_lent k e)) ∙ sym c

      pub read_stopped : t ≡ false → a ≡ 19 → ReadBy Word ns fs a
      read_stopped z = stopped (sound_says ∙ z)

      pub read_done : t ≡ true → (word : ℕ) → Word k word → a ≡ packed 0 word → ReadBy Word ns fs a
      unfolding ReadBy
      read_done z word w h = (word, (λ _. subst (λ (x : Kept). Word x word) e w), h ∙ sym (ap (λ (b : Bool). cond b (packed 0 word) 19) (sound_says ∙ z)))

    -- where the word is known
    pub read_word : (v : ℕ) → ((w : ℕ) → Word (kept_at ns fs) w → w ≡ v) → ReadBy Word ns fs a → Carries v a
    unfolding ReadBy
    read_word v is h = h.2 ∙ go (readable ns fs && sound_of d) (λ t. is h.0 (h.1 t))
      where
        go : (b : Bool) → (b ≡ true → h.0 ≡ v) → cond b (packed 0 h.0) 19 ≡ cond b (packed 0 v) 19
        go true q = ap (packed 0) (q refl)
        go false q = refl
