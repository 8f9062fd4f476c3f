use mathlib.Core.Path.{◌≡◌, refl, ap, ◌∙◌}
use mathlib.Core.List.{List}
use Prim.Native.Nat.{◌+◌, ◌-◌, ◌≤◌}
use native.Mathlib.Omega.{arith}
use lib.ListN.{length, take, length-take}
use lib.Seq.{sets}
use lib.Ieee.{Float}
use Rattle.vad_segments.specs.Rooms.{positions_first}
use Rattle.ranges.specs.Sizes.{frame_most, warmup_most}
use Rattle.vad_state.specs.State.{state_of}
use Rattle.vad_state.specs.declared.VadDetector.{VadDetector}
use Rattle.vad_state.proofs.Parts.{Sound, parts, frame_high, hop_low, hop_high, lengths_within, track_within}
use Rattle.vad_call.specs.Calls.{values_of, waiting_of, measured_from, consumed_from, values_most, energies_most}
use Rattle.vad_call.proofs.Calls.{gathered_values, waiting_count, waiting_few, joined_measured, framed_consumed, total_few, consumed_few, frames_fit, heard_is}
use borrow.Author.Rules.{rules}
use Rattle.vad_call.proofs.hear.Goals.{After-gather-last, After-measure-framed, After-waiting-held, Start}
use Rattle.vad_call.proofs.hear.Goals as goal

-- the state that the numbers and the lent arrays are
abbrev state : Start → VadDetector
state s = state_of s.args.kept s.args.arrays.window.now s.args.arrays.carry.now s.args.arrays.warmup.now

sound : (s : Start) → Sound (state s)
sound s = parts (state s) s.requires.arrays_value

start-within : (s : Start) → s.args.kept.stream.carry_start ≤ positions_first
start-within s = let joined = (sound s).joined in let received = (sound s).received in omega arith

total-fits : (s : Start) → s.args.kept.stream.carry_len + length s.args.samples.now ≤ values_most
total-fits s = total_few (state s) (sound s) (length s.args.samples.now) s.requires.samples_len_bound.0

values-long : (g : After-gather-last) → length g.gather-last.new.values ≡ values_most
values-long g = g.gather-last.auto.values ∙ g.requires.values_len.0

energies-long : (m : After-measure-framed) → length m.measure-framed.new.energies ≡ energies_most
energies-long m = m.measure-framed.auto.energies ∙ m.requires.values_len.1

abbrev put-state : After-gather-last → VadDetector
put-state g = state_of g.args.kept g.args.arrays.window.now g.args.arrays.carry.now g.args.arrays.warmup.now

-- what was put, in the state's words
values-are : (g : After-gather-last) → g.gather-last.new.values ≡ sets g.args.values.now 0 (values_of (put-state g) g.args.samples.now)
values-are g =
    let coeff = g.coefficient-coeff in
    g.gather-last.ensures.values_left ∙ ap (sets g.args.values.now 0) (gathered_values (put-state g) g.args.samples.now coeff.result coeff.ensures)

abbrev waiting-state : After-waiting-held → VadDetector
waiting-state w = state_of w.args.kept w.args.arrays.window.now w.args.arrays.carry.now w.args.arrays.warmup.now

-- as many as are held
waited : (w : After-waiting-held) → length w.args.arrays.warmup.now ≡ warmup_most → w.waiting-held.result ≡ length (waiting_of (waiting-state w))
waited w long = w.waiting-held.ensures ∙ waiting_count (waiting-state w) (parts (waiting-state w) w.requires.arrays_value) long

module _ (m : After-measure-framed) where
  abbrev d : VadDetector
  d = state_of m.args.kept m.args.arrays.window.now m.args.arrays.carry.now m.args.arrays.warmup.now

  d-sound : Sound d
  d-sound = parts d m.requires.arrays_value

  window-lent : length d.window ≡ frame_most
  window-lent = search rules

  carry-lent : length d.carry ≡ frame_most
  carry-lent = search rules

  warmup-lent : length d.warmup ≡ warmup_most
  warmup-lent = search rules

  -- the values that were measured
  abbrev values : List Float
  values = take (m.args.kept.stream.carry_len + length m.args.samples.now - 0) m.gather-last.new.values

  values-put : m.gather-last.new.values ≡ sets m.args.values.now 0 (values_of d m.args.samples.now)
  values-put = m.gather-last.ensures.values_left ∙ ap (sets m.args.values.now 0) (gathered_values d m.args.samples.now m.coefficient-coeff.result m.coefficient-coeff.ensures)

  held-are : m.waiting-held.result ≡ length (waiting_of d)
  held-are = m.waiting-held.ensures ∙ waiting_count d d-sound warmup-lent

  consumed_is : m.measure-framed.result.consumed ≡ consumed_from m.args.finish d values
  consumed_is = m.measure-framed.ensures.consumed_value ∙ framed_consumed m.args.finish d values

  frames-are : m.measure-framed.result.frames ≡ length (measured_from m.args.finish d values)
  frames-are = m.measure-framed.ensures.frames_value ∙ ap length (joined_measured m.args.finish d m.waiting-held.result held-are values)

  energies-are : m.measure-framed.new.energies ≡ sets m.args.energies.now 0 (measured_from m.args.finish d values)
  energies-are = m.measure-framed.ensures.energies_left ∙ ap (sets m.args.energies.now 0) (joined_measured m.args.finish d m.waiting-held.result held-are values)

  -- no more is used up than there is
  used-up : m.measure-framed.result.consumed ≤ m.args.kept.stream.carry_len + length m.args.samples.now
  used-up = consumed_few m.args.finish d d-sound m.args.samples.now m.requires.samples_len_bound.0 window-lent carry-lent m.args.values.now m.gather-last.new.values m.requires.values_len.0 values-put m.measure-framed.result.consumed consumed_is

  counted : m.measure-framed.result.frames ≤ energies_most
  counted = frames_fit m.args.finish d d-sound m.args.samples.now m.requires.samples_len_bound.0 window-lent carry-lent m.args.values.now m.gather-last.new.values m.requires.values_len.0 values-put m.measure-framed.result.consumed consumed_is m.args.energies.now m.measure-framed.new.energies m.requires.values_len.1 energies-are m.measure-framed.result.frames frames-are

pub gather-last-requires : goal.gather-last-requires
gather-last-requires c =
    let total = total-fits (goal.at.gather-last-requires c).Start in
    let long : length c.args.arrays.carry.now ≡ frame_most = search rules in
    let room = c.requires.values_len.0 in
    let short : c.args.kept.stream.carry_len + 1 ≤ c.args.kept.rules.lengths.frame_length = omega (arith, (sound (goal.at.gather-last-requires c).Start).short) in
    let high : c.args.kept.rules.lengths.frame_length ≤ frame_most = frame_high (state (goal.at.gather-last-requires c).Start) (sound (goal.at.gather-last-requires c).Start) in
    (omega arith, omega arith)

pub overflow_add-total : goal.overflow_add-total
overflow_add-total c = let total = total-fits (goal.at.overflow_add-total c).Start in search rules

pub slice_bounds-measure-end-3 : goal.slice_bounds-measure-end-3
slice_bounds-measure-end-3 c =
    let long = values-long (goal.at.slice_bounds-measure-end-3 c).After-gather-last in
    let total = total-fits (goal.at.slice_bounds-measure-end-3 c).Start in
    search rules

pub measure-framed-requires : goal.measure-framed-requires
measure-framed-requires c =
    let r = c.args.kept.rules.lengths in
    let low : 8 ≤ r.hop_length = hop_low (state (goal.at.measure-framed-requires c).Start) (sound (goal.at.measure-framed-requires c).Start) in
    let high : r.hop_length ≤ r.frame_length = hop_high (state (goal.at.measure-framed-requires c).Start) (sound (goal.at.measure-framed-requires c).Start) in
    let most : r.frame_length ≤ frame_most = frame_high (state (goal.at.measure-framed-requires c).Start) (sound (goal.at.measure-framed-requires c).Start) in
    let wide : length c.args.arrays.window.now ≡ frame_most = search rules in
    let room : length c.args.arrays.warmup.now ≡ warmup_most = search rules in
    let held : c.waiting-held.result ≤ warmup_most = rw (waited (goal.at.measure-framed-requires c).After-waiting-held room) (waiting_few (state (goal.at.measure-framed-requires c).Start) (sound (goal.at.measure-framed-requires c).Start)) in
    let long = values-long (goal.at.measure-framed-requires c).After-gather-last in
    let few = length-take (c.args.kept.stream.carry_len + length c.args.samples.now - 0) c.gather-last.new.values in
    record { le_hop_length = (low, high, omega arith); held_le_warmup_most = (held, omega arith, omega arith, c.requires.values_len.1) }

pub overflow_add-processed_samples : goal.overflow_add-processed_samples
overflow_add-processed_samples c = let fits = c.requires.samples_len_bound.1 in search rules

pub slice_bounds-hold_or_judge-end : goal.slice_bounds-hold_or_judge-end
slice_bounds-hold_or_judge-end c =
    let count = counted (goal.at.slice_bounds-hold_or_judge-end c).After-measure-framed in
    let long = energies-long (goal.at.slice_bounds-hold_or_judge-end c).After-measure-framed in
    search rules

pub hold_or_judge-outcome-requires : goal.hold_or_judge-outcome-requires
hold_or_judge-outcome-requires c =
    let few = length-take (c.measure-framed.result.frames - 0) c.measure-framed.new.energies in
    let long = energies-long (goal.at.hold_or_judge-outcome-requires c).After-measure-framed in
    let received = c.requires.samples_len_bound.1 in
    record { lengths_within = (lengths_within (state (goal.at.hold_or_judge-outcome-requires c).Start) (sound (goal.at.hold_or_judge-outcome-requires c).Start), track_within (state (goal.at.hold_or_judge-outcome-requires c).Start) (sound (goal.at.hold_or_judge-outcome-requires c).Start)); carry_start_bound = (start-within (goal.at.hold_or_judge-outcome-requires c).Start, omega arith, omega arith) }

pub overflow_sub-total : goal.overflow_sub-total
overflow_sub-total c =
    let used = used-up (goal.at.overflow_sub-total c).After-measure-framed in
    search rules

pub overflow_add-kept : goal.overflow_add-kept
overflow_add-kept c =
    let used = used-up (goal.at.overflow_add-kept c).After-measure-framed in
    let total = total-fits (goal.at.overflow_add-kept c).Start in
    let start : c.args.kept.stream.carry_start ≤ positions_first = start-within (goal.at.overflow_add-kept c).Start in
    search rules

pub shape_of-values : goal.shape_of-values
shape_of-values c = c.gather-last.auto.values

pub shape_of-energies : goal.shape_of-energies
shape_of-energies c = c.measure-framed.auto.energies

pub returns : goal.returns
returns c =
    let d = state (goal.at.returns c).Start in
    let j = c.hold_or_judge-outcome in
    let h =
    heard_is c.args.finish d (sound (goal.at.returns c).Start) c.args.samples.now c.requires.samples_len_bound.0 (window-lent (goal.at.returns c).After-measure-framed) (carry-lent (goal.at.returns c).After-measure-framed) c.args.values.now c.gather-last.new.values c.requires.values_len.0 (values-are (goal.at.returns c).After-gather-last) c.measure-framed.result (consumed_is (goal.at.returns c).After-measure-framed) c.args.energies.now c.measure-framed.new.energies c.requires.values_len.1 (energies-are (goal.at.returns c).After-measure-framed) (frames-are (goal.at.returns c).After-measure-framed) c.gather-last.result c.gather-last.ensures.value j.result
    j.ensures.needed_value.0
    j.ensures.refused_value.1
    j.ensures.needed_value.1
    c.args.rows.now j.new.rows
    j.ensures.refused_value.0
    j.ensures.rows_left
    c.concluded.result _ c.concluded.ensures refl in
    record { rows_value = h.0; kept_value = h.1.0; carry_len_bound = h.1.1.0; rows_left = h.1.1.1 }
