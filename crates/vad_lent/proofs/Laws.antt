-- Arrays put into their places in the floats, one behind the other. Assumes nothing.
use mathlib.Core.Path.{◌≡◌, refl, sym, ap, ◌∙◌}
use mathlib.Core.List.{List, ◌++◌, append_assoc}
use Prim.Native.Nat.{ℕ, ◌+◌, ◌-◌, ◌≤◌}
use native.Mathlib.Omega.{arith}
use lib.ListN.{length, take, drop, length-take, length-drop, length-append, take-append-drop}
use lib.Seq.{drop-drop, take_at, drop_at}
use lib.Ieee.{Float}
use Rattle.vad_layout.proofs.InFloats as in-floats
use Rattle.ranges.specs.Sizes.{frame_most, warmup_most}
use Rattle.vad_state.specs.Arrays.{filled_of}
use Rattle.vad_state.proofs.Fills.{filled_length}
use Rattle.vad_state.specs.State.{state_of, window_of}
use Rattle.vad_state.specs.declared.Kept.{Kept}
use Rattle.vad_call.specs.Calls.{refused_by, joined_of, taken_of, settled_of, tallied}
use Rattle.vad_call.specs.Answers.{Detected}
use Rattle.vad_call.specs.declared.Heard.{Heard}
use Rattle.std.specs.Prelude.{Result, Ok, Err, IfOk}
use Rattle.refusals.specs.declared.Refusal.{Refusal}
use Rattle.vad_lent.specs.Inside.{put_in, heard_in, settled_in}
use Rattle.vad_lent.specs.Lent.{state_at, arrays_in}

-- the three parts that are lent have their lengths
pub parts_long : (fs : List Float) → in-floats.singles ≤ length fs → (length (take frame_most fs) ≡ frame_most) × (length (take frame_most (drop in-floats.carry fs)) ≡ frame_most) × (length (take warmup_most (drop in-floats.warmup fs)) ≡ warmup_most)
parts_long fs long =
    let one = length-take frame_most fs in
    let two = length-take frame_most (drop in-floats.carry fs) in
    let three = length-take warmup_most (drop in-floats.warmup fs) in
    let second = length-drop in-floats.carry fs in
    let third = length-drop in-floats.warmup fs in
    (omega arith, omega arith, omega arith)

-- and are the state's arrays
pub state_lent : (k : Kept) (fs window carry warmup : List Float) → window ≡ take frame_most fs → carry ≡ take frame_most (drop in-floats.carry fs) → warmup ≡ take warmup_most (drop in-floats.warmup fs)
    → state_of k window carry warmup ≡ state_at k fs
unfolding state_at
state_lent k fs window carry warmup w c h = rw (w, c, h)

-- each part is lent and written before the next is
module _ (n : ℕ) (fs carry held x y z : List Float) where
  abbrev first : List Float
  first = x ++ drop in-floats.carry fs

  abbrev second : List Float
  second = take frame_most first ++ (y ++ drop in-floats.carry (drop in-floats.carry first))

  pub three_put : in-floats.singles ≤ length fs → n ≤ frame_most → length carry ≤ frame_most → length held ≤ warmup_most
      → x ≡ filled_of (length (take frame_most fs)) (take n (take frame_most fs)) → y ≡ filled_of (length (take frame_most (drop in-floats.carry first))) carry → z ≡ filled_of (length (take warmup_most (drop in-floats.warmup second))) held
      → take in-floats.warmup second ++ (z ++ drop warmup_most (drop in-floats.warmup second)) ≡ put_in n carry held fs
  unfolding put_in
  three_put long few fc fh ex ey ez =
      let window = take n (take frame_most fs) in
      let wide = length-take frame_most fs in
      let used = length-take n (take frame_most fs) in
      let x_is : x ≡ filled_of frame_most window = ex ∙ ap (λ (k : ℕ). filled_of k window) (omega arith) in
      let x_long : length x ≡ frame_most = ap length x_is ∙ filled_length frame_most window (omega arith) in
      let head : take frame_most first ≡ x = take_at x (drop in-floats.carry fs) frame_most x_long in
      let rest : drop in-floats.carry first ≡ drop in-floats.carry fs = drop_at x (drop in-floats.carry fs) frame_most x_long in
      let behind = length-drop in-floats.carry fs in
      let room = length-take frame_most (drop in-floats.carry fs) in
      let y_room : length (take frame_most (drop in-floats.carry first)) ≡ frame_most = ap (λ (l : List Float). length (take frame_most l)) rest ∙ omega arith in
      let y_is : y ≡ filled_of frame_most carry = ey ∙ ap (λ (k : ℕ). filled_of k carry) y_room in
      let y_long : length y ≡ frame_most = ap length y_is ∙ filled_length frame_most carry fc in
      let further : drop in-floats.carry (drop in-floats.carry first) ≡ drop in-floats.warmup fs = ap (drop in-floats.carry) rest ∙ drop-drop frame_most in-floats.carry fs in
      let both : second ≡ (x ++ y) ++ drop in-floats.warmup fs = ap (λ (l : List Float). l ++ (y ++ drop in-floats.carry (drop in-floats.carry first))) head ∙ ap (λ (l : List Float). x ++ (y ++ l)) further ∙ sym (append_assoc x y (drop in-floats.warmup fs)) in
      let joined = length-append x y in
      let two : length (x ++ y) ≡ in-floats.warmup = omega arith in
      let front : take in-floats.warmup second ≡ x ++ y = ap (take in-floats.warmup) both ∙ take_at (x ++ y) (drop in-floats.warmup fs) in-floats.warmup two in
      let tail : drop in-floats.warmup second ≡ drop in-floats.warmup fs = ap (drop in-floats.warmup) both ∙ drop_at (x ++ y) (drop in-floats.warmup fs) in-floats.warmup two in
      let last = length-drop in-floats.warmup fs in
      let space = length-take warmup_most (drop in-floats.warmup fs) in
      let z_room : length (take warmup_most (drop in-floats.warmup second)) ≡ warmup_most = ap (λ (l : List Float). length (take warmup_most l)) tail ∙ omega arith in
      let z_is : z ≡ filled_of warmup_most held = ez ∙ ap (λ (k : ℕ). filled_of k held) z_room in
      let end : drop warmup_most (drop in-floats.warmup second) ≡ drop in-floats.singles fs = ap (drop warmup_most) tail ∙ drop-drop warmup_most in-floats.warmup fs in
      ap (λ (l : List Float). l ++ (z ++ drop warmup_most (drop in-floats.warmup second))) front
      ∙ ap (λ (l : List Float). (x ++ y) ++ (z ++ l)) end
      ∙ append_assoc x y (z ++ drop in-floats.singles fs)
      ∙ ap (λ (l : List Float). l ++ (y ++ (z ++ drop in-floats.singles fs))) x_is
      ∙ ap (λ (l : List Float). filled_of frame_most window ++ (l ++ (z ++ drop in-floats.singles fs))) y_is
      ∙ ap (λ (l : List Float). filled_of frame_most window ++ (filled_of frame_most carry ++ (l ++ drop in-floats.singles fs))) z_is

-- the arrays that stand in the floats, put where they stand
pub arrays_back : (k : Kept) (fs : List Float) → arrays_in (state_at k fs) fs ≡ fs
unfolding arrays_in state_at
arrays_back k fs =
    ap (λ (l : List Float). take frame_most fs ++ (take frame_most (drop in-floats.carry fs) ++ (take warmup_most (drop in-floats.warmup fs) ++ l))) (sym (drop-drop warmup_most in-floats.warmup fs))
    ∙ ap (λ (l : List Float). take frame_most fs ++ (take frame_most (drop in-floats.carry fs) ++ l)) (take-append-drop warmup_most (drop in-floats.warmup fs) ∙ sym (drop-drop frame_most in-floats.carry fs))
    ∙ ap (λ (l : List Float). take frame_most fs ++ l) (take-append-drop in-floats.carry (drop in-floats.carry fs))
    ∙ take-append-drop in-floats.carry fs

joined : (k n : Kept) (carry held fs : List Float) → put_in k.rules.lengths.frame_length carry held fs ≡ arrays_in (joined_of (state_at k fs) n carry held) fs
unfolding put_in arrays_in joined_of state_at window_of
joined k n carry held fs = refl

-- what a call leaves, in the words of the state that it leads to
module _ (k : Kept) (fs values energies : List Float) where
  pub settled_arrays : (h : Result Heard Refusal) → settled_in k.rules.lengths.frame_length h values energies fs ≡ arrays_in (settled_of h values energies (state_at k fs)).detector fs
  unfolding settled_in heard_in settled_of taken_of refused_by
  settled_arrays (Ok h) = joined k h.kept (take h.kept.stream.carry_len (drop h.consumed values)) (take h.kept.desk.held energies) fs
  settled_arrays (Err r) = sym (arrays_back k fs)

  settled_tallied : (h : Result Heard Refusal) → tallied h ≡ (settled_of h values energies (state_at k fs)).outcome
  unfolding settled_of taken_of refused_by
  settled_tallied (Ok h) = refl
  settled_tallied (Err r) = refl

  -- the answer of a call from what was heard, and what it leaves in the floats
  module _ (h : Result Heard Refusal) (ran : Detected) (same : ran ≡ settled_of h values energies (state_at k fs)) where
    pub ran_tallied : tallied h ≡ ran.outcome
    ran_tallied = settled_tallied h ∙ sym (ap (λ (x : Detected). x.outcome) same)

    pub ran_arrays : (out : List Float) → out ≡ settled_in k.rules.lengths.frame_length h values energies fs → out ≡ arrays_in ran.detector fs
    ran_arrays out e = e ∙ settled_arrays h ∙ sym (ap (λ (x : Detected). arrays_in x.detector fs) same)

pub settled_refused : (n : ℕ) (r : Refusal) (values energies fs : List Float) → fs ≡ settled_in n (Err r) values energies fs
unfolding settled_in
settled_refused n r values energies fs = refl

-- the parts as they are lent
pub heard_put : (n : ℕ) (h : Heard) (values energies fs out : List Float) → out ≡ put_in n (take (h.consumed + h.kept.stream.carry_len - h.consumed) (drop h.consumed values)) (take (h.kept.desk.held - 0) energies) fs
    → out ≡ heard_in n h values energies fs
unfolding heard_in
heard_put n h values energies fs out put =
    let long : h.consumed + h.kept.stream.carry_len - h.consumed ≡ h.kept.stream.carry_len = omega arith in
    let first : h.kept.desk.held - 0 ≡ h.kept.desk.held = omega arith in
    put ∙ rw (long, first)

-- of what was heard the numbers alone
pub kept_told : (a : Kept) (b : ℕ) (h : Result Heard Refusal) → IfOk h (λ x. (x.kept ≡ a) × (x.kept.stream.carry_start ≡ b + x.consumed)) → IfOk h (λ x. x.kept ≡ a)
kept_told a b (Ok x) p = p.0
kept_told a b (Err r) p = tt
