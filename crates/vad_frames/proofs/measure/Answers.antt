use mathlib.Core.Path.{◌≡◌, sym, ap, ◌∙◌}
use mathlib.Core.Bool.{true}
use Prim.Native.Nat.{ℕ, ◌+◌, ◌-◌}
use native.Mathlib.Omega.{arith}
use lib.ListN.{length, take, drop, set, length-set}
use lib.Seq.{sets}
use Rattle.lists.proofs.Stores.{sets_cons}
use Rattle.vad_frames.specs.Grid.{taken, frames_of, energies_of}
use Rattle.vad_frames.specs.Energy.{energy_of}
use Rattle.vad_frames.proofs.Turns.{part_is, frames_step, frames_stop, frames_end, energies_step, energies_none}
use Rattle.vad_frames.proofs.measure.Goals.{Else-not-starts, After-frame_energy}
use Rattle.vad_frames.proofs.measure.Goals as goal

-- past the test a frame starts here
starts-here : (k : Else-not-starts) → let g = k.args in taken g.finish (length g.window.now) (length g.values.now - k.loop-start.start) ≡ true
starts-here k = sym k.starts.ensures ∙ k.if-not-starts.false

pub bounds-energies-count : goal.bounds-energies-count
bounds-energies-count c =
    let g = c.args in
    let more = ap length (frames_step g.finish (length g.window.now) g.hop_length c.loop-start.start g.values.now (omega arith) (omega arith) (starts-here (goal.at.bounds-energies-count c).Else-not-starts)) in
    omega arith

-- what is still to be stored after this frame, and how many frames that is
stored : (k : After-frame_energy) → let g = k.args in
    sets (set k.loop-start.energies k.loop-start.count k.frame_energy.result) (k.loop-start.count + 1) (energies_of g.finish g.window.now g.hop_length (drop (k.loop-start.start + g.hop_length) g.values.now)) ≡ sets g.energies.now 0 (energies_of g.finish g.window.now g.hop_length g.values.now)
stored k =
    let g = k.args in
    let xs = g.values.now in
    let ws = g.window.now in
    let s = k.loop-start.start in
    let es = k.loop-start.energies in
    let n = k.loop-start.count in
    let v = energy_of ws (take (length ws) (drop s xs)) in
    let e = k.frame_energy.ensures ∙ ap (λ (z : ℕ). energy_of ws (take (s + z - s) (drop s xs))) k.min.ensures ∙ ap (energy_of ws) (part_is (length ws) s xs) in
    rw e (sets_cons es n v (energies_of g.finish ws g.hop_length (drop (s + g.hop_length) xs)) ∙ ap (sets es n) (sym (energies_step g.finish ws g.hop_length s xs (omega arith) (omega arith) (starts-here (goal.at.After-frame_energy k).Else-not-starts))) ∙ k.loop-start.invariant.2)

counted : (k : After-frame_energy) → let g = k.args in
    k.loop-start.count + 1 + length (frames_of g.finish (length g.window.now) g.hop_length (drop (k.loop-start.start + g.hop_length) g.values.now)) ≡ length (frames_of g.finish (length g.window.now) g.hop_length g.values.now)
counted k =
    let g = k.args in
    let more = ap length (frames_step g.finish (length g.window.now) g.hop_length k.loop-start.start g.values.now (omega arith) (omega arith) (starts-here (goal.at.After-frame_energy k).Else-not-starts)) in
    omega arith

pub loop-start-preserved : goal.loop-start-preserved
loop-start-preserved c =
    let k = (goal.at.loop-start-preserved c).After-frame_energy in
    let long : length (set c.loop-start.energies c.loop-start.count c.frame_energy.result) ≡ length c.loop-start.energies = simp length-set in
    (long ∙ c.loop-start.invariant.0, counted k, stored k)

pub returns : goal.returns
returns c =
    let g = c.args in
    let none = frames_end g.finish (length g.window.now) g.hop_length c.loop-start.start g.values.now (omega arith) in
    let count = ap length none in
    record { value = omega arith; energies_left = rw (energies_none g.finish g.window.now g.hop_length c.loop-start.start g.values.now none) at c.loop-start.invariant.2 }

pub returns-then-not-starts : goal.returns-then-not-starts
returns-then-not-starts c =
    let g = c.args in
    let bad = sym c.starts.ensures ∙ c.if-not-starts.true in
    let none = frames_stop g.finish (length g.window.now) g.hop_length c.loop-start.start g.values.now (omega arith) bad in
    let count = ap length none in
    record { value = omega arith; energies_left = rw (energies_none g.finish g.window.now g.hop_length c.loop-start.start g.values.now none) at c.loop-start.invariant.2 }

pub returns-else-not-starts : goal.returns-else-not-starts
returns-else-not-starts c =
    let g = c.args in
    let k = (goal.at.returns-else-not-starts c).After-frame_energy in
    let none = frames_end g.finish (length g.window.now) g.hop_length (c.loop-start.start + g.hop_length) g.values.now (omega arith) in
    let count = ap length none in
    let all = counted k in
    record { value = omega arith; energies_left = rw (energies_none g.finish g.window.now g.hop_length (c.loop-start.start + g.hop_length) g.values.now none) at (stored k) }
