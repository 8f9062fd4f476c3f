use mathlib.Core.Path.{◌≡◌, ap, ◌∙◌}
use mathlib.Core.List.{List}
use Prim.Native.Nat.{◌-◌}
use lib.ListN.{length, take}
use lib.Seq.{sets, length-take-le}
use lib.Ieee.{Float}
use Rattle.vad_frames.specs.Grid.{energies_of, framed_of}
use Rattle.lists.proofs.Stores.{from_start}
use Rattle.vad_call.proofs.frame_values.Goals.{Start}
use Rattle.vad_call.proofs.frame_values.Goals as goal

part : (s : Start) → let n = s.args.frame_length in take (n - 0) s.args.window.now ≡ take n s.args.window.now
part s = from_start s.args.frame_length s.args.window.now

pub frame_signal-requires : goal.frame_signal-requires
frame_signal-requires c =
    let n = c.args.frame_length in
    let wide : length (take (n - 0) c.args.window.now) ≡ n = ap length (part (goal.at.frame_signal-requires c).Start) ∙ length-take-le n c.args.window.now c.requires.le_hop_length.2 in
    record { le_hop_length = rw wide (c.requires.le_hop_length.0, c.requires.le_hop_length.1); values_in_bounds = rw wide c.requires.values_in_bounds }

pub returns : goal.returns
returns c =
    let framed = c.frame_signal in record { value = framed.ensures.value ∙ ap (λ (w : List Float). framed_of c.args.finish w c.args.hop_length c.args.values.now) (part (goal.at.returns c).Start); energies_left = framed.ensures.energies_left ∙ ap (λ (w : List Float). sets c.args.energies.now 0 (energies_of c.args.finish w c.args.hop_length c.args.values.now)) (part (goal.at.returns c).Start) }
