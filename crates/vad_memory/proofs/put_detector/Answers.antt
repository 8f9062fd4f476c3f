use mathlib.Core.Path.{◌≡◌, ap, ◌∙◌}
use Prim.Native.Nat.{◌≤◌}
use lib.ListN.{length}
use lib.Seq.{sets}
use Rattle.vad_layout.specs.Layout.{floats_most}
use Rattle.vad_layout.proofs.InFloats as in-floats
use Rattle.ranges.specs.Sizes.{frame_most, warmup_most}
use Rattle.vad_memory.specs.DetectorState.{singles_of}
use Rattle.vad_memory.proofs.Parts.{Long, long_parts, long_whole}
use Rattle.vad_memory.proofs.Put.{singles_put}
use borrow.Author.Rules.{rules}
use Rattle.vad_memory.proofs.put_detector.Goals.{Start}
use Rattle.vad_memory.proofs.put_detector.Goals as goal

told : (s : Start) → Long s.args.numbers.now s.args.floats.now
told s = long_parts s.args.numbers.now s.args.floats.now s.requires

pub put_arrays-requires : goal.put_arrays-requires
put_arrays-requires c = (told (goal.at.put_arrays-requires c).Start).floats

pub put_kept-requires : goal.put_kept-requires
put_kept-requires c =
    let long = told (goal.at.put_kept-requires c).Start in
    let room : floats_most ≤ length c.put_arrays.new.to = (let before = long.floats in search rules) in
    long_whole _ _ record { numbers = long.numbers; floats = room }

pub returns : goal.returns
returns c =
    let d = c.args.detector in
    let arrays = c.put_arrays in
    let put = c.put_kept.ensures in
    let window : length d.window ≡ frame_most = search rules in
    let carry : length d.carry ≡ frame_most = search rules in
    let warmup : length d.warmup ≡ warmup_most = search rules in
    record { numbers_left = put.numbers_left; floats_left = put.floats_left ∙ ap (λ xs. sets xs in-floats.singles (singles_of d.kept)) arrays.ensures ∙ singles_put d c.args.floats.now window carry warmup (told (goal.at.returns c).Start).floats }
