use mathlib.Core.Path.{◌≡◌, sym, ◌∙◌}
use mathlib.Core.Bool.{true}
use Rattle.std.proofs.Common.{arith, rules}
use Rattle.std.proofs.lemmas.Grind.{common_steps}
use Rattle.vad_state.specs.State.{settings_sound, track_sound}
use Rattle.vad_state.proofs.Parts.{settings_parts, track_parts}
use Rattle.vad_state.proofs.Tests.{frame_short, hop_short, warmup_short}
use Rattle.vad_state.proofs.sound_lent.Goals as goal

pub carry_sound-requires : goal.carry_sound-requires
carry_sound-requires c =
    let set = settings_parts c.args.kept.rules c.args.arrays.window.now (sym c.settings_sound.ensures ∙ c.if-settings_sound.true) in
    (frame_short c.args.kept.rules set.0 set.1, search rules)

pub held_sound-requires : goal.held_sound-requires
held_sound-requires c =
    let a = c.args in
    let settled : settings_sound a.kept.rules a.arrays.window.now ≡ true = grind (arith, common_steps) in
    let set = settings_parts a.kept.rules a.arrays.window.now settled in
    (warmup_short a.kept.rules set.0 set.1, hop_short a.kept.rules set.0 set.1, search rules)

pub active_sound-requires : goal.active_sound-requires
active_sound-requires c =
    let a = c.args in
    let tracked : track_sound a.kept.rules.config.energy_floor a.kept.stream.processed_samples a.kept.desk.track ≡ true = grind (arith, common_steps) in
    (track_parts _ _ _ tracked).2
