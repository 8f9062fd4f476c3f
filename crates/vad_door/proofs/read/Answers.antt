use mathlib.Core.Path.{sym, ◌∙◌}
use Rattle.vad_door.proofs.Bounds.{words_small}
use Rattle.vad_door.proofs.Door.{readable_room, read_unread, read_stopped, read_done}
use Rattle.vad_door.proofs.read.Goals as goal

pub returns-then-not-is_readable : goal.returns-then-not-is_readable
returns-then-not-is_readable g c = read_unread _ _ _ _ (sym c.is_readable.ensures ∙ c.if-not-is_readable.true) c.word.ensures

pub sound_at-requires : goal.sound_at-requires
sound_at-requires g c = readable_room _ _ (sym c.is_readable.ensures ∙ c.if-not-is_readable.false)

pub returns-then-not-sound_at : goal.returns-then-not-sound_at
returns-then-not-sound_at g c =
    read_stopped _ _ _ _ (sym c.is_readable.ensures ∙ c.if-not-is_readable.false) c.kept_at-kept.result c.kept_at-kept.ensures c.sound_at.result c.sound_at.ensures c.if-not-sound_at.true c.word-then-not-sound_at.ensures

pub value-requires : goal.value-requires
value-requires g c = c.requires.callable c.kept_at-kept.result (words_small c.kept_at-kept.result c.args.floats.now (sym c.sound_at.ensures ∙ c.if-not-sound_at.false))

pub word-requires-2 : goal.word-requires-2
word-requires-2 g c =
    c.requires.small c.kept_at-kept.result c.value.result (words_small c.kept_at-kept.result c.args.floats.now (sym c.sound_at.ensures ∙ c.if-not-sound_at.false)) c.value.ensures

pub returns : goal.returns
returns g c =
    read_done _ _ _ _ (sym c.is_readable.ensures ∙ c.if-not-is_readable.false) c.kept_at-kept.result c.kept_at-kept.ensures c.sound_at.result c.sound_at.ensures c.if-not-sound_at.false c.value.result c.value.ensures c.word-2.ensures
