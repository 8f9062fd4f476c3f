use mathlib.Core.Path.{◌≡◌, refl, ap, ◌∙◌}
use Prim.Native.Nat.{◌≤◌}
use lib.ListN.{length}
use borrow.Author.Rules.{rules}
use Rattle.std.specs.Prelude.{Err}
use Rattle.vad_state.specs.State.{sound_of}
use Rattle.vad_layout.specs.Layout.{floats_most}
use Rattle.vad_memory.proofs.Parts.{parts, long_whole}
use Rattle.vad_door.proofs.Door.{readable_room, state_lent, heard_refused, heard_written, ran_ends}
use Rattle.vad_door.proofs.call_checked.Goals as goal

pub hear_at-requires : goal.hear_at-requires
hear_at-requires c =
    let a = c.args in
    let kept = c.requires.kept_value.0 in
    record { floats_value = ap sound_of (state_lent a.numbers.now a.floats.now a.kept kept) ∙ c.requires.kept_value.1; singles_first_in_bounds = (readable_room _ _ c.requires.floats_value, c.requires.samples_len_bound.0, c.requires.samples_len_bound.1) }

pub returns-in_err-heard : goal.returns-in_err-heard
returns-in_err-heard c =
    let ran = c.hear_at in
    let a = c.args in
    let kept = c.requires.kept_value.0 in
    let by = c.in_err-heard.field-0.0 in
    let gone : c.from_residual.result ≡ Err by = search rules in
    let ends = heard_refused a.numbers.now a.floats.now a.kept kept a.finish a.samples.now (length a.rows.now) c.requires.floats_value c.requires.kept_value.1 ran.result ran.ensures.refusal_value ran.new.floats ran.ensures.floats_left by c.in_err-heard.was c.from_residual.result gone in
    let e = ran_ends a.numbers.now a.floats.now a.finish a.samples.now a.rows.now a.kept kept c.from_residual.result a.numbers.now ran.new.floats ends ran.new.rows ran.ensures.rows_left in
    record { value = e.0; numbers_left = e.1.0; floats_left = e.1.1.0; rows_left = e.1.1.1 }

pub put_kept-requires : goal.put_kept-requires
put_kept-requires c =
    let long = (parts _ _ c.requires.floats_value).long in
    let room : floats_most ≤ length c.hear_at.new.floats = (let before = long.floats in search rules) in
    long_whole _ _ record { numbers = long.numbers; floats = room }

pub returns : goal.returns
returns c =
    let put = c.put_kept in
    let ran = c.hear_at in
    let a = c.args in
    let kept = c.requires.kept_value.0 in
    let ends = heard_written a.numbers.now a.floats.now a.kept kept a.finish a.samples.now (length a.rows.now) c.requires.floats_value c.requires.kept_value.1 ran.result ran.ensures.refusal_value ran.new.floats ran.ensures.floats_left c.in_ok-heard.heard c.in_ok-heard.was _ refl put.new.numbers put.ensures.numbers_left put.new.floats put.ensures.floats_left in
    let e = ran_ends a.numbers.now a.floats.now a.finish a.samples.now a.rows.now a.kept kept _ put.new.numbers put.new.floats ends ran.new.rows ran.ensures.rows_left in
    record { value = e.0; numbers_left = e.1.0; floats_left = e.1.1.0; rows_left = e.1.1.1 }
