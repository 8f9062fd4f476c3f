use mathlib.Core.Path.{◌≡◌, refl, sym, ◌∙◌}
use mathlib.Core.Bool.{true}
use borrow.Author.Rules.{rules}
use Rattle.std.specs.Prelude.{Err}
use Rattle.vad_memory.specs.DetectorState.{readable}
use Rattle.vad_door.proofs.Door.{readable_room, hear_unread, check_passed, hear_stopped, hear_ran}
use Rattle.vad_door.proofs.call.Goals.{Else-not-is_readable}
use Rattle.vad_door.proofs.call.Goals as goal

good : (k : Else-not-is_readable) → let s = k.args in readable s.numbers.now s.floats.now ≡ true
good k = sym k.is_readable.ensures ∙ k.if-not-is_readable.false

pub returns-then-not-is_readable : goal.returns-then-not-is_readable
returns-then-not-is_readable c =
    let s = c.args in
    let bad = sym c.is_readable.ensures ∙ c.if-not-is_readable.true in
    let ends = hear_unread s.numbers.now s.floats.now s.finish s.samples.now s.rows.now bad _ refl in
    record { value = ends.0; numbers_left = ends.1.0; floats_left = ends.1.1.0; rows_left = ends.1.1.1 }

pub kept_at-kept-requires : goal.kept_at-kept-requires
kept_at-kept-requires c = good (goal.at.kept_at-kept-requires c).Else-not-is_readable

pub check_at-requires : goal.check_at-requires
check_at-requires c = readable_room _ _ (good (goal.at.check_at-requires c).Else-not-is_readable)

pub returns-in_err-check_at : goal.returns-in_err-check_at
returns-in_err-check_at c =
    let block = c.check_at in
    let kept = c.kept_at-kept in
    let s = c.args in
    let by = c.in_err-check_at.field-0.0 in
    let gone : c.from_residual.result ≡ Err by = search rules in
    let ends = hear_stopped s.numbers.now s.floats.now s.finish s.samples.now s.rows.now (good (goal.at.returns-in_err-check_at c).Else-not-is_readable) kept.result kept.ensures block.result block.ensures by c.in_err-check_at.was c.from_residual.result gone in
    record { value = ends.0; numbers_left = ends.1.0; floats_left = ends.1.1.0; rows_left = ends.1.1.1 }

pub call_checked-requires : goal.call_checked-requires
call_checked-requires c =
    let block = c.check_at in
    let kept = c.kept_at-kept in
    let s = c.args in
    let passed = check_passed s.numbers.now s.floats.now s.finish s.samples.now s.rows.now (good (goal.at.call_checked-requires c).Else-not-is_readable) kept.result kept.ensures block.result block.ensures c.in_ok-check_at.was in
    record { floats_value = good (goal.at.call_checked-requires c).Else-not-is_readable; kept_value = passed.0; samples_len_bound = passed.1 }

pub returns : goal.returns
returns c =
    let ran = c.call_checked in
    let block = c.check_at in
    let kept = c.kept_at-kept in
    let s = c.args in
    let ends = hear_ran s.numbers.now s.floats.now s.finish s.samples.now s.rows.now (good (goal.at.returns c).Else-not-is_readable) kept.result kept.ensures block.result block.ensures c.in_ok-check_at.was ran.result ran.new.numbers ran.new.floats ran.new.rows (ran.ensures.value, (ran.ensures.numbers_left, (ran.ensures.floats_left, ran.ensures.rows_left))) in
    record { value = ends.0; numbers_left = ends.1.0; floats_left = ends.1.1.0; rows_left = ends.1.1.1 }
