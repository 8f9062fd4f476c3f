-- Detect and flush: what is refused, in which order, and what a call answers and leaves in the lent rows.
use Rattle.std.specs.Prelude.{true, false, cond, List, [], ℕ, Float}
use Rattle.refusals.specs.Refusals.{if_passed}
use Rattle.refusals.specs.declared.Refusal.TheVariants as why
use Rattle.vad_state.specs.State.{sound_of}
use Rattle.vad_call.specs.Checks.{check_of}
use Rattle.vad_call.specs.Calls.{refused_by, ran_of, written_of}
use Rattle.vad_state.specs.declared.VadDetector.{VadDetector}
use Rattle.vad_call.specs.Answers.{Detected}

-- 'Detect 19, 15, 16, 17' .. and 18
unfoldable pub detect_of : VadDetector → List Float → ℕ → Detected
detect_of d xs room =
    if_passed (check_of d xs) (ran_of false d xs room) (λ r. refused_by r d)

unfoldable pub detect_rows : VadDetector → List Float → List ℕ → List ℕ
detect_rows d xs out = if_passed (check_of d xs) (written_of false d xs out) (λ r. out)

-- 'flush 19, 18'
unfoldable pub flush_of : VadDetector → ℕ → Detected
flush_of d room = cond (sound_of d) (ran_of true d [] room) (refused_by why.State d)

unfoldable pub flush_rows : VadDetector → List ℕ → List ℕ
flush_rows d out = cond (sound_of d) (written_of true d [] out) out
