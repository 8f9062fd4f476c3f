-- What refuses a call before anything is heard.
use Rattle.std.specs.Prelude.{not, List, [], ◌∷◌, ℕ, ◌+◌, ltb, length, Float, Result, ⊤}
use Rattle.refusals.specs.Refusals.{Case, refusing, first_of}
use Rattle.refusals.specs.declared.Refusal.{Refusal}
use Rattle.refusals.specs.declared.Refusal.TheVariants as why
use Rattle.ranges.specs.Ranges.{clean_of}
use Rattle.vad_config.specs.Domain.{received_in}
use Rattle.ranges.specs.Sizes.{block_most}
use Rattle.vad_state.specs.State.{sound_of}
use Rattle.vad_state.specs.declared.VadDetector.{VadDetector}

-- 15 'block longer than 1,024'
-- 16 'a sample outside the domain', which carries its place
-- 17 'samples received would pass 2^40'
abbrev pub block_refusals : ℕ → List Float → List Case
block_refusals received xs =
    refusing why.Block (ltb block_most (length xs))
    ∷ refusing (why.Sample (clean_of xs)) (ltb (clean_of xs) (length xs))
    ∷ refusing why.Received (not (received_in (received + length xs)))
    ∷ []

-- 'Detect 19, 15, 16, 17'
unfoldable pub check_of : VadDetector → List Float → Result ⊤ Refusal
check_of d xs = first_of (refusing why.State (not (sound_of d)) ∷ block_refusals d.kept.stream.processed_samples xs)
