-- What a private function answers. Nothing here has to be believed: no public contract cites it.
use Rattle.std.specs.Prelude.{cond, ℕ, Result, Ok, Err}
use Rattle.refusals.specs.declared.Refusal.{Refusal}
use Rattle.refusals.specs.declared.Refusal.TheVariants as why
use Rattle.vad_state.specs.declared.Stream.{Stream}
use Rattle.vad_state.specs.declared.Kept.{Kept}
use Rattle.vad_call.specs.declared.Heard.{Heard}
use Rattle.vad_call.specs.declared.Outcome.{Outcome}
use Rattle.vad_call.specs.Calls.{tally_of}

-- the frames that are held are the first of the energies, as many as there are
unfoldable pub accepted_hearing : Kept → Stream → ℕ → Outcome → ℕ → Heard
accepted_hearing k s frames o consumed =
    record {
      consumed = consumed;
      kept = record { rules = k.rules; stream = s; desk = record { warming = o.holds; held = cond o.holds frames 0; track = o.classified.track } };
      tally = tally_of o.classified o.needed;
    }

unfoldable pub hearing_of : Kept → Stream → ℕ → Outcome → ℕ → Result Heard Refusal
hearing_of k s frames o consumed = cond o.refused (Err (why.Rows o.needed)) (Ok (accepted_hearing k s frames o consumed))
