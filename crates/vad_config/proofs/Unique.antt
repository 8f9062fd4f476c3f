-- Two answers that meet a public function's contract are equal: each contract is an equation of the answer.
use Rattle.std.proofs.Common.{◌≡◌, ℕ, Bool}
use lib.Ieee.{Float}
use Rattle.float.proofs.Unique.{only}
use Rattle.std.specs.Prelude.{Result, ⊤}
use Rattle.refusals.specs.declared.Refusal.{Refusal}
use Rattle.vad_config.specs.declared.VadConfig.{VadConfig}
use Rattle.vad_config.specs.declared.Lengths.{Lengths}
use Rattle.vad_config.specs.Domain.{start_in}
use Rattle.vad_config.specs.Lengths.{frame_length_of, hop_length_of, warmup_frames_of, padding_samples_of, time_of_sample_of}
use Rattle.vad_config.specs.Settings.{lengths_of, outcome_of}

pub validate_unique : (c : VadConfig) (r q : Result ⊤ Refusal) → r ≡ outcome_of c → q ≡ outcome_of c → r ≡ q
validate_unique c r q = only

pub lengths_of_unique : (c : VadConfig) (r q : Lengths) → r ≡ lengths_of c → q ≡ lengths_of c → r ≡ q
lengths_of_unique c r q = only

pub frame_length_unique : (rate ns r q : ℕ) → r ≡ frame_length_of rate ns → q ≡ frame_length_of rate ns → r ≡ q
frame_length_unique rate ns r q = only

pub hop_length_unique : (length : ℕ) (overlap : Float) (r q : ℕ) → r ≡ hop_length_of length overlap → q ≡ hop_length_of length overlap → r ≡ q
hop_length_unique length overlap r q = only

pub warmup_frames_unique : (hop rate r q : ℕ) → r ≡ warmup_frames_of hop rate → q ≡ warmup_frames_of hop rate → r ≡ q
warmup_frames_unique hop rate r q = only

pub padding_samples_unique : (ns rate r q : ℕ) → r ≡ padding_samples_of ns rate → q ≡ padding_samples_of ns rate → r ≡ q
padding_samples_unique ns rate r q = only

pub time_of_sample_unique : (start rate n r q : ℕ) → r ≡ time_of_sample_of start rate n → q ≡ time_of_sample_of start rate n → r ≡ q
time_of_sample_unique start rate n r q = only

pub start_allowed_unique : (start : ℕ) (r q : Bool) → r ≡ start_in start → q ≡ start_in start → r ≡ q
start_allowed_unique start r q = only
