-- One word for an answer: the refusal's number, 0 for none, in the low byte, and above it what the answer carries.
use Rattle.std.specs.Prelude.{ℕ, ◌+◌, ◌*◌}

abbrev pub packed : ℕ → ℕ → ℕ
packed number carried = number + carried * 256
