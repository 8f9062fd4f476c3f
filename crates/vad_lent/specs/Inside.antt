-- What the private functions leave. Nothing here has to be believed: no public contract cites it.
use Rattle.std.specs.Prelude.{List, ◌++◌, ℕ, take, drop, Float, Result, Ok, Err}
use Rattle.refusals.specs.declared.Refusal.{Refusal}
use Rattle.vad_layout.specs.Layout.{singles_first}
use Rattle.ranges.specs.Sizes.{frame_most, warmup_most}
use Rattle.vad_state.specs.Arrays.{filled_of}
use Rattle.vad_call.specs.declared.Heard.{Heard}

-- the frame's part of the window stays, a carry and energies held are put beside it, and zeros stand past them
unfoldable pub put_in : ℕ → List Float → List Float → List Float → List Float
put_in n carry held fs = filled_of frame_most (take n (take frame_most fs)) ++ (filled_of frame_most carry ++ (filled_of warmup_most held ++ drop singles_first fs))

-- after a call, by what it heard and the slices that it was heard in
unfoldable pub heard_in : ℕ → Heard → List Float → List Float → List Float → List Float
heard_in n h values energies fs = put_in n (take h.kept.stream.carry_len (drop h.consumed values)) (take h.kept.desk.held energies) fs

-- a refused one changes nothing
unfoldable pub settled_in : ℕ → Result Heard Refusal → List Float → List Float → List Float → List Float
settled_in n (Ok h) values energies fs = heard_in n h values energies fs
settled_in n (Err r) values energies fs = fs
