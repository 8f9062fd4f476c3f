use mathlib.Core.Path.{◌∙◌}
use native.Mathlib.Omega.{arith}
use Rattle.vad_segments.specs.Closing.{closed_by, closed_of}
use Rattle.vad_segments.specs.Rooms.{positions_most, counts_most}
use Rattle.vad_segments.proofs.Rooms.{finalized_ends}
use Rattle.vad_segments.proofs.CallRules.close.Goals as goal

pub book-requires : goal.book-requires
book-requires c =
    let call = c.args.self.now in
    let room = rw c.in-Some.is at c.requires.3 in
    let ends = finalized_ends call.rules call.limit c.args.track.last_segment_end c.in-Some.segment positions_most counts_most room c.requires.0 call.limit_fits in
    (c.requires.1, c.requires.2, rw c.finalize_segment.ensures (omega (arith, ends.1)))

pub returns-in-None : goal.returns-in-None
unfolding closed_by closed_of
returns-in-None c = simp c.in-None.is

pub returns-in-Some : goal.returns-in-Some
unfolding closed_by closed_of
returns-in-Some c = simp c.in-Some.is (c.book.ensures ∙ simp c.finalize_segment.ensures)
