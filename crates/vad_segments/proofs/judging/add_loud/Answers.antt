use Rattle.vad_segments.specs.Judging.{loud_added}
use Rattle.vad_segments.proofs.Rooms.{segment_counts}
use Rattle.vad_segments.proofs.judging.add_loud.Goals as goal

pub extend-requires : goal.extend-requires
extend-requires c = rw c.segment_for-segment.ensures (segment_counts _ _ c.args.track.active_segment _ c.requires)

pub returns : goal.returns
unfolding loud_added
returns c = simp (c.with_active.ensures, c.extend.ensures, c.segment_for-segment.ensures, c.max-start.ensures)
