use Rattle.vad_frames.proofs.Turns.{last_found}
use Rattle.vad_frames.proofs.last_sample.Goals as goal

pub returns : goal.returns
returns c = rw (c.unwrap_or.ensures, c.copied.ensures, c.last.ensures.value) (last_found c.args.previous c.args.samples.now)
