use Rattle.vad_segments.proofs.Calls.{judged_is}
use Rattle.vad_segments.specs.Judging.{floored_to}
use Rattle.vad_segments.proofs.CallRules.judge.Goals as goal

pub returns : goal.returns
unfolding floored_to
returns c =
    let required = c.required_ratio in
    let loud = c.is_loud-loud in
    let speech = c.in_speech-speech in
    let weight = c.floor_weight-weight in
    let floor = c.next_floor in
    let s = c.args in
    judged_is s.self.now.rules s.self.now.limit s.track s.frame required.result weight.result floor.result loud.result speech.result required.ensures loud.ensures speech.ensures weight.ensures floor.ensures c.turn.result c.turn.ensures
