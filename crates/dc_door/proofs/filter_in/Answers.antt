use Rattle.std.proofs.Common.{rules, ◌≡◌, ◌≤◌, length, take, drop, get_or}
use Rattle.std.specs.Prelude.{Some}
use Rattle.dc_door.specs.Inside.{config_read}
use Rattle.dc_door.proofs.Read.{all_read}
use Rattle.dc_door.proofs.filter_in.Goals as goal

pub returns : goal.returns
returns c =
    let ws = c.args.words.now in
    let one : c.in_ok-first.first.now ≡ take 9 (drop 6 ws) = search rules in
    let two : c.in_ok-second.second.now ≡ take 9 (drop 9 (drop 6 ws)) = search rules in
    let bias : c.in_ok-bias.bias.now ≡ get_or (drop 9 (drop 9 (drop 6 ws))) 0 0 = search rules in
    let long : 25 ≤ length ws = search rules in
    let read : config_read (take 6 ws) ≡ Some c.in_ok-config_in.field-0 = search rules in
    simp (c.stage_in.ensures, one, c.stage_in-2.ensures, two, c.from_bits.ensures, bias) (all_read ws long c.in_ok-config_in.field-0 read)
