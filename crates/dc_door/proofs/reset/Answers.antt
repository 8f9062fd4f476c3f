use native.Mathlib.Omega.{arith}
use Rattle.dc_door.proofs.Door.{reset_carries, reset_kept}
use Rattle.dc_door.proofs.reset.Goals as goal

pub keep-requires : goal.keep-requires
keep-requires c =
    let r = c.reset-cleared in
    let e = rw c.filter_at.ensures at r.ensures in
    let none = reset_carries c.args.state.now r.result e in
    omega arith

pub returns : goal.returns
returns c =
    let r = c.reset-cleared in
    let e = rw c.filter_at.ensures at r.ensures in
    let k = c.keep in
    let at = reset_kept c.args.state.now r.result e k.result k.ensures.value k.new.state k.ensures.state_left in
    record { value = at.0; state_left = at.1 }
