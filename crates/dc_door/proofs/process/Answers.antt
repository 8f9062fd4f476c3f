use native.Mathlib.Omega.{arith}
use lib.ListN.{length}
use Rattle.dc_door.proofs.Door.{place_fits, process_kept, output_read}
use Rattle.dc_door.proofs.process.Goals as goal

pub keep-requires : goal.keep-requires
keep-requires c =
    let r = c.process-done in
    let e = rw c.filter_at.ensures at r.ensures in
    let low = place_fits c.args.state.now c.args.samples.now c.args.context (length c.args.output.now) r.result e.value in
    omega arith

pub returns : goal.returns
returns c =
    let r = c.process-done in
    let e = rw c.filter_at.ensures at r.ensures in
    let k = c.keep in
    let ws = c.args.state.now in
    let xs = c.args.samples.now in
    let out = c.args.output.now in
    let at = process_kept ws xs c.args.context (length out) r.result e.value k.result k.ensures.value k.new.state k.ensures.state_left in
    record { value = at.0; state_left = at.1; output_left = output_read ws xs c.args.context out r.new.output e.output_left }
