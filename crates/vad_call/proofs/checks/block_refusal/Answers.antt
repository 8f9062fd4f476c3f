use mathlib.Core.Path.{◌≡◌}
use mathlib.Core.Bool.{false}
use Prim.Native.Nat.{◌+◌, ◌≤◌, ◌<◌}
use native.Mathlib.Omega.{arith}
use borrow.Author.Tests.{lt-ltb, le-ltb, le-leb, lt-leb}
use lib.Dec.{ltb}
use lib.ListN.{length}
use Rattle.refusals.specs.Refusals.{first_of}
use Rattle.ranges.specs.Ranges.{clean_of}
use Rattle.vad_config.specs.Domain.{received_in}
use Rattle.ranges.specs.Sizes.{block_most, received_most}
use Rattle.vad_call.proofs.checks.block_refusal.Goals.{Else-place-samples, Else-samples-gt-BLOCK_MOST}
use Rattle.vad_call.proofs.checks.block_refusal.Goals as goal

short : (k : Else-samples-gt-BLOCK_MOST) → ltb block_most (length k.args.samples.now) ≡ false
short k =
    let few : length k.args.samples.now ≤ block_most = omega (arith, k.if-samples-gt-BLOCK_MOST.false) in
    le-ltb _ _ few

clean : (k : Else-place-samples) → let xs = k.args.samples.now in ltb (clean_of xs) (length xs) ≡ false
clean k =
    let xs = k.args.samples.now in
    let e = k.clean-place.ensures in
    let good : length xs ≤ clean_of xs = (let t = k.if-place-samples.false in omega arith) in
    le-ltb _ _ good

pub returns-then-samples-gt-BLOCK_MOST : goal.returns-then-samples-gt-BLOCK_MOST
unfolding first_of
returns-then-samples-gt-BLOCK_MOST c =
    let s = c.args in
    let many : block_most < length s.samples.now = omega (arith, c.if-samples-gt-BLOCK_MOST.true) in
    simp (lt-ltb block_most (length s.samples.now) many)

pub returns-then-place-samples : goal.returns-then-place-samples
unfolding first_of
returns-then-place-samples c =
    let xs = c.args.samples.now in
    let e = c.clean-place.ensures in
    let bad : clean_of xs < length xs = (let t = c.if-place-samples.true in omega arith) in
    simp (short (goal.at.returns-then-place-samples c).Else-samples-gt-BLOCK_MOST, lt-ltb (clean_of xs) (length xs) bad, e)

pub overflow_add-received : goal.overflow_add-received
overflow_add-received c =
    let few = c.if-samples-gt-BLOCK_MOST.false in
    let so_far = c.requires in
    record { fits = omega (arith, few, so_far) }

pub returns-then-received-samples-gt-RECEIVED_MOST : goal.returns-then-received-samples-gt-RECEIVED_MOST
unfolding first_of received_in
returns-then-received-samples-gt-RECEIVED_MOST c =
    let s = c.args in
    let past : received_most < s.received + length s.samples.now = omega (arith, c.if-received-samples-gt-RECEIVED_MOST.true) in
    simp (short (goal.at.returns-then-received-samples-gt-RECEIVED_MOST c).Else-samples-gt-BLOCK_MOST, clean (goal.at.returns-then-received-samples-gt-RECEIVED_MOST c).Else-place-samples, lt-leb (s.received + length s.samples.now) received_most past)

pub returns : goal.returns
unfolding first_of received_in
returns c =
    let s = c.args in
    let within : s.received + length s.samples.now ≤ received_most = omega (arith, c.if-received-samples-gt-RECEIVED_MOST.false) in
    simp (short (goal.at.returns c).Else-samples-gt-BLOCK_MOST, clean (goal.at.returns c).Else-place-samples, le-leb (s.received + length s.samples.now) received_most within)
