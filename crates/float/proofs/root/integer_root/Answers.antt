use Rattle.std.proofs.Common.{◌+◌, ◌*◌, ◌≤◌, arith}
use Rattle.float.proofs.Roots.{root_is, root_tested}
use Rattle.float.proofs.root.integer_root.Goals as goal

pub returns-then-n-square : goal.returns-then-n-square
returns-then-n-square c =
    let n = c.args.n in
    let r = c.near_root-r.result in
    let lo : r * r ≤ n = omega arith in
    let hi : n ≤ r * r + 2 * r = omega arith in
    (root_tested n r lo hi, c.near_root-r.ensures)

pub returns : goal.returns
returns c = let e = c.isqrt.ensures in (root_is c.args.n c.isqrt.result (e.square_le, e.next_square_gt), e.bound)
