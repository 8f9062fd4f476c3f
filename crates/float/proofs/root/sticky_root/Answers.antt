use Rattle.std.proofs.Common.{◌≡◌, ℕ, ◌+◌, ◌*◌, ◌<◌, sym, subst, arith}
use Rattle.float.specs.Root.{integer_root}
use Rattle.float.proofs.Roots.{Root, integer_root_lem, twice_exact, twice_cut}
use Rattle.float.proofs.root.sticky_root.Goals as goal

-- a root that was found is a root
found : (n r : ℕ) → r ≡ integer_root n → Root n r
found n r e = subst (λ (x : ℕ). Root n x) (sym e) (integer_root_lem n)

even-lt : (r : ℕ) → r < 4294967296 → 2 * r < 17179869184
even-lt r h = omega arith

odd_lt : (r : ℕ) → r < 4294967296 → 2 * r + 1 < 17179869184
odd_lt r h = omega arith

pub returns-then-r-n : goal.returns-then-r-n
returns-then-r-n c =
    let r = c.integer_root-r.result in
    let n = c.args.n in
    (sym (twice_exact n r (found n r c.integer_root-r.ensures.0) c.if-r-n.true), even-lt r c.integer_root-r.ensures.1)

pub returns : goal.returns
returns c =
    let r = c.integer_root-r.result in
    let n = c.args.n in
    (sym (twice_cut n r (found n r c.integer_root-r.ensures.0) c.if-r-n.false), odd_lt r c.integer_root-r.ensures.1)
