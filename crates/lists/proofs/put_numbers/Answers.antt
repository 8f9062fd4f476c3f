use native.Mathlib.Omega.{arith}
use Rattle.lists.proofs.Stores.{sets_mid}
use Rattle.lists.proofs.put_numbers.Goals as goal

pub returns : goal.returns
returns g c = sets_mid c.args.to.now c.args.numbers.now _ c.args.at _ c.requires (omega arith) c.copy_from_slice.ensures.after
