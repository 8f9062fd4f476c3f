use Rattle.std.proofs.Common.{◌≡◌, refl, ◌∙◌, List, [], ◌∷◌, fold}
use Rattle.std.proofs.lemmas.Iterator.{YieldsList-from_slice}
use Rattle.std.proofs.lemmas.Iterator.Adapters.{total_from_yields_List}
use lib.Ieee.{Float, binary32, add, neg}
use Rattle.float.specs.Numbers.{zero32}
use Rattle.dc_highpass.specs.Filter.{sum_from, mean_of}
use Rattle.dc_highpass.proofs.mean.Goals as goal

-- the library's fold
folded : (xs : List Float) (t : Float) → fold (add binary32) t xs ≡ sum_from t xs
unfolding sum_from
folded [] t = refl
folded (x ∷ xs) t = folded xs (add binary32 t x)

pub returns : goal.returns
unfolding mean_of
returns c =
    let xs = c.args.samples.now in
    let total : c.sum.result ≡ sum_from (neg zero32) xs = total_from_yields_List (add binary32) (neg zero32) c.sum.result c.sum.ensures.ran (YieldsList-from_slice xs cc) ∙ folded xs (neg zero32) in
    rw (total, c.nearest.ensures) refl
