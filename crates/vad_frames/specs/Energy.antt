-- Document 01's 'Frames': the energy of one frame.
use Rattle.std.specs.Prelude.{List, [], ◌∷◌, length, pos, Float}
use Rattle.std.specs.Float.{binary32}
use Rattle.std.specs.Float.Ieee.{of_int, add, mul, div}
use Rattle.float.specs.Numbers.{zero32}
use Rattle.float.specs.Finite.{or_zero}
use Rattle.float.specs.Root.{root_of}

-- 'each sample × window, rounded, squared as one rounded product'
unfoldable pub square_of : Float → Float → Float
square_of x w = let y = mul binary32 x w in mul binary32 y y

-- 'summed left to right in f32'
unfoldable pub squares_from : Float → List Float → List Float → Float
squares_from t [] ws = t
squares_from t (x ∷ xs) [] = t
squares_from t (x ∷ xs) (w ∷ ws) = squares_from (add binary32 t (square_of x w)) xs ws

-- 'divided by the full frame length even at a short last frame': the window has the full frame's length
unfoldable pub mean_square_of : List Float → List Float → Float
mean_square_of window frame = div binary32 (squares_from zero32 frame window) (of_int binary32 (pos (length window)))

-- 'square-rooted'; 0 stands where there is no root, and `energy_low` in proofs/Bounds shows that in the domain there always is one
unfoldable pub energy_of : List Float → List Float → Float
energy_of window frame = or_zero (root_of (mean_square_of window frame))
