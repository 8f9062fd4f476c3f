-- Two answers that meet a contract are equal: each contract here is an equation of the answer.
use Rattle.std.specs.Prelude.{Option}
use Rattle.std.proofs.Common.{◌≡◌, ℕ, Bool, ◌&&◌, pos, sym, ◌∙◌}
use lib.Ieee.{Float, binary32, of_bits, to_bits, of_int}
use lib.Ieee.Scale.{finite}
use Rattle.float.specs.declared.quick.Quick.{Quick}
use Rattle.float.specs.Finite.{or_else, or_zero}
use Rattle.float.specs.Fused.{fused_of}
use Rattle.float.specs.Root.{root_of}
use Rattle.float.specs.Settled.{quick_of}
use Rattle.float.specs.Whole.{round_of, ceil_of}

-- for a contract `r ≡ a` of any type
pub only : {A : Type 0} {a r q : A} → r ≡ a → q ≡ a → r ≡ q
only p q = p ∙ sym q

pub mul_add_unique : (a b c : Float) (r q : Option Float) → r ≡ fused_of a b c → q ≡ fused_of a b c → r ≡ q
mul_add_unique a b c r q = only

pub mul_add_or_unique : (a b c other r q : Float) → r ≡ or_else other (fused_of a b c) → q ≡ or_else other (fused_of a b c) → r ≡ q
mul_add_or_unique a b c other r q = only

pub quick_sum_unique : (a b c : Float) (r q : Quick) → r ≡ quick_of a b c → q ≡ quick_of a b c → r ≡ q
quick_sum_unique a b c r q = only

pub both_unique : (a b r q : Bool) → r ≡ (a && b) → q ≡ (a && b) → r ≡ q
both_unique a b r q = only

pub sqrt_unique : (x : Float) (r q : Option Float) → r ≡ root_of x → q ≡ root_of x → r ≡ q
sqrt_unique x r q = only

pub round_unique : (x : Float) (r q : ℕ) → r ≡ round_of x → q ≡ round_of x → r ≡ q
round_unique x r q = only

pub ceil_unique : (x : Float) (r q : ℕ) → r ≡ ceil_of x → q ≡ ceil_of x → r ≡ q
ceil_unique x r q = only

pub nearest_unique : (n : ℕ) (r q : Float) → r ≡ of_int binary32 (pos n) → q ≡ of_int binary32 (pos n) → r ≡ q
nearest_unique n r q = only

pub or_zero_unique : (x : Option Float) (r q : Float) → r ≡ or_zero x → q ≡ or_zero x → r ≡ q
or_zero_unique x r q = only

pub is_finite_unique : (x : Float) (r q : Bool) → r ≡ finite x → q ≡ finite x → r ≡ q
is_finite_unique x r q = only

pub from_bits_unique : (bits : ℕ) (r q : Float) → r ≡ of_bits binary32 bits → q ≡ of_bits binary32 bits → r ≡ q
from_bits_unique bits r q = only

pub to_bits_unique : (x : Float) (r q : ℕ) → r ≡ to_bits binary32 x → q ≡ to_bits binary32 x → r ≡ q
to_bits_unique x r q = only
