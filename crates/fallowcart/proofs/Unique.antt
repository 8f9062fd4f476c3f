-- Two answers of the door that meet a contract are equal. Where a contract's right side is a lower crate's own definition (the detector, the filter, the settings' refusal, roundings, lengths, times), that crate's Unique says it.
use mathlib.Core.Path.{◌≡◌}
use mathlib.Core.Bool.{Bool}
use Prim.Native.Nat.{ℕ}
use lib.Ieee.{Float, binary32, of_bits}
use Rattle.float.specs.Fused.{fused_of}
use Rattle.float.specs.Root.{root_of}
use Rattle.float.proofs.Unique.{only}
use Rattle.fallowcart.specs.Pattern.{pattern_of}
use Rattle.vad_config.specs.Config.{settings_of}
use Rattle.vad_config.specs.declared.VadConfig.{VadConfig}

module _ (x y z : ℕ) (r q : ℕ) where
  pub fused_bits_unique : r ≡ pattern_of (fused_of (of_bits binary32 x) (of_bits binary32 y) (of_bits binary32 z)) → q ≡ pattern_of (fused_of (of_bits binary32 x) (of_bits binary32 y) (of_bits binary32 z)) → r ≡ q
  fused_bits_unique = only

  pub root_bits_unique : r ≡ pattern_of (root_of (of_bits binary32 x)) → q ≡ pattern_of (root_of (of_bits binary32 x)) → r ≡ q
  root_bits_unique = only

-- ---- the settings handed over one by one

module _ (rate duration : ℕ) (overlap : Float) (emphasised : Bool) (emphasis activation release gate smoothing floor : Float) (hangover padding least start : ℕ) (r q : VadConfig) where
  abbrev c : VadConfig
  c = settings_of rate duration overlap emphasised emphasis activation release gate smoothing floor hangover padding least start

  pub collected_unique : r ≡ c → q ≡ c → r ≡ q
  collected_unique = only
