-- What the tests of the memory say, as facts, and how long a part is. Assumes nothing.
use mathlib.Core.Path.{◌≡◌}
use mathlib.Core.Bool.{true, ◌&&◌}
use mathlib.Core.List.{List}
use Prim.Native.Nat.{ℕ, ◌+◌, ◌≤◌, ◌<◌}
use native.Mathlib.Omega.{arith}
use lib.Dec.{leb, ltb, eqb}
use lib.ListN.{length, take, drop, length-drop}
use lib.Seq.{length-take-le}
use lib.Ieee.{Float}
use borrow.Author.Tests.{leb-true, ltb-true, le-leb, eqb-true, eq-eqb}
use Rattle.lists.proofs.Tests.{both}
use Rattle.vad_layout.specs.Layout.{layout_name, numbers_most, floats_most}
use Rattle.vad_layout.proofs.InNumbers as in-numbers
use Rattle.vad_memory.specs.DetectorState.{word_at, long_enough, readable}

-- below a bound that is below another
pub within : {i n m : ℕ} → n ≤ m → ltb i n ≡ true → i < m
within {i} {n} h t = let l = ltb-true i n t in omega arith

pub part_length : (fs : List Float) (n at : ℕ) → at + n ≤ length fs → length (take n (drop at fs)) ≡ n
part_length fs n at h = let long = length-drop at fs in length-take-le n (drop at fs) (omega arith)

-- ---- the tests, both ways

pub record Long (ns : List ℕ) (fs : List Float) : Type 0 where
  pub numbers : numbers_most ≤ length ns
  pub floats : floats_most ≤ length fs

pub record Readable (ns : List ℕ) (fs : List Float) : Type 0 where
  pub long : Long ns fs
  pub layout : word_at ns in-numbers.layout ≡ layout_name
  pub rate : word_at ns in-numbers.sample_rate_in ≤ 0xffff_ffff
  pub emphasis : word_at ns in-numbers.has_pre_emphasis_in ≤ 1
  pub warming : word_at ns in-numbers.warming ≤ 1
  pub active : word_at ns in-numbers.is_open ≤ 1

pub long_parts : (ns : List ℕ) (fs : List Float) → long_enough ns fs ≡ true → Long ns fs
unfolding long_enough
long_parts ns fs h =
    let p = both (leb numbers_most (length ns)) (leb floats_most (length fs)) h in
    record { numbers = leb-true numbers_most (length ns) p.0; floats = leb-true floats_most (length fs) p.1 }

pub long_whole : (ns : List ℕ) (fs : List Float) → Long ns fs → long_enough ns fs ≡ true
unfolding long_enough
long_whole ns fs l = rw (le-leb numbers_most (length ns) l.numbers, le-leb floats_most (length fs) l.floats)

pub parts : (ns : List ℕ) (fs : List Float) → readable ns fs ≡ true → Readable ns fs
unfolding readable
parts ns fs h =
    let name = eqb (word_at ns in-numbers.layout) layout_name in
    let rate = leb (word_at ns in-numbers.sample_rate_in) 0xffff_ffff in
    let emphasis = leb (word_at ns in-numbers.has_pre_emphasis_in) 1 in
    let warming = leb (word_at ns in-numbers.warming) 1 in
    let active = leb (word_at ns in-numbers.is_open) 1 in
    let o = both (long_enough ns fs) (name && (rate && (emphasis && (warming && active)))) h in
    let p = both name (rate && (emphasis && (warming && active))) o.1 in
    let q = both rate (emphasis && (warming && active)) p.1 in
    let r = both emphasis (warming && active) q.1 in
    let s = both warming active r.1 in
    record {
      long = long_parts ns fs o.0;
      layout = eqb-true (word_at ns in-numbers.layout) layout_name p.0;
      rate = leb-true (word_at ns in-numbers.sample_rate_in) 0xffff_ffff q.0;
      emphasis = leb-true (word_at ns in-numbers.has_pre_emphasis_in) 1 r.0;
      warming = leb-true (word_at ns in-numbers.warming) 1 s.0;
      active = leb-true (word_at ns in-numbers.is_open) 1 s.1;
    }

pub whole : (ns : List ℕ) (fs : List Float) → Readable ns fs → readable ns fs ≡ true
unfolding readable
whole ns fs r =
    rw (
      long_whole ns fs r.long,
      eq-eqb (word_at ns in-numbers.layout) layout_name r.layout,
      le-leb (word_at ns in-numbers.sample_rate_in) 0xffff_ffff r.rate,
      le-leb (word_at ns in-numbers.has_pre_emphasis_in) 1 r.emphasis,
      le-leb (word_at ns in-numbers.warming) 1 r.warming,
      le-leb (word_at ns in-numbers.is_open) 1 r.active,
    )
