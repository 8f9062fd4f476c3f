use mathlib.Core.Path.{◌≡◌, refl, sym, ◌∙◌}
use mathlib.Core.Bool.{true, false}
use Prim.Native.Nat.{◌≤◌, ◌<◌}
use native.Mathlib.Omega.{arith}
use borrow.Author.Tests.{le-leb, lt-leb, eq-eqb, ne_eqb}
use lib.Dec.{leb, eqb}
use Rattle.vad_layout.specs.Layout.{layout_name}
use Rattle.vad_layout.proofs.InNumbers as in-numbers
use Rattle.vad_memory.specs.DetectorState.{word_at, long_enough, readable}
use Rattle.vad_memory.proofs.Parts.{long_parts}
use borrow.Author.Rules.{rules}
use Rattle.vad_memory.proofs.is_readable.Goals.{Else-not-long_enough, Else-numbers-gt1, Else-numbers-gt1-2, Else-numbers-gt4294967295, Else-numbers-ne-LAYOUT}
use Rattle.vad_memory.proofs.is_readable.Goals as goal

-- each test that was passed

enough : (k : Else-not-long_enough) → long_enough k.args.numbers.now k.args.floats.now ≡ true
enough k = sym k.long_enough.ensures ∙ k.if-not-long_enough.false

named : (k : Else-numbers-ne-LAYOUT) → eqb (word_at k.args.numbers.now in-numbers.layout) layout_name ≡ true
named k = eq-eqb _ _ k.if-numbers-ne-LAYOUT.false

rated : (k : Else-numbers-gt4294967295) → leb (word_at k.args.numbers.now in-numbers.sample_rate_in) 0xffff_ffff ≡ true
rated k =
    let fits : word_at k.args.numbers.now in-numbers.sample_rate_in ≤ 0xffff_ffff = (let t = k.if-numbers-gt4294967295.false in omega arith) in
    le-leb _ _ fits

emphasised : (k : Else-numbers-gt1) → leb (word_at k.args.numbers.now in-numbers.has_pre_emphasis_in) 1 ≡ true
emphasised k =
    let fits : word_at k.args.numbers.now in-numbers.has_pre_emphasis_in ≤ 1 = (let t = k.if-numbers-gt1.false in omega arith) in
    le-leb _ _ fits

warmed : (k : Else-numbers-gt1-2) → leb (word_at k.args.numbers.now in-numbers.warming) 1 ≡ true
warmed k =
    let fits : word_at k.args.numbers.now in-numbers.warming ≤ 1 = (let t = k.if-numbers-gt1-2.false in omega arith) in
    le-leb _ _ fits

pub returns-then-not-long_enough : goal.returns-then-not-long_enough
unfolding readable
returns-then-not-long_enough c =
    let short : long_enough c.args.numbers.now c.args.floats.now ≡ false = sym c.long_enough.ensures ∙ c.if-not-long_enough.true in
    rw short refl

pub bounds-numbers-0 : goal.bounds-numbers-0
bounds-numbers-0 c = let long = (long_parts _ _ (enough (goal.at.bounds-numbers-0 c).Else-not-long_enough)).numbers in search rules

pub returns-then-numbers-ne-LAYOUT : goal.returns-then-numbers-ne-LAYOUT
unfolding readable
returns-then-numbers-ne-LAYOUT c = rw (enough (goal.at.returns-then-numbers-ne-LAYOUT c).Else-not-long_enough, ne_eqb (word_at c.args.numbers.now in-numbers.layout) layout_name c.if-numbers-ne-LAYOUT.true) refl

pub bounds-numbers-5 : goal.bounds-numbers-5
bounds-numbers-5 c = let long = (long_parts _ _ (enough (goal.at.bounds-numbers-5 c).Else-not-long_enough)).numbers in search rules

pub returns-then-numbers-gt4294967295 : goal.returns-then-numbers-gt4294967295
unfolding readable
returns-then-numbers-gt4294967295 c =
    let ns = c.args.numbers.now in
    let big : 0xffff_ffff < word_at ns in-numbers.sample_rate_in = (let t = c.if-numbers-gt4294967295.true in omega arith) in
    rw (enough (goal.at.returns-then-numbers-gt4294967295 c).Else-not-long_enough, named (goal.at.returns-then-numbers-gt4294967295 c).Else-numbers-ne-LAYOUT, lt-leb (word_at ns in-numbers.sample_rate_in) 0xffff_ffff big) refl

pub bounds-numbers-7 : goal.bounds-numbers-7
bounds-numbers-7 c = let long = (long_parts _ _ (enough (goal.at.bounds-numbers-7 c).Else-not-long_enough)).numbers in search rules

pub returns-then-numbers-gt1 : goal.returns-then-numbers-gt1
unfolding readable
returns-then-numbers-gt1 c =
    let ns = c.args.numbers.now in
    let big : 1 < word_at ns in-numbers.has_pre_emphasis_in = (let t = c.if-numbers-gt1.true in omega arith) in
    rw (enough (goal.at.returns-then-numbers-gt1 c).Else-not-long_enough, named (goal.at.returns-then-numbers-gt1 c).Else-numbers-ne-LAYOUT, rated (goal.at.returns-then-numbers-gt1 c).Else-numbers-gt4294967295, lt-leb (word_at ns in-numbers.has_pre_emphasis_in) 1 big) refl

pub bounds-numbers-19 : goal.bounds-numbers-19
bounds-numbers-19 c = let long = (long_parts _ _ (enough (goal.at.bounds-numbers-19 c).Else-not-long_enough)).numbers in search rules

pub returns-then-numbers-gt1-2 : goal.returns-then-numbers-gt1-2
unfolding readable
returns-then-numbers-gt1-2 c =
    let ns = c.args.numbers.now in
    let big : 1 < word_at ns in-numbers.warming = (let t = c.if-numbers-gt1-2.true in omega arith) in
    rw (enough (goal.at.returns-then-numbers-gt1-2 c).Else-not-long_enough, named (goal.at.returns-then-numbers-gt1-2 c).Else-numbers-ne-LAYOUT, rated (goal.at.returns-then-numbers-gt1-2 c).Else-numbers-gt4294967295, emphasised (goal.at.returns-then-numbers-gt1-2 c).Else-numbers-gt1, lt-leb (word_at ns in-numbers.warming) 1 big) refl

pub bounds-numbers-24 : goal.bounds-numbers-24
bounds-numbers-24 c = let long = (long_parts _ _ (enough (goal.at.bounds-numbers-24 c).Else-not-long_enough)).numbers in search rules

pub returns : goal.returns
unfolding readable
returns c = rw (enough (goal.at.returns c).Else-not-long_enough, named (goal.at.returns c).Else-numbers-ne-LAYOUT, rated (goal.at.returns c).Else-numbers-gt4294967295, emphasised (goal.at.returns c).Else-numbers-gt1, warmed (goal.at.returns c).Else-numbers-gt1-2) refl
