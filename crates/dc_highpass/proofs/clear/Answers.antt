use Rattle.std.proofs.Common.{◌≡◌, ◌+◌, ◌-◌, length, replicate, take, drop, ◌++◌, append_assoc, sym, ap, ◌∙◌, refl, arith}
use Rattle.std.proofs.lemmas.List.Edits.{paste_all, sets-eq}
use Rattle.std.proofs.lemmas.Slice.{put_mid-paste}
use Rattle.std.proofs.lemmas.List.{length-take}
use lib.ListN.{length-replicate, length-drop}
use Rattle.float.specs.Numbers.{zero32}
use Rattle.dc_highpass.proofs.clear.Goals as goal

pub returns : goal.returns
returns c =
    let s = c.args in
    let n = s.end - s.from in
    let zeros = replicate n zero32 in
    let long = length-replicate n zero32 in
    let out = s.output.now in
    let held : length (take n (drop s.from out)) ≡ n = omega (arith, length-take n (drop s.from out), length-drop s.from out, c.requires.0, c.requires.1) in
    let filled : c.fill.new.self ≡ zeros = c.fill.ensures.after (λ y e. e) ∙ ap (λ k. replicate k zero32) held in
    put_mid-paste s.from n out c.fill.new.self zeros n filled refl (sym long)
    ∙ paste_all out s.from zeros n (sym long)
    ∙ sym (append_assoc (take s.from out) zeros _)
    ∙ ap (λ k. (take s.from out ++ zeros) ++ drop (s.from + k) out) (sym long)
    ∙ sym (sets-eq zeros out s.from (omega (arith, long, c.requires.0, c.requires.1)))
