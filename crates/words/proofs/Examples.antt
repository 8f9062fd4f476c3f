-- What some bytes say: whole words, a cut one, and none.
use Rattle.std.proofs.Common.{◌≡◌, [], ◌∷◌, None, Some, refl}
use Rattle.words.specs.Words.{word_of, next_of, long_of}

whole : next_of (4 ∷ 3 ∷ 2 ∷ 1 ∷ 9 ∷ []) ≡ Some 0x0102_0304
unfolding next_of word_of
whole = refl

cut : next_of (7 ∷ 2 ∷ []) ≡ None
unfolding next_of word_of
cut = refl

cut_padded : word_of (7 ∷ 2 ∷ []) ≡ 0x0207
unfolding word_of
cut_padded = refl

ended : word_of [] ≡ 0
unfolding word_of
ended = refl

two : long_of (4 ∷ 3 ∷ 2 ∷ 1 ∷ 0 ∷ 0 ∷ 128 ∷ 63 ∷ []) ≡ 0x3f80_0000_0102_0304
unfolding long_of word_of
two = refl
