-- What four bytes say, as far as a reader had them.
use Rattle.std.proofs.Common.{rules, nat_le, true, false, append-nil, if◌then◌else◌, arith, ◌≡◌, ◌≤◌, ◌<◌, ◌-◌, ◌+◌, ◌*◌, ◌^◌, ◌∙◌, ap, ℕ, suc, zero, List, [], ◌∷◌, ◌++◌, None, Some, Option, refl, sym, subst, length, take, drop, replicate}
use Rattle.std.proofs.lemmas.List.{drop_all}
use Rattle.std.specs.Int.{w32, from_le_bytes}
use Rattle.std.specs.Io.KnownBytes.{Consumes, IsAtEnd}
use borrow.Rule.Slice.PartMut.{put_mid, mid_of}
use Rattle.words.specs.Words.{Reads, word_of, next_of, long_of}

-- the bytes that were there and zeros say what the reader's bytes do
says : (front ys : List ℕ) → length front ≤ 4 → (length front < 4 → ys ≡ [])
    → (from_le_bytes w32 (front ++ replicate (4 - length front) 0) ≡ word_of (front ++ ys)) × (ys ≡ drop 4 (front ++ ys))
unfolding word_of
says [] ys fits end = subst (λ l. (from_le_bytes w32 (replicate 4 0) ≡ word_of l) × (l ≡ drop 4 l)) (sym (end (omega arith))) (refl, refl)
says (a ∷ []) ys fits end =
    subst (λ l. (from_le_bytes w32 (a ∷ replicate 3 0) ≡ word_of (a ∷ l)) × (l ≡ drop 4 (a ∷ l))) (sym (end (omega arith))) (refl, refl)
says (a ∷ b ∷ []) ys fits end =
    subst (λ l. (from_le_bytes w32 (a ∷ b ∷ replicate 2 0) ≡ word_of (a ∷ b ∷ l)) × (l ≡ drop 4 (a ∷ b ∷ l))) (sym (end (omega arith))) (refl, refl)
says (a ∷ b ∷ c ∷ []) ys fits end =
    subst (λ l. (from_le_bytes w32 (a ∷ b ∷ c ∷ replicate 1 0) ≡ word_of (a ∷ b ∷ c ∷ l)) × (l ≡ drop 4 (a ∷ b ∷ c ∷ l))) (sym (end (omega arith))) (refl, refl)
says (a ∷ b ∷ c ∷ d ∷ []) ys fits end = (refl, refl)
says (a ∷ b ∷ c ∷ d ∷ e ∷ more) ys fits end = absurd (omega arith)

-- zeros after the first n
padded : (n : ℕ) (bytes part : List ℕ) → length bytes ≡ 4 → n ≤ 4 → part ≡ replicate (length (mid_of n (4 - n) bytes)) 0
    → put_mid n (4 - n) bytes part ≡ take n bytes ++ replicate (4 - length (take n bytes)) 0
padded zero (a ∷ b ∷ c ∷ d ∷ []) part long fits zeros = subst (λ l. l ++ [] ≡ replicate 4 0) (sym zeros) refl
padded (suc zero) (a ∷ b ∷ c ∷ d ∷ []) part long fits zeros = subst (λ l. a ∷ (l ++ []) ≡ a ∷ replicate 3 0) (sym zeros) refl
padded (suc (suc zero)) (a ∷ b ∷ c ∷ d ∷ []) part long fits zeros = subst (λ l. a ∷ b ∷ (l ++ []) ≡ a ∷ b ∷ replicate 2 0) (sym zeros) refl
padded (suc (suc (suc zero))) (a ∷ b ∷ c ∷ d ∷ []) part long fits zeros = subst (λ l. a ∷ b ∷ c ∷ (l ++ []) ≡ a ∷ b ∷ c ∷ replicate 1 0) (sym zeros) refl
padded (suc (suc (suc (suc zero)))) (a ∷ b ∷ c ∷ d ∷ []) part long fits zeros = subst (λ l. a ∷ b ∷ c ∷ d ∷ (l ++ []) ≡ a ∷ b ∷ c ∷ d ∷ []) (sym zeros) refl
padded (suc (suc (suc (suc (suc n))))) (a ∷ b ∷ c ∷ d ∷ []) part long fits zeros = absurd (omega arith)
padded n [] part long fits zeros = absurd (omega arith)
padded n (a ∷ []) part long fits zeros = absurd (omega arith)
padded n (a ∷ b ∷ []) part long fits zeros = absurd (omega arith)
padded n (a ∷ b ∷ c ∷ []) part long fits zeros = absurd (omega arith)
padded n (a ∷ b ∷ c ∷ d ∷ e ∷ more) part long fits zeros = absurd (omega arith)

front_read : (a b : Option (List ℕ)) (front : List ℕ) → length front ≤ 4 → Consumes a b front → (length front < 4 → IsAtEnd b)
    → Reads word_of 4 a b (from_le_bytes w32 (front ++ replicate (4 - length front) 0))
front_read None b front fits read end = tt
front_read (Some xs) None front fits read end = absurd read
front_read (Some xs) (Some ys) front fits read end =
    subst (λ l. (from_le_bytes w32 (front ++ replicate (4 - length front) 0) ≡ word_of l) × (ys ≡ drop 4 l)) (sym read) (says front ys fits end)

pub word_read : (a b : Option (List ℕ)) (n : ℕ) (bytes part : List ℕ) → length bytes ≡ 4 → n ≤ 4 → Consumes a b (take n bytes) → (n < 4 → IsAtEnd b)
    → part ≡ replicate (length (mid_of n (4 - n) bytes)) 0 → (word : ℕ) → word ≡ from_le_bytes w32 (put_mid n (4 - n) bytes part) → Reads word_of 4 a b word
word_read a b n bytes part long fits read end zeros word is =
    let taken : length (take n bytes) ≡ n = search (rules, arith) in
    subst (Reads word_of 4 a b) (sym (is ∙ ap (from_le_bytes w32) (padded n bytes part long fits zeros)))
    (front_read a b (take n bytes) (omega arith) read (λ few. end (omega arith)))

-- four bytes are a word
pub some_read : (a b : Option (List ℕ)) (bytes : List ℕ) → length bytes ≡ 4 → Consumes a b bytes
    → (word : ℕ) → word ≡ from_le_bytes w32 bytes → Reads next_of 4 a b (Some word)
unfolding word_of next_of
some_read None b bytes long read word is = tt
some_read (Some xs) None bytes long read word is = absurd read
some_read (Some xs) (Some ys) (a ∷ b ∷ c ∷ d ∷ []) long read word is =
    let whole : nat_le 4 (length (a ∷ b ∷ c ∷ d ∷ ys)) ≡ true = search (rules, arith) in
    subst (λ l. (Some word ≡ next_of l) × (ys ≡ drop 4 l)) (sym read)
    (ap Some is ∙ ap (λ t. if t then Some (word_of (a ∷ b ∷ c ∷ d ∷ ys)) else None) (sym whole), refl)
some_read (Some xs) (Some ys) [] long read word is = absurd (omega arith)
some_read (Some xs) (Some ys) (a ∷ []) long read word is = absurd (omega arith)
some_read (Some xs) (Some ys) (a ∷ b ∷ []) long read word is = absurd (omega arith)
some_read (Some xs) (Some ys) (a ∷ b ∷ c ∷ []) long read word is = absurd (omega arith)
some_read (Some xs) (Some ys) (a ∷ b ∷ c ∷ d ∷ e ∷ more) long read word is = absurd (omega arith)

-- fewer are none
pub none_read : (a b : Option (List ℕ)) (front : List ℕ) → length front < 4 → Consumes a b front → IsAtEnd b → Reads next_of 4 a b None
unfolding next_of
none_read None b front few read end = tt
none_read (Some xs) None front few read end = absurd read
none_read (Some xs) (Some ys) front few read end =
    let all : xs ≡ front = read ∙ ap (λ l. front ++ l) end ∙ append-nil front in
    let short : nat_le 4 (length front) ≡ false = search (rules, arith) in
    let left : drop 4 front ≡ [] = drop_all 4 front (omega arith) in
    subst (λ l. (None ≡ next_of l) × (ys ≡ drop 4 l)) (sym all) (ap (λ t. if t then Some (word_of front) else None) (sym short), end ∙ sym left)

-- two words after each other
pub long_read : (a b c : Option (List ℕ)) (low high : ℕ) → Reads word_of 4 a b low → Reads word_of 4 b c high → Reads long_of 8 a c (high * 2 ^ 32 + low)
unfolding long_of
long_read None b c low high p q = tt
long_read (Some xs) None c low high p q = absurd p
long_read (Some xs) (Some ys) None low high p q = absurd q
long_read (Some xs) (Some ys) (Some zs) low high p q =
    (rw (p.0, q.0, p.1) refl, q.1 ∙ ap (drop 4) p.1 ∙ search rules)
