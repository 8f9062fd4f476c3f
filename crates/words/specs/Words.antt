-- What a reader's bytes say as words of 32 bits, the low byte first.
use Rattle.std.specs.Prelude.{◌≡◌, ℕ, ◌+◌, ◌*◌, ◌^◌, nat_le, if◌then◌else◌, List, Option, Some, None, length, drop, ⊤}
use Rattle.std.specs.Int.{w32, from_le_bytes}

-- the word at the front of some bytes; zeros stand for bytes that are not there
unfoldable pub word_of : List ℕ → ℕ
word_of xs = from_le_bytes w32 xs

-- the same, where all of its bytes are there
unfoldable pub next_of : List ℕ → Option ℕ
next_of xs = if nat_le 4 (length xs) then Some (word_of xs) else None

-- two words, the low one first
unfoldable pub long_of : List ℕ → ℕ
long_of xs = word_of (drop 4 xs) * 2 ^ 32 + word_of xs

-- where a reader's bytes are known, x is what they say, and the first n of them are gone
abbrev pub Reads : {X : Type 0} → (List ℕ → X) → ℕ → Option (List ℕ) → Option (List ℕ) → X → Type 0
Reads says n None new x = ⊤
Reads says n (Some xs) None x = ⊥
Reads says n (Some xs) (Some ys) x = (x ≡ says xs) × (ys ≡ drop n xs)
