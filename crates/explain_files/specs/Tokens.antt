-- Where a token begins, and where bytes may be cut.
use Rattle.std.specs.Prelude.{◌≡◌, ℕ, ◌+◌, Bool, false, List, [], ◌∷◌, ◌++◌, ◌||◌, ◌==◌, take, drop}
use Rattle.text_words.specs.Bytes.{is_blank}
use Rattle.text_words.specs.Tokens.{tokens}

-- a token begins, or nothing is left: neither a blank nor a comment stands first
abbrev pub BeginsToken : List ℕ → Type 0
BeginsToken [] = Unit {0}
BeginsToken (b ∷ bytes) = (is_blank b || (b == 59)) ≡ false

-- no token and no comment lies across the place: however soon the bytes end behind it, their tokens are those before it, and then those from it on
pub record IsApart (bytes : List ℕ) (place : ℕ) : Type 0 where
  pub cut : (n : ℕ) → tokens (take (place + n) bytes) ≡ tokens (take place bytes) ++ tokens (take n (drop place bytes))

abbrev pub is_parenthesis : ℕ → Bool
is_parenthesis b = (b == 40) || (b == 41)
