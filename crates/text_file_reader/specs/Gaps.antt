-- What may be added between two tokens, and where.
use Rattle.std.specs.Prelude.{◌≡◌, ◌↔◌, ℕ, true, List, [], ◌∷◌, ◌++◌}
use Rattle.std.specs.List.{list_all}
use Rattle.txn_programs.specs.Listing.{Listing}
use Rattle.text_words.specs.Bytes.{is_blank, is_in_line}
use Rattle.text_words.specs.Tokens.{Lexeme, tokens}
use Rattle.text_grammar.specs.Spelling.{Spells, first_fault}

-- blanks, and comments, each with the newline behind it
pub data IsGap : List ℕ → Type 0 where
  Nothing : IsGap []
  Blank : (b : ℕ) (rest : List ℕ) → is_blank b ≡ true → IsGap rest → IsGap (b ∷ rest)
  Comment : (text rest : List ℕ) → list_all is_in_line text ≡ true → IsGap rest → IsGap (59 ∷ (text ++ 10 ∷ rest))

-- no token lies across the place between two parts: the tokens of the whole are those of the first part, and then those of the second
abbrev pub SplitsNoToken : List ℕ → List ℕ → Type 0
SplitsNoToken a b = tokens (a ++ b) ≡ tokens a ++ tokens b

-- two parts of the bytes, one with the tokens in front, the other with those behind
pub record Division (bytes : List ℕ) (front back : List Lexeme) : Type 0 where
  pub first : List ℕ
  pub second : List ℕ
  pub whole : first ++ second ≡ bytes
  pub in_front : tokens first ≡ front
  pub behind : tokens second ≡ back

-- both spell the same catalogue, or none does and their first faults are the same
pub record ReadsAs (bytes others : List ℕ) : Type 0 where
  pub spelled : (l : Listing) → Spells bytes l ↔ Spells others l
  pub fault : first_fault bytes ≡ first_fault others
