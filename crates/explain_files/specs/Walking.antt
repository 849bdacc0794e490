-- Places in a file where a token begins.
use Rattle.std.specs.Prelude.{◌≡◌, ◌<◌, ◌≤◌, ℕ, Bool, true, false, List, [], ◌∷◌, ◌++◌, length, take, drop}
use Rattle.text_words.specs.Tokens.{Lexeme, tokens}
use Rattle.text_grammar.specs.Tree.{File, file_tokens, IsOfForm, HasParts}
use Rattle.explain_files.specs.declared.wanted.Wanted.{Wanted}
use Rattle.explain_files.specs.Tokens.{BeginsToken, IsApart}
use Rattle.explain_files.specs.Forms.{Puts, behind}

-- a place in the text where a token begins, or the end: it lies within no token and within no comment
pub record IsTokenPlace (bytes : List ℕ) (place : ℕ) : Type 0 where
  pub bound : place ≤ length bytes
  pub begins : BeginsToken (drop place bytes)
  pub parts : tokens bytes ≡ tokens (take place bytes) ++ tokens (drop place bytes)

-- the next place from another on, and where the walk goes on
pub record IsStep (bytes : List ℕ) (from place next : ℕ) (went : Bool) : Type 0 where
  pub here : IsTokenPlace bytes place
  pub behind : from ≤ place
  pub bound : next ≤ length bytes
  pub further : went ≡ true → place < next

-- the tokens of a file
pub record IsFileOf (ts : List Lexeme) : Type 0 where
  pub file : File
  pub spelled : ts ≡ file_tokens file
  pub formed : IsOfForm file.form file
  pub parts : HasParts file

-- no file begins with the tokens in front and then this one; or, where nothing is left, they are no file
abbrev pub NoneGoesOn : List Lexeme → List Lexeme → Type 0
NoneGoesOn front [] = IsFileOf front → ⊥
NoneGoesOn front (t ∷ ts) = (more : List Lexeme) → IsFileOf (front ++ t ∷ more) → ⊥

-- where the bytes stop being the beginning of a file: some file begins with the tokens before the place, and none with one more
pub record IsStop (bytes : List ℕ) (place : ℕ) : Type 0 where
  pub here : IsTokenPlace bytes place
  pub more : List Lexeme
  pub begun : IsFileOf (tokens (take place bytes) ++ more)
  pub stops : NoneGoesOn (tokens (take place bytes)) (tokens (drop place bytes))

-- what was wanted on the stack is replaced by what is wanted behind the token, where it may stand there
pub record Moved (went : Bool) (old new : List Wanted) (t : Lexeme) : Type 0 where
  pub wanted : Wanted
  pub below : List Wanted
  pub was : old ≡ below ++ wanted ∷ []
  pub puts : Puts went below new (behind wanted t)

abbrev pub Moves : Bool → List Wanted → List Wanted → List Lexeme → Type 0
Moves went old new [] = went ≡ false
Moves went old new (t ∷ ts) = 0 < length old → Moved went old new t

-- one step from a place on, and what it does to the stack
pub record StepMoves (bytes : List ℕ) (from place next : ℕ) (went : Bool) (old new : List Wanted) : Type 0 where
  pub same : tokens (drop place bytes) ≡ tokens (drop from bytes)
  pub before : tokens (take place bytes) ≡ tokens (take from bytes)
  pub apart : IsApart bytes next
  pub one_more : went ≡ true → tokens (take next bytes) ≡ tokens (take place bytes) ++ take 1 (tokens (drop place bytes))
  pub next_is : went ≡ true → tokens (drop next bytes) ≡ drop 1 (tokens (drop place bytes))
  pub moves : Moves went old new (tokens (drop place bytes))
