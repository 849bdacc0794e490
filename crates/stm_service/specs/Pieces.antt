-- How a history is shown, a piece at a time.
use Rattle.std.specs.Prelude.{ℕ, ◌≡◌, ◌==◌, true, List, [], ◌∷◌, ◌++◌, length, drop, MatchBool}
use Rattle.logbook.specs.Pages.{Book, Cell, Named, Step, View}
use Rattle.stm_desk.specs.Answering.{history_of}
use Rattle.stm_desk.specs.History.{History}
use Rattle.stm_service.specs.declared.front.Piece.{Piece}

-- each piece adds what the history of its desk has more than was shown before
abbrev pub joined : History → List Piece → History
joined h [] = h
joined h (p ∷ ps) = joined (h ++ drop (length h) (history_of p.desk.value)) ps

-- the first word is the number of pieces; the second stays 0
pub record IsCounted (cells : List Cell) (pieces : List Piece) : Type 0 where
  pub words : cells ≡ (length pieces, true) ∷ (0, true) ∷ []

-- the first word of a book
abbrev pub head_of : Book → Named
head_of b = record { tracked = true; key = 0; book = b }

-- the piece was added to all that had been seen; or there were more, and these were seen
abbrev pub Adds : Step Piece → View Piece ℕ → ℕ → View Piece ℕ → Type 0
Adds s before found now = MatchBool (found == s.old) (now.0 ≡ before.0 ++ s.ask ∷ []) (length now.0 ≡ found)
