-- A schedule's moves played one after another, and the text of what is seen.
use Rattle.std.specs.Prelude.{◌≡◌, ℕ, List, [], ◌∷◌, ◌++◌}
use Rattle.txn_programs.specs.Listing.{Listing}
use Rattle.txn_programs.specs.declared.moves.Move.{Move}
use Rattle.world.specs.SeenText.{seen_lines}
use Rattle.world_law.specs.World.{World, IsOpening}
use Rattle.world_law.specs.declared.events.Seen.{Seen}
use Rattle.world.specs.Lines.{Plays}
use Rattle.world.specs.WorldText.{PutsWorld}

-- from w these moves are seen so, one after another, and lead to w'
abbrev pub PlaysAll : Listing → World → List Move → List Seen → World → Type 0
PlaysAll l w [] [] w' = w' ≡ w
PlaysAll l w (m ∷ ms) (s ∷ ss) w' = (mid : World) × Plays l w m s mid × PlaysAll l mid ms ss w'
PlaysAll l w [] (s ∷ ss) w' = ⊥
PlaysAll l w (m ∷ ms) [] w' = ⊥

-- from w the moves lead to w', and a line for each was put behind the text
pub record PutsLines (l : Listing) (w : World) (moves : List Move) (w' : World) (old new : List ℕ) : Type 0 where
  pub seen : List Seen
  pub played : PlaysAll l w moves seen w'
  pub text : new ≡ old ++ seen_lines l 1 seen

-- the text is a line for each of the moves, played from the world as it opens, and the last lines of the world
pub record IsTextOf (l : Listing) (moves : List Move) (text : List ℕ) : Type 0 where
  pub start : World
  pub opening : IsOpening l start
  pub seen : List Seen
  pub last : World
  pub played : PlaysAll l start moves seen last
  pub printed : PutsWorld l last (seen_lines l 1 seen) text
