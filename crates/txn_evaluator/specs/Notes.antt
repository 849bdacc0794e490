-- What a run noted of its writes, and the states that this leads back to.
use Rattle.std.specs.Prelude.{◌≡◌, ℕ, ◌<◌, List, [], ◌∷◌, ◌++◌, length, slice_set}
use Rattle.txn_programs.specs.Meaning.{State}
use Rattle.txn_evaluator.specs.declared.notes.Note.{Note}

-- the state before the writes that were noted, the first note first
abbrev pub undone : List Note → State → State
undone [] m = m
undone (n ∷ later) m = slice_set (undone later m) n.place n.old

-- each place that was noted is below n
abbrev pub AreInside : ℕ → List Note → Type 0
AreInside n [] = Unit {0}
AreInside n (note ∷ later) = (note.place < n) × AreInside n later

-- from one state to the next there were more notes, which lead back
pub record LeadBack (notes : List Note) (m : State) (notes' : List Note) (m' : State) : Type 0 where
  pub more : List Note
  pub noted : notes' ≡ notes ++ more
  pub inside : AreInside (length m) more
  pub back : undone more m' ≡ m
