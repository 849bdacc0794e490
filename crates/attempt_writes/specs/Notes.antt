-- Notes of what was before a write, and hints at them.
use Rattle.std.specs.Prelude.{◌≡◌, ◌≢◌, ◌<◌, ◌≤◌, ◌+◌, ℕ, ℤ, List, [], ◌∷◌, Option, Some, None, slice_get, slice_set}
use Rattle.txn_programs.specs.declared.ast.VarId.{VarId}
use Rattle.attempt_writes.specs.declared.note.Note.{Note}
use Rattle.attempt_writes.specs.Known.{Known, known_at}

abbrev pub flat : Option (Option ℤ) → Option ℤ
flat (Some o) = o
flat None = None

-- the value of a variable in a table, if it has one
abbrev pub value_in : List (Option ℤ) → VarId → Option ℤ
value_in table x = flat (slice_get table x.0)

-- a table before the writes that were noted, the first note first
abbrev pub undone : List Note → List (Option ℤ) → List (Option ℤ)
undone [] table = table
undone (n ∷ newer) table = slice_set (undone newer table) n.x.0 n.old

abbrev pub IsListed : Known → VarId → Type 0
IsListed pairs x = (p : ℤ) × (known_at pairs x ≡ Some p)

-- each variable that has a value is listed
abbrev pub AreListed : Known → List (Option ℤ) → Type 0
AreListed pairs table = (x : VarId) (v : ℤ) → value_in table x ≡ Some v → IsListed pairs x

-- each variable that is noted is listed
abbrev pub AreNotedListed : Known → List Note → Type 0
AreNotedListed pairs [] = Unit {0}
AreNotedListed pairs (n ∷ notes) = IsListed pairs n.x × AreNotedListed pairs notes

-- each variable that is noted has a number below n
abbrev pub AreInside : ℕ → List Note → Type 0
AreInside n [] = Unit {0}
AreInside n (m ∷ notes) = (m.x.0 < n) × AreInside n notes

-- a variable has a note from `low` on and below `high`
abbrev pub HasNote : ℕ → ℕ → List Note → VarId → Type 0
HasNote low high notes x = (k : ℕ) × (n : Note) × (low ≤ k) × (k < high) × (slice_get notes k ≡ Some n) × (n.x.0 ≡ x.0)

-- no note is of the variable
abbrev pub AreOthers : VarId → List Note → Type 0
AreOthers x [] = Unit {0}
AreOthers x (n ∷ notes) = (n.x.0 ≢ x.0) × AreOthers x notes

-- the hints before the notes, the first note first
abbrev pub hints_before : List Note → List ℕ → List ℕ
hints_before [] hints = hints
hints_before (n ∷ newer) hints = slice_set (hints_before newer hints) n.x.0 n.earlier

-- each variable's hint is the place of its last note, also where later notes were undone; the first note is at place i
abbrev pub AreHinted : ℕ → List Note → List ℕ → Type 0
AreHinted i [] hints = Unit {0}
AreHinted i (n ∷ newer) hints = (slice_get (hints_before newer hints) n.x.0 ≡ Some i) × AreHinted (i + 1) newer hints

-- the note at a place, if that is from `low` on and below `high`, is of another variable
abbrev pub IsOther : ℕ → ℕ → List Note → ℕ → VarId → Type 0
IsOther low high notes place x = (n : Note) → low ≤ place → place < high → slice_get notes place ≡ Some n → n.x.0 ≢ x.0
