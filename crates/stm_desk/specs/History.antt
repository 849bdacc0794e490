-- What became of the tasks of a desk, and when that is lawful.
use Rattle.std.specs.Prelude.{◌≡◌, ◌≢◌, ℕ, List, [], ◌∷◌, ◌++◌, Some, slice_get}
use Rattle.txn_programs.specs.declared.arguments.Call.{Call}
use Rattle.txn_programs.specs.declared.ast.Outcome.{Outcome}
use Rattle.txn_programs.specs.declared.ast.Outcome.TheVariants.{Retries}
use Rattle.txn_programs.specs.Meaning.{State, outcome, after}
use Rattle.txn_programs.specs.Standing.{Upholds}
use Rattle.txn_programs.specs.Listing.{Listing, call_program}
use Rattle.stm_store.specs.declared.job.Ticket.{Ticket}
use Rattle.stm_desk.specs.declared.answers.Became.{Became}
use Rattle.stm_desk.specs.declared.answers.Became.TheVariants as became

-- of which task, and what became of it, the first one first
abbrev pub History : Type 0
History = List (Ticket × Became)

-- the state that what became of a task leaves
abbrev pub left_by : Listing → State → Became → State
left_by l m (became.Entered call o) = after (call_program l call.tx call.arguments) m
left_by l m became.Left = m

-- what is entered has its call's outcome on the state before, which is no retry, and leaves one that keeps the standing
-- conditions
pub record IsLawfulEntry (l : Listing) (m : State) (call : Call) (o : Outcome) : Type 0 where
  pub outcome_is : o ≡ outcome (call_program l call.tx call.arguments) m
  pub ends : o ≢ Retries
  pub upheld : Upholds l (after (call_program l call.tx call.arguments) m)

abbrev pub IsLawful : Listing → State → Became → Type 0
IsLawful l m (became.Entered call o) = IsLawfulEntry l m call o
IsLawful l m became.Left = Unit {0}

-- the state to which a history leads
abbrev pub led : Listing → State → History → State
led l m [] = m
led l m (e ∷ h) = led l (left_by l m e.1) h

-- each on the state to which all before it lead
abbrev pub AreLawful : Listing → State → History → Type 0
AreLawful l m [] = Unit {0}
AreLawful l m (e ∷ h) = IsLawful l m e.1 × AreLawful l (left_by l m e.1) h

-- no ticket stands at two places
abbrev pub IsOnce : History → Type 0
IsOnce h = (i j : ℕ) (a b : Ticket × Became) → slice_get h i ≡ Some a → slice_get h j ≡ Some b → a.0.0 ≡ b.0.0 → i ≡ j

-- a history from a state: each step is lawful, and no ticket stands in it twice
pub record IsLegal (l : Listing) (m : State) (h : History) : Type 0 where
  pub lawful : AreLawful l m h
  pub once : IsOnce h

-- the one begins the other
abbrev pub Begins : History → History → Type 0
Begins h longer = (rest : History) × (longer ≡ h ++ rest)
