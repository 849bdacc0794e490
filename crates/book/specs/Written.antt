-- What a run in place wrote, as the writes of a commit.
use Rattle.std.specs.Prelude.{◌≡◌, ℕ, ℤ, List, length, Contains}
use Rattle.std.specs.List.{AllByRecursion}
use Rattle.txn_programs.specs.declared.ast.TxId.{TxId}
use Rattle.txn_programs.specs.declared.ast.Outcome.{Outcome}
use Rattle.txn_programs.specs.Meaning.{State, outcome, after}
use Rattle.txn_programs.specs.Listing.{Listing, call_program}
use Rattle.txn_words.specs.Words.{state_value}
use Rattle.txn_words.specs.Stores.{Change, with_changes}
use Rattle.txn_evaluator.specs.declared.notes.Note.{Note}
use Rattle.attempt.specs.Asking.{Known}
use Rattle.attempt.specs.Order.{AllKnown, Ascending}

abbrev pub place_of : Note → ℕ
place_of n = n.place

-- a place with the value that a state has there
abbrev pub write_at : State → ℕ → Change
write_at m x = (record { 0 = x }, state_value m x)

-- a state's values at the places that were noted, ascending, each once
pub record TellNoted (notes : List Note) (m : State) (writes : Known) : Type 0 where
  pub ascending : Ascending writes
  pub known : AllKnown (length m) writes
  pub told : AllByRecursion (λ (p : Change). p.1 ≡ state_value m p.0.0) writes
  pub all : AllByRecursion (λ n. Contains writes (write_at m n.place)) notes

-- on a state a call ends so, and writes these
pub record EndsPlainly (l : Listing) (tx : TxId) (arguments : List ℤ) (m : State) (how : Outcome) (writes : Known) : Type 0 where
  pub outcome_is : how ≡ outcome (call_program l tx arguments) m
  pub after_is : after (call_program l tx arguments) m ≡ with_changes m writes
  pub ascending : Ascending writes
  pub known : AllKnown (length l.initial) writes
