-- A call that was evaluated in place, and undone.
use Rattle.std.proofs.Common.{◌≡◌, ◌∙◌, ℤ, List, length, sym, subst}
use Rattle.txn_programs.specs.declared.ast.TxId.{TxId}
use Rattle.txn_programs.specs.declared.ast.Outcome.{Outcome}
use Rattle.txn_programs.specs.Listing.{Listing, call_program}
use Rattle.txn_programs.specs.Meaning.{State, outcome, after}
use Rattle.txn_evaluator.specs.declared.notes.Note.{Note}
use Rattle.txn_evaluator.specs.Notes.{undone}
use Rattle.attempt.specs.Asking.{Known}
use Rattle.attempt.specs.Order.{AllKnown}
use Rattle.book.specs.Written.{TellNoted, EndsPlainly}
use Rattle.book.proofs.Noting.{told_back}

-- from the state m to the state n
pub ends_plainly : (l : Listing) (tx : TxId) (given : List ℤ) (m n : State) (how : Outcome) (ns : List Note) (w : Known) → how ≡ outcome (call_program l tx given) m → n ≡ after (call_program l tx given) m → undone ns n ≡ m → length n ≡ length m → length m ≡ length l.initial → TellNoted ns n w → EndsPlainly l tx given m how w
ends_plainly l tx given m n how ns w o e back long wide told =
    record {
      outcome_is = o;
      after_is = sym e ∙ told_back ns n m w back long told;
      ascending = told.ascending;
      known = subst (λ k. AllKnown k w) (long ∙ wide) told.known;
    }
