-- What a turn on the present values says, seen from outside.
use Rattle.std.proofs.Common.{◌≡◌, ℤ, List, sym, ◌∙◌, ap, subst}
use Rattle.txn_programs.specs.declared.ast.TaskId.{TaskId}
use Rattle.txn_programs.specs.declared.ast.TxId.{TxId}
use Rattle.txn_programs.specs.declared.ast.Outcome.{Outcome}
use Rattle.txn_programs.specs.Meaning.{State, outcome, after}
use Rattle.txn_programs.specs.Tree.{Program}
use Rattle.txn_programs.specs.Listing.{task_tx, task_arguments, task_program, call_program}
use Rattle.txn_words.specs.Stores.{with_changes}
use Rattle.attempt.specs.Order.{Ascending}
use Rattle.attempt.specs.Room.{TakesMemory}
use Rattle.attempt.specs.View.{AttemptView}
use Rattle.book.specs.declared.book.Book.TheInside.{Inside}
use Rattle.book.specs.BookInside.{book_of}
use Rattle.book.specs.Turns.{EndsOn}
use Rattle.book.specs.View.{BookView}
use Rattle.book.proofs.Writes.{store_is_changes}

-- the task's transaction takes memory
pub takes_now : (b : Inside) (v : BookView) (task : TaskId) (tx : TxId) → book_of b ≡ v → tx ≡ task_tx b.chapter.listing task → TakesMemory b.chapter.listing tx → TakesMemory v.catalogue (task_tx v.catalogue task)
takes_now b v task tx view own h =
    subst (λ (x : BookView). TakesMemory x.catalogue (task_tx x.catalogue task)) view (subst (TakesMemory b.chapter.listing) own h)

-- an attempt of the task's program that ended on the present values of the book, which is seen as v
module _ (b : Inside) (v : BookView) (task : TaskId) (tx : TxId) (given : List ℤ) (m : State) (how : Outcome) (a : AttemptView) (view : book_of b ≡ v) (values : m ≡ b.present.values.items) (own : tx ≡ task_tx b.chapter.listing task) (own_given : given ≡ task_arguments b.chapter.listing task) (h : EndsOn b.chapter.listing tx given m how a) where
  program_is : call_program b.chapter.listing tx given ≡ task_program v.catalogue task
  program_is =
      ap (λ (x : TxId). call_program b.chapter.listing x given) own
      ∙ (ap (call_program b.chapter.listing (task_tx b.chapter.listing task)) own_given ∙ ap (λ (x : BookView). task_program x.catalogue task) view)

  state_is : m ≡ v.present.state
  state_is = values ∙ ap (λ (x : BookView). x.present.state) view

  pub outcome_now : how ≡ outcome (task_program v.catalogue task) v.present.state
  outcome_now = sym h.outcome_is ∙ (ap (λ (t : Program). outcome t m) program_is ∙ ap (outcome (task_program v.catalogue task)) state_is)

  pub after_now : Ascending a.writes → after (task_program v.catalogue task) v.present.state ≡ with_changes v.present.state a.writes
  after_now up =
      sym (ap (λ (t : Program). after t m) program_is ∙ ap (after (task_program v.catalogue task)) state_is)
      ∙ (h.after_is ∙ (store_is_changes a.writes m up ∙ ap (λ (s : State). with_changes s a.writes) state_is))
