-- What a worker brings is an end of its task.
use Rattle.std.proofs.Common.{◌≡◌, ◌∙◌, true, length, Some, refl, sym, ap}
use Rattle.std.specs.List.{slice_get}
use Rattle.std.proofs.lemmas.Option.{get_or_from_slice_get}
use Rattle.txn_programs.specs.declared.ast.Outcome.{Outcome}
use Rattle.txn_programs.specs.declared.ast.TxId.{TxId}
use Rattle.txn_programs.specs.Listing.{Listing, tasks, task_tx, task_arguments, call_program}
use Rattle.attempt.specs.View.{AttemptView}
use Rattle.attempt.specs.declared.next.Stand.{Stand}
use Rattle.attempt.specs.declared.next.Stand.TheVariants as stand
use Rattle.book.specs.Turns.{IsEndOf}
use Rattle.stm_store.specs.declared.job.Job.{Job}
use Rattle.stm_store.specs.Working.{is_over, declaring}

over_ended : (s : Stand) → is_over s ≡ true → (o : Outcome) × (s ≡ stand.Over o)
over_ended stand.Fresh e = absurd (cc)
over_ended (stand.Needs x) e = absurd (cc)
over_ended (stand.Over o) e = (o, refl)
over_ended stand.Spent e = absurd (cc)

tx_of : (l : Listing) (job : Job) → slice_get (tasks l) job.task.0 ≡ Some job.tx → task_tx l job.task ≡ job.tx
tx_of l job own = get_or_from_slice_get (tasks l) job.task.0 job.tx (record { 0 = 0 }) own

-- an ended attempt of the job's call, in the catalogue of the program, is an end of the task in the book's
pub end_of : (l m : Listing) (job : Job) (a : AttemptView) → declaring l ≡ declaring m → length l.initial ≡ length m.initial → slice_get (tasks l) job.task.0 ≡ Some job.tx → task_arguments l job.task ≡ job.arguments → a.program ≡ call_program m job.tx job.arguments → a.variables ≡ length m.initial → is_over a.stand ≡ true → IsEndOf l job.task a
end_of l m job a same wide own given program variables over =
    record {
      program = program ∙ (ap (λ (k : Listing). call_program k job.tx job.arguments) (sym same)
          ∙ (ap (λ (t : TxId). call_program l t job.arguments) (sym (tx_of l job own)) ∙ ap (call_program l (task_tx l job.task)) (sym given)));
      variables = variables ∙ sym wide;
      ended = over_ended a.stand over;
    }
