-- A task that was submitted, and runs at once.
use Rattle.std.proofs.Common.{◌≡◌, ◌∙◌, ◌∷◌, [], ◌++◌, ℕ, ℤ, zero, suc, Some, List, length, map, sym, ap, subst}
use Rattle.std.specs.List.{slice_get}
use Rattle.std.proofs.lemmas.List.{length-map}
use Rattle.std.proofs.lemmas.Option.{slice_get_within, get_or_from_slice_get}
use Rattle.attempt_writes.proofs.OwnTable.{get_same}
use Rattle.txn_programs.specs.declared.arguments.Call.{Call}
use Rattle.txn_programs.specs.declared.ast.TaskId.{TaskId}
use Rattle.txn_programs.specs.declared.ast.TxId.{TxId}
use Rattle.txn_programs.specs.Listing.{Listing, calls, tasks, task_tx, task_arguments, call_program}
use Rattle.txn.specs.Grown.{grown}
use Rattle.txn.proofs.Growing.{calls_grown}
use Rattle.attempt.specs.View.{AttemptView}
use Rattle.book.specs.Tasks.{Ready, Running}
use Rattle.book.specs.LawfulBook.{BookFits}
use Rattle.book.specs.Turns.{IsEndOf}
use Rattle.book.specs.View.{BookView, IsRunning}
use Rattle.book.specs.Submitted.{submitted}
use Rattle.stm_store.specs.Turning.{called_book, EndsHere}
use Rattle.stm_store.proofs.Entries.{get_append_at}

abbrev called : TxId → List ℤ → Call
called tx arguments = record { tx = tx; arguments = arguments }

-- it is ready
submitted_ready : (b : BookView) (call : Call) (task : TaskId) → task.0 ≡ length b.tasks → slice_get (submitted b call).tasks task.0 ≡ Some Ready
submitted_ready b call task at = ap (slice_get (b.tasks ++ Ready ∷ [])) at ∙ get_append_at b.tasks Ready

pub called_runs : (old new : BookView) (tx : TxId) (arguments : List ℤ) (task : TaskId) → task.0 ≡ length old.tasks → new ≡ called_book old tx arguments task → IsRunning new task
called_runs old new tx arguments task at is =
    let ts = (submitted old (called tx arguments)).tasks in
    ap (λ (b : BookView). slice_get b.tasks task.0) is
    ∙ get_same ts task.0 Running (slice_get_within ts task.0 Ready (submitted_ready old (called tx arguments) task at))

map_get : {A B : Type 0} (f : A → B) (xs : List A) (k : ℕ) (x : A) → slice_get xs k ≡ Some x → slice_get (map f xs) k ≡ Some (f x)
map_get f [] k x e = absurd (cc)
map_get f (y ∷ xs) zero x e = cc
map_get f (y ∷ xs) (suc k) x e = map_get f xs k x e

-- a submitted task makes the call that was submitted
submitted_call : (b : BookView) (call : Call) (task : TaskId) → BookFits b → task.0 ≡ length b.tasks → slice_get (calls (grown b.catalogue (call ∷ []))) task.0 ≡ Some call
submitted_call b call task fits at =
    let cs = calls b.catalogue in
    let place : task.0 ≡ length cs = at ∙ (fits.tasks ∙ length-map cs (λ (c : Call). c.tx)) in
    ap (slice_get (calls (grown b.catalogue (call ∷ [])))) place
    ∙ (ap (λ (all : List Call). slice_get all (length cs)) (calls_grown b.catalogue (call ∷ []))
    ∙ get_append_at cs call)

-- of this transaction
pub submitted_runs : (b : BookView) (call : Call) (task : TaskId) → BookFits b → task.0 ≡ length b.tasks → slice_get (tasks (grown b.catalogue (call ∷ []))) task.0 ≡ Some call.tx
submitted_runs b call task fits at = map_get (λ (c : Call). c.tx) (calls (grown b.catalogue (call ∷ []))) task.0 call (submitted_call b call task fits at)

-- with these arguments
pub submitted_given : (b : BookView) (call : Call) (task : TaskId) → BookFits b → task.0 ≡ length b.tasks → task_arguments (grown b.catalogue (call ∷ [])) task ≡ call.arguments
submitted_given b call task fits at =
    let cs = calls (grown b.catalogue (call ∷ [])) in
    get_or_from_slice_get (map (λ (c : Call). c.arguments) cs) task.0 call.arguments [] (map_get (λ (c : Call). c.arguments) cs task.0 call (submitted_call b call task fits at))

-- an attempt of it that has ended is an end of the task
called_ends : (b : BookView) (tx : TxId) (arguments : List ℤ) (task : TaskId) (a : AttemptView) → BookFits b → task.0 ≡ length b.tasks → EndsHere b tx arguments a → IsEndOf (called_book b tx arguments task).catalogue task a
called_ends b tx arguments task a fits at e =
    let call = called tx arguments in
    let l : Listing = grown b.catalogue (call ∷ []) in
    let same : task_tx l task ≡ tx = get_or_from_slice_get (tasks l) task.0 tx (record { 0 = 0 }) (submitted_runs b call task fits at) in
    let given : task_arguments l task ≡ arguments = submitted_given b call task fits at in
    record {
      program = e.ends.program ∙ (ap (λ (t : TxId). call_program l t arguments) (sym same) ∙ ap (call_program l (task_tx l task)) (sym given));
      variables = e.ends.variables;
      ended = (e.how, e.ends.ended);
    }

pub called_end : (b new : BookView) (tx : TxId) (arguments : List ℤ) (task : TaskId) (a : AttemptView) → BookFits b → task.0 ≡ length b.tasks → new ≡ called_book b tx arguments task → EndsHere b tx arguments a → IsEndOf new.catalogue task a
called_end b new tx arguments task a fits at is e = subst (λ (x : BookView). IsEndOf x.catalogue task a) (sym is) (called_ends b tx arguments task a fits at e)
