use Rattle.std.proofs.Common.{◌≡◌, map, Some, sym, ◌∙◌, subst}
use Rattle.std.specs.Prelude.{slice_get}
use Rattle.txn_programs.specs.declared.ast.TxId.{TxId}
use Rattle.txn_programs.specs.Listing.{Listing, IsCallable}
use Rattle.book.specs.Recorded.{told_as}
use Rattle.book.specs.declared.standing.Standing.{Standing}
use Rattle.explore_runner.specs.PuttingBy.{PutsBy}
use Rattle.explore_runner.proofs.Putting.{claimed, put_then, told_running}
use Rattle.explore_runner.proofs.Closing.{on_ok}
use Rattle.explore_runner.proofs.stopping.put_by.Goals as goal

pub new-attempt-requires : goal.new-attempt-requires
new-attempt-requires c =
    let b = c.claim-was_ready.new.self in
    let arguments = c.task_arguments.result.now in
    subst (λ (l : Listing). IsCallable l c.task_tx-tx.result arguments) (c.claim-was_ready.ensures.catalogue ∙ c.requires.catalogue)
    (subst (λ (x : TxId). IsCallable b.catalogue x arguments) (sym c.task_tx-tx.ensures.value) c.task_arguments.ensures.each)

pub put_running_by-requires-clause-runs : goal.put_running_by-requires-clause-runs
put_running_by-requires-clause-runs c =
    let b = c.claim-was_ready.new.self in
    told_running b.tasks c.args.task.0 (subst (λ (s : Standing). slice_get (map told_as b.tasks) c.args.task.0 ≡ Some s) c.in-Running.is c.standing.ensures)

pub returns : goal.returns
returns c =
    let old = c.args.book.now in
    let task = c.args.task in
    let b = c.claim-was_ready.new.self in
    let new = c.put_running_by.new.book in
    let at = claimed old b task c.claim-was_ready.result c.requires.exists c.claim-was_ready.ensures.claimed in
    on_ok c.put_running_by.result (PutsBy b task new) (PutsBy old task new) (put_then old b new task at) c.put_running_by.ensures
