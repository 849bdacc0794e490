use Rattle.std.proofs.Common.{◌≡◌, ◌∙◌, ◌<◌, length, sym, subst, arith}
use Rattle.std.proofs.lemmas.Option.{same_Some, slice_get_within}
use Rattle.txn_programs.specs.declared.ast.TxId.{TxId}
use Rattle.txn_programs.specs.Listing.{tasks}
use Rattle.stm_store.specs.Asking.{IsPresentJob}
use Rattle.stm_store.proofs.store.Store.bring.Goals as goal

pub agree_on-requires-clause-first : goal.agree_on-requires-clause-first
agree_on-requires-clause-first c =
    let w = c.args.worker.now in
    let is : IsPresentJob c.args.self.now c.in-Some.job = c.has_now.ensures.0 c.if-not-has_now.false in
    let same : c.task_tx-tx.result ≡ c.in-Some.job.tx = same_Some _ _ (sym c.task_tx-tx.ensures.own ∙ is.0.runs) in
    subst (λ (t : TxId). t.0 < length w.catalogue.now.transactions) (sym same) (w.known c.in-Some.job c.in-Some.is).declared

pub bring-requires-clause-exists : goal.bring-requires-clause-exists
bring-requires-clause-exists c =
    let is : IsPresentJob c.args.self.now c.in-Some.job = c.has_now.ensures.0 c.if-not-has_now.false in
    omega (arith, slice_get_within (tasks c.args.self.now.book.catalogue) c.in-Some.job.task.0 c.in-Some.job.tx is.0.runs, c.law.ensures.fits.tasks)
