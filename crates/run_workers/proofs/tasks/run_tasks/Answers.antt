use Rattle.std.proofs.Common.{◌≡◌, sym, subst}
use Rattle.std.proofs.lemmas.Result.{IfOk-weaker}
use Rattle.txn_programs.specs.declared.report.Report.{Report}
use Rattle.txn_programs.specs.Told.{told}
use Rattle.book_storage.specs.PackedEntries.{told_run}
use Rattle.run_workers.specs.GivingUp.{GaveUpForMemory}
use Rattle.run_workers.specs.Drawing.{KeepsOrder}
use Rattle.run_workers.proofs.tasks.run_tasks.Goals as goal

pub returns-clause-memory : goal.returns-clause-memory
returns-clause-memory g c =
    let l = c.args.catalogue.now in
    let run = c.in_ok-run_packed.field-0 in
    IfOk-weaker c.report.result (λ (r : Report). told r ≡ told_run run) (λ (r : Report). GaveUpForMemory l (told r))
    (λ (r : Report) (e : told r ≡ told_run run). subst (GaveUpForMemory l) (sym e) c.in_ok-run_packed.ensures.memory) c.report.ensures

pub returns-clause-order : goal.returns-clause-order
returns-clause-order g c =
    let l = c.args.catalogue.now in
    let run = c.in_ok-run_packed.field-0 in
    IfOk-weaker c.report.result (λ (r : Report). told r ≡ told_run run) (λ (r : Report). KeepsOrder l c.args.options.checkpoint c.args.options.seed (told r))
    (λ (r : Report) (e : told r ≡ told_run run). subst (KeepsOrder l c.args.options.checkpoint c.args.options.seed) (sym e) c.in_ok-run_packed.ensures.order) c.report.ensures
