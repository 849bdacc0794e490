use Rattle.std.proofs.Common.{◌≡◌, ◌∙◌, ap, sym, subst, true, List, ℤ, arith}
use Rattle.std.proofs.lemmas.Option.{slice_get-get_or}
use Rattle.txn_programs.specs.declared.arguments.Call.{Call}
use Rattle.txn_programs.specs.Listing.{Listing, tasks, task_tx, IsCallable}
use Rattle.txn_programs.specs.Names.{names_hold}
use Rattle.txn_programs.proofs.Lawful.{callable_as}
use Rattle.txn.proofs.Tasks.{task_run, run_there, call_there}
use Rattle.txn.proofs.catalogue.Catalogue.task_arguments.Goals as goal

pub index-requires : goal.index-requires
index-requires c =
    let run = task_run c.self.inside c.args.self.now c.args.task c.index-run.result.now c.self.invariant c.self.view_is c.requires c.index-run.ensures in
    omega (arith, run_there c.self.inside.runs.items c.index-run.result.now _ run, c.self.inside.runs.ok)

pub returns-clause-value : goal.returns-clause-value
returns-clause-value c =
    let run = task_run c.self.inside c.args.self.now c.args.task c.index-run.result.now c.self.invariant c.self.view_is c.requires c.index-run.ensures in
    c.as_slice.ensures.value
    ∙ ap (λ r. r.0.arguments) c.index.ensures
    ∙ ap (λ (x : Call). x.arguments) (call_there c.self.inside.runs.items c.index-run.result.now _ c.index.result.now run)

pub returns-clause-each : goal.returns-clause-each
returns-clause-each c =
    let l = c.args.self.now in
    let t = c.args.task in
    let names : names_hold l ≡ true = subst (λ (l : Listing). names_hold l ≡ true) c.self.view_is c.self.invariant.names in
    let tx = slice_get-get_or (tasks l) t.0 _ c.requires in
    subst (λ (given : List ℤ). IsCallable l (task_tx l t) given) (sym (returns-clause-value c)) (callable_as l t (task_tx l t) names tx)
