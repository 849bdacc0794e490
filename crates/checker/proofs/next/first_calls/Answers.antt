use Rattle.std.proofs.Common.{◌∙◌, ◌∷◌, ◌++◌, [], List, ap, sym}
use Rattle.txn_programs.specs.declared.arguments.Call.{Call}
use Rattle.txn_programs.specs.Listing.{calls}
use Rattle.checker.proofs.OneMore.{take_more}
use Rattle.checker.proofs.next.first_calls.Goals as goal

pub tasks-preserved : goal.tasks-preserved
tasks-preserved c =
    let call = c.task_call.result in
    c.in_ok-push.ensures.items ∙ (ap (λ (cs : List Call). cs ++ call ∷ []) c.tasks.invariant ∙ sym (take_more (calls c.args.catalogue.now) c.tasks.i call c.task_call.ensures))
