use Rattle.std.proofs.Common.{map, ◌∙◌, ap, arith}
use Rattle.std.specs.Prelude.{slice_get}
use Rattle.std.proofs.lemmas.List.{length-map}
use Rattle.txn_programs.specs.declared.arguments.Call.{Call}
use Rattle.txn_programs.specs.Listing.{calls}
use Rattle.explore_law.specs.declared.instance.InstanceId.{InstanceId}
use Rattle.explore_law.specs.Instances.{instances}
use Rattle.explore_search.proofs.Instancing.{told_more}
use Rattle.explore_search.proofs.instances.instances_of_tasks.Goals as goal

pub tasks-preserved : goal.tasks-preserved
tasks-preserved c =
    let l = c.args.catalogue.now in
    let t = c.tasks.task in
    let more =
    told_more l c.tasks.list.items t c.instance_of.result (omega (arith, c.tasks-test.true, c.tasks-task-end.ensures.value, length-map (calls l) (λ (x : Call). x.tx))) c.instance_of.ensures c.tasks.invariant in
    ap (map (λ (k : InstanceId). slice_get (instances l) k.0)) c.in_ok-push.ensures.items ∙ more
