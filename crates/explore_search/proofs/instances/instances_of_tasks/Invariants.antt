use Rattle.std.proofs.Common.{◌≡◌, map, take, Some}
use Rattle.std.specs.Prelude.{slice_get}
use Rattle.txn_programs.specs.Listing.{calls}
use Rattle.explore_law.specs.declared.instance.InstanceId.{InstanceId}
use Rattle.explore_law.specs.Instances.{instances}
use Rattle.explore_search.proofs.instances.instances_of_tasks.Given as goal

abbrev pub invariant-tasks : goal.invariant-tasks
invariant-tasks l = map (λ (k : InstanceId). slice_get (instances l.catalogue) k.0) l.list.items ≡ map Some (take l.task (calls l.catalogue))
