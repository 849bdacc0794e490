use Rattle.std.proofs.Common.{◌≡◌, ℕ, ◌+◌, ◌-◌, ◌<◌, List, [], length, replicate, sym, ◌∙◌, ap, subst, arith}
use Rattle.std.proofs.lemmas.List.{length-map}
use Rattle.txn_programs.specs.declared.arguments.Call.{Call}
use Rattle.txn_programs.specs.Listing.{calls, tasks}
use Rattle.explore_law.specs.Instances.{instances}
use Rattle.explore_search.proofs.Counting.{told_at, told_low, told_size}
use Rattle.explore_runner.specs.Giving.{queues}
use Rattle.explore_runner.proofs.Queueing.{Filled, filled_size, filled_none, filled_more, queues_size}
use Rattle.explore_runner.proofs.queues.tasks_by_instance.Goals as goal

pub tasks-init : goal.tasks-init
tasks-init c =
    let l = c.args.catalogue.now in
    let n = c.tasks-tasks.result in
    let all : length (tasks l) ≡ n - 0 = omega (arith, c.tasks-tasks.ensures.value) in
    let count : c.len.result ≡ length c.in_ok-instances.instances.calls.items = omega arith in
    let size : c.len.result ≡ length (instances l) = count ∙ ap length c.in_ok-instances.ensures.calls in
    subst (λ (qs : List (List ℕ)). Filled l (n - 0) qs) (sym c.in_ok-waiting.ensures)
    (subst (λ (k : ℕ). Filled l k (replicate c.len.result [])) all (filled_none l c.len.result size))

pub index-requires : goal.index-requires
index-requires c =
    let l = c.args.catalogue.now in
    omega (arith, told_size l c.in_ok-instances.instances.of_tasks.items c.in_ok-instances.ensures.tasks, length-map (calls l) (λ (x : Call). x.tx), c.tasks-tasks.ensures.value, c.tasks-test.true)

pub add-requires : goal.add-requires
add-requires c =
    let l = c.args.catalogue.now in
    let ks = c.in_ok-instances.instances.of_tasks.items in
    let tells = c.in_ok-instances.ensures.tasks in
    let vs = c.tasks.waiting.items in
    let i = (c.tasks-tasks.result - 1) - c.tasks.done in
    let size = filled_size l (c.tasks-tasks.result - c.tasks.done) (queues vs) c.tasks.invariant in
    let low : i < length ks = omega (arith, told_size l ks tells, length-map (calls l) (λ (x : Call). x.tx), c.tasks-tasks.ensures.value, c.tasks-test.true) in
    omega (arith, size, queues_size vs, told_low l ks i c.index.result.now tells low c.index.ensures)

pub tasks-preserved : goal.tasks-preserved
tasks-preserved c =
    let l = c.args.catalogue.now in
    let ks = c.in_ok-instances.instances.of_tasks.items in
    let tells = c.in_ok-instances.ensures.tasks in
    let n = c.tasks-tasks.result - c.tasks.done in
    let i = (c.tasks-tasks.result - 1) - c.tasks.done in
    let next : n ≡ i + 1 = omega (arith, c.tasks-test.true) in
    let same : i ≡ c.tasks-tasks.result - (c.tasks.done + 1) = omega arith in
    let low : i < length ks = omega (arith, told_size l ks tells, length-map (calls l) (λ (x : Call). x.tx), c.tasks-tasks.ensures.value, c.tasks-test.true) in
    let at = told_at l ks i c.index.result.now tells low c.index.ensures in
    let more = filled_more l n i c.index.result.now at.0 (queues c.tasks.waiting.items) next at.2 at.1 c.tasks.invariant in
    subst (λ (k : ℕ). Filled l k (queues c.add.new.waiting.items)) same (subst (λ (qs : List (List ℕ)). Filled l i qs) (sym c.in_ok-add.ensures) more)
