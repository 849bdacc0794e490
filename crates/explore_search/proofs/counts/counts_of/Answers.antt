use Rattle.std.proofs.Common.{rules, ◌≡◌, ℕ, ◌-◌, ◌<◌, List, length, get_or, drop, replicate, ◌∙◌, ap, arith}
use Rattle.std.proofs.lemmas.List.{length-drop, length-map}
use Rattle.txn_programs.specs.declared.arguments.Call.{Call}
use Rattle.txn_programs.specs.Listing.{calls}
use Rattle.txn_programs.proofs.Lawful.{few_tasks}
use Rattle.explore_law.specs.Orders.{counted}
use Rattle.explore_law.proofs.Instances.{length-counted}
use Rattle.explore_search.proofs.Indexing.{any_default}
use Rattle.explore_search.proofs.Counting.{counted_most, counts_start, counts_step, told_low}
use Rattle.explore_search.proofs.counts.counts_of.Goals as goal

pub tasks-init : goal.tasks-init
tasks-init c =
    let l = c.args.catalogue.now in
    let s = c.args.instances.now in
    let items : c.in_ok-counts.counts.items ≡ replicate c.len.result 0 = search rules in
    let size : c.len.result ≡ length s.calls.items = omega arith in
    let count : c.len-tasks.result ≡ length s.of_tasks.items = omega arith in
    items ∙ counts_start l s.of_tasks.items c.len.result c.len-tasks.result c.requires.tasks (size ∙ ap length c.requires.calls) count

pub index_mut-requires : goal.index_mut-requires
index_mut-requires c =
    let l = c.args.catalogue.now in
    let n = c.len-tasks.result in
    let ks = c.args.instances.now.of_tasks.items in
    let k = c.index-instance.result.now in
    let low = told_low l ks (n - 1 - c.tasks.done) k c.requires.tasks (omega (arith, c.tasks-test.true, c.tasks.auto.done-end, c.len-tasks.ensures)) c.index-instance.ensures in
    omega (arith, low, ap length c.tasks.invariant, length-counted l (drop (n - c.tasks.done) (calls l)))

pub overflow_add-index_mut : goal.overflow_add-index_mut
overflow_add-index_mut c =
    let l = c.args.catalogue.now in
    let n = c.len-tasks.result in
    let ks = c.args.instances.now.of_tasks.items in
    let k = c.index-instance.result.now in
    let rest = drop (n - c.tasks.done) (calls l) in
    let low = told_low l ks (n - 1 - c.tasks.done) k c.requires.tasks (omega (arith, c.tasks-test.true, c.tasks.auto.done-end, c.len-tasks.ensures)) c.index-instance.ensures in
    let within : k.0 < length c.tasks.counts.items = omega (arith, low, ap length c.tasks.invariant, length-counted l rest) in
    let own = any_default c.tasks.counts.items k.0 c.index_mut.result.now 0 within in
    let at : get_or c.tasks.counts.items k.0 0 ≡ get_or (counted l rest) k.0 0 = ap (λ (xs : List ℕ). get_or xs k.0 0) c.tasks.invariant in
    omega (arith, c.index_mut.ensures.value, own, at, counted_most l rest k.0, length-drop (n - c.tasks.done) (calls l), few_tasks l c.rules.ensures.limits, length-map (calls l) (λ (x : Call). x.tx))

pub tasks-preserved : goal.tasks-preserved
tasks-preserved c =
    let l = c.args.catalogue.now in
    let ks = c.args.instances.now.of_tasks.items in
    let count : c.len-tasks.result ≡ length ks = omega arith in
    counts_step l ks c.len-tasks.result c.tasks.done c.index-instance.result.now c.tasks.counts.items c.index_mut.result.now c.requires.tasks count
    (omega (arith, c.tasks-test.true, c.tasks.auto.done-end)) c.index-instance.ensures c.tasks.invariant c.index_mut.ensures.value
