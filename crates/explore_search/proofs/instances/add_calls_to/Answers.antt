use Rattle.std.proofs.Common.{◌≡◌, ◌≤◌, ℕ, List, Some, length, Vec, Global, refl, ◌∙◌, ap, sym, arith}
use Rattle.std.specs.Prelude.{slice_get}
use Rattle.std.proofs.lemmas.List.{length-map}
use Rattle.txn_programs.specs.declared.arguments.Call.{Call}
use Rattle.txn_programs.specs.Listing.{calls, task_arguments}
use Rattle.explore_search.specs.Instancing.{index}
use Rattle.explore_search.proofs.Instancing.{added_to, all_to, few_so_far, own_call, passed_by}
use Rattle.explore_search.proofs.instances.add_calls_to.Goals.{then-task_tx-tx+in_ok-add_call, else-task_tx-tx}
use Rattle.explore_search.proofs.instances.add_calls_to.Goals as goal

pub add_call-requires-clause-room : goal.add_call-requires-clause-room
add_call-requires-clause-room c =
    let l = c.args.catalogue.now in
    omega (arith, few_so_far l c.args.tx.0 c.tasks.task c.rules.ensures.limits, ap length c.tasks.invariant.calls)

pub tasks-preserved : goal.tasks-preserved
tasks-preserved c =
    let l = c.args.catalogue.now in
    let k = c.args.tx.0 in
    let t = c.tasks.task in
    let inv = c.tasks.invariant in
    let items : Vec Call Global → List Call = λ v. v.items in
    elim c.if-task_tx-tx.branch [
      | then-task_tx-tx+in_ok-add_call w ↦
          let given = w.task_arguments.result.now in
          let own : ℕ → Call = λ n. record { tx = record { 0 = n }; arguments = given } in
          let stands = own_call l (record { 0 = t }) c.task_tx.result given c.task_tx.ensures.own w.task_arguments.ensures.value in
          let here : slice_get (calls l) t ≡ Some (own k) = stands ∙ ap (λ (n : ℕ). Some (own n)) w.if-task_tx-tx.true in
          record {
            calls = ap items w.calls-is ∙ added_to l k t (own k) c.tasks.calls.items w.add_call.new.calls.items here refl inv.calls w.in_ok-add_call.ensures.added;
            seen = w.seen-is ∙ (w.in_ok-add_call.ensures.seen ∙ ap (λ (v : Vec Call Global). index v.items) (sym w.calls-is));
          }
      | else-task_tx-tx w ↦
          let stands = own_call l (record { 0 = t }) c.task_tx.result (task_arguments l (record { 0 = t })) c.task_tx.ensures.own refl in
          record {
            calls = ap items w.calls-is ∙ (inv.calls ∙ passed_by l k t (record { tx = c.task_tx.result; arguments = task_arguments l (record { 0 = t }) }) stands w.if-task_tx-tx.false);
            seen = w.seen-is ∙ (inv.seen ∙ ap (λ (v : Vec Call Global). index v.items) (sym w.calls-is));
          }
    ]

pub returns-clause-so_far : goal.returns-clause-so_far
returns-clause-so_far c =
    let l = c.args.catalogue.now in
    let done : length (calls l) ≤ c.tasks.task = omega (arith, c.tasks-test.false, c.tasks-task-end.ensures.value, length-map (calls l) (λ (x : Call). x.tx)) in
    c.tasks.invariant.calls ∙ all_to l c.args.tx.0 c.tasks.task done
