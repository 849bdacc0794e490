use Rattle.std.proofs.Common.{◌≡◌, [], ◌∷◌, List, ℤ, length, ap, arith}
use Rattle.txn_programs.specs.declared.arguments.Call.{Call}
use Rattle.explore_search.specs.Instancing.{key}
use Rattle.explore_search.specs.Shelf.{config}
use Rattle.explore_search.proofs.Instancing.{low_number, never_missing, own_call, told_number}
use Rattle.explore_search.proofs.instances.instance_of.Goals as goal

pub overflow_cast-result : goal.overflow_cast-result
overflow_cast-result c = omega (arith, low_number c.args.catalogue.now c.args.seen.now c.in-Some.number c.rules.ensures.limits c.requires.seen c.in-Some.ensures.low)

pub unreachable-requires : goal.unreachable-requires
unreachable-requires c =
    let l = c.args.catalogue.now in
    let given = c.task_arguments-arguments.result.now in
    let tx = c.task_tx-tx.result in
    let task : Call = record { tx = tx; arguments = given } in
    let q = config c.padded-values.result (tx.0 ∷ length given ∷ []) in
    let same : q ≡ key task = ap (λ (values : List ℤ). config values (tx.0 ∷ length given ∷ [])) c.padded-values.ensures in
    never_missing l c.args.seen.now c.args.task.0 task q c.rules.ensures.names c.requires.seen (own_call l c.args.task tx given c.task_tx-tx.ensures.own c.task_arguments-arguments.ensures.value) same
    c.in-None.ensures.none

pub returns : goal.returns
returns c =
    let l = c.args.catalogue.now in
    let given = c.task_arguments-arguments.result.now in
    let tx = c.task_tx-tx.result in
    let task : Call = record { tx = tx; arguments = given } in
    let q = config c.padded-values.result (tx.0 ∷ length given ∷ []) in
    let same : q ≡ key task = ap (λ (values : List ℤ). config values (tx.0 ∷ length given ∷ [])) c.padded-values.ensures in
    told_number l c.args.seen.now c.args.task.0 c.in-Some.number task q c.requires.seen (own_call l c.args.task tx given c.task_tx-tx.ensures.own c.task_arguments-arguments.ensures.value) same
    c.in-Some.ensures.low c.in-Some.ensures.found
