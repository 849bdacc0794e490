use Rattle.std.proofs.Common.{sym, subst}
use Rattle.std.specs.Prelude.{IfOk}
use Rattle.std.specs.List.{Contains}
use Rattle.explore_law.specs.Orders.{Config}
use Rattle.explore_law.specs.Explored.{end_config}
use Rattle.explore_search.proofs.Calls.{callable_by}
use Rattle.explore_search.specs.Graphing.{TurnOrNone, configs}
use Rattle.explore_search.proofs.graph.turn_of.Goals as goal

pub new-attempt-requires : goal.new-attempt-requires
new-attempt-requires c =
    callable_by c.args.catalogue.now c.args.calls.now c.args.instance.0 c.index-calls-instance.result c.as_slice.result.now c.rules.ensures.names c.requires.calls c.requires.known
    c.index-calls-instance.is c.as_slice.ensures.value

pub turn_by-requires-clause-listed : goal.turn_by-requires-clause-listed
turn_by-requires-clause-listed c = subst (Contains (configs c.args.states.now)) (sym c.in_ok-next.ensures) c.requires.listed

pub returns : goal.returns
returns c =
    let l = c.args.catalogue.now in
    subst (λ (p : Config). IfOk c.turn_by.result (TurnOrNone l (configs c.args.states.now) p c.args.instance)) c.in_ok-next.ensures c.turn_by.ensures
