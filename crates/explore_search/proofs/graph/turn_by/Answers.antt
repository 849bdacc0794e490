use Rattle.std.proofs.Common.{length, ap, subst, arith}
use Rattle.explore_law.specs.Orders.{Config}
use Rattle.explore_law.specs.Explored.{end_config}
use Rattle.explore_search.specs.Graphing.{configs}
use Rattle.explore_search.specs.Shelf.{config}
use Rattle.explore_search.specs.Turns.{TurnsTo, Turns}
use Rattle.explore_search.proofs.Graphing.{turn_made, leads_listed, no_turn}
use Rattle.explore_search.proofs.graph.turn_by.Goals as goal

pub take_turn-requires-clause-values : goal.take_turn-requires-clause-values
take_turn-requires-clause-values c =
    let sizes = c.requires.sized (end_config c.args.here.now) c.requires.listed in
    sizes.0

pub take_turn-requires-clause-left : goal.take_turn-requires-clause-left
take_turn-requires-clause-left c =
    let sizes = c.requires.sized (end_config c.args.here.now) c.requires.listed in
    omega (arith, sizes.1, ap length c.requires.calls)

pub returns-in_default : goal.returns-in_default
returns-in_default c =
    let l = c.args.catalogue.now in
    let p = end_config c.args.here.now in
    let q = config c.take_turn.new.values.items c.take_turn.new.left.items in
    let turn = c.in_ok-turn.ensures.turn in
    no_turn l (configs c.args.states.now) p q c.args.instance c.in_ok-turn.turn turn c.in_default.not-Some

pub number_in-to-requires-clause-listed : goal.number_in-to-requires-clause-listed
number_in-to-requires-clause-listed c =
    let l = c.args.catalogue.now in
    let p = end_config c.args.here.now in
    let q = config c.take_turn.new.values.items c.take_turn.new.left.items in
    let turn = c.in_ok-turn.ensures.turn in
    let to : TurnsTo l p c.args.instance q c.in-Some.outcome = subst (Turns l p c.args.instance q) c.in-Some.is turn in
    leads_listed l (configs c.args.states.now) p q c.args.instance c.in-Some.outcome c.requires.reached c.requires.listed to

pub returns : goal.returns
returns c =
    let l = c.args.catalogue.now in
    let p = end_config c.args.here.now in
    let q = config c.take_turn.new.values.items c.take_turn.new.left.items in
    let turn = c.in_ok-turn.ensures.turn in
    let to : TurnsTo l p c.args.instance q c.in-Some.outcome = subst (Turns l p c.args.instance q) c.in-Some.is turn in
    turn_made l (configs c.args.states.now) p q c.args.instance c.in-Some.outcome c.number_in-to.result to c.number_in-to.ensures
