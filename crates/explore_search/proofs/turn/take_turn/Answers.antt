use Rattle.explore_search.proofs.Calls.{read_callable}
use Rattle.explore_search.proofs.turn.take_turn.Goals as goal

pub run_on-requires-clause-known : goal.run_on-requires-clause-known
run_on-requires-clause-known c = read_callable c.args.catalogue.now c.args.calls.now c.args.k.0 c.index-calls-k.result c.rules.ensures.names c.requires.calls c.requires.known c.index-calls-k.is
