use Rattle.explore_search.proofs.Calls.{read_callable}
use Rattle.explore_search.proofs.finding.shows_by.Goals as goal

pub outcome_on-requires-clause-known : goal.outcome_on-requires-clause-known
outcome_on-requires-clause-known c = read_callable c.args.catalogue.now c.args.calls.now c.args.k.0 c.index-calls-k.result c.rules.ensures.names c.requires.calls c.requires.known c.index-calls-k.is
