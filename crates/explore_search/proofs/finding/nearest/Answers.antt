use Rattle.explore_search.proofs.Calls.{first_callable}
use Rattle.explore_search.proofs.finding.nearest.Goals as goal

pub new-attempt-requires : goal.new-attempt-requires
new-attempt-requires c =
    first_callable c.args.catalogue.now c.args.calls.now c.in-Some.first.now c.as_slice.result.now c.rules.ensures.names c.requires.calls c.in-Some.ensures.value c.as_slice.ensures.value
