use Rattle.std.proofs.Common.{string_bytes}
use Rattle.explore_runner.proofs.Denying.{judged_is}
use Rattle.explore_runner.proofs.judge.judged_of.Goals as goal

pub returns-in-Ok-judged_found-clause-judged : goal.returns-in-Ok-judged_found-clause-judged
returns-in-Ok-judged_found-clause-judged c file spelled =
    judged_is c.args.catalogue.now c.in-Ok.found c.args.limit c.args.denied file spelled c.in-Ok.ensures.explored
    c.in-Ok-judged_found.judged (string_bytes c.in-Ok-judged_found.text) c.in-Ok-judged_found.ensures.text c.in-Ok-judged_found.ensures.said
