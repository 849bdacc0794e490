use Rattle.std.proofs.Common.{rules, ◌≡◌, true}
use Rattle.explain_schedules.specs.Words.{lacks}
use Rattle.explain_schedules.proofs.Lines.{word_stops}
use Rattle.explain_schedules.proofs.line.of_variable.Goals as goal

pub returns-in-None-clause-stop : goal.returns-in-None-clause-stop
returns-in-None-clause-stop c =
    let l : lacks 32 c.args.rest.now ≡ true = search rules in
    word_stops c.args.cells c.args.verb.now c.args.rest.now c.requires.spaceless c.requires.verb c.requires.other l
