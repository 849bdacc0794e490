use Rattle.std.proofs.Common.{sym}
use Rattle.std.specs.Fmt.{signed_decimal}
use Rattle.explore_runner.proofs.Worded.{behind_not, valued_known, valued_unknown}
use Rattle.explore_runner.proofs.outcomes.valued.Goals as goal

pub returns-in-Some-clause-known : goal.returns-in-Some-clause-known
returns-in-Some-clause-known c =
    valued_known c.args.word.now c.args.text.now c.in-Some.value.now c.value_in.result (sym c.in-Some.ensures) c.value_in.ensures.known

pub returns-in-Some-clause-unknown : goal.returns-in-Some-clause-unknown
returns-in-Some-clause-unknown c =
    valued_unknown c.args.word.now c.args.text.now c.in-Some.value.now c.value_in.result (sym c.in-Some.ensures) c.value_in.ensures.unknown

pub returns-in-None-clause-unknown : goal.returns-in-None-clause-unknown
returns-in-None-clause-unknown c = λ v low. behind_not c.args.word.now c.args.text.now (signed_decimal v) c.requires (sym c.in-None.ensures)
