use Rattle.std.proofs.Common.{sym, refl, codes}
use Rattle.explore_runner.proofs.Worded.{behind_not, named_known, named_unknown}
use Rattle.explore_runner.proofs.outcomes.condition.Goals as goal

pub returns-in-Some-clause-known : goal.returns-in-Some-clause-known
returns-in-Some-clause-known c =
    named_known (λ n. n.now) (codes "broke") c.args.text.now c.in-Some.name.now c.name_in.result (sym c.in-Some.ensures) c.name_in.ensures.known

pub returns-in-Some-clause-unknown : goal.returns-in-Some-clause-unknown
returns-in-Some-clause-unknown c =
    named_unknown (λ n. n.now) (codes "broke") c.args.text.now c.in-Some.name.now c.name_in.result (sym c.in-Some.ensures) c.name_in.ensures.unknown

pub returns-in-None-clause-unknown : goal.returns-in-None-clause-unknown
returns-in-None-clause-unknown c = λ name good. behind_not (codes "broke") c.args.text.now name refl (sym c.in-None.ensures)
