use Rattle.checker.proofs.Only.{one}
use Rattle.checker.proofs.laws.one_verdict.Goals as goal

pub returns : goal.returns
returns c l r v w a b = one l r v w a b
