use Rattle.checker.proofs.Chaptered.{begins_as_told}
use Rattle.checker.proofs.laws.chapters_begin_as_told.Goals as goal

pub returns : goal.returns
returns c l r next = begins_as_told l r next
