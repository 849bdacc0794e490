use Rattle.checker.proofs.Chaptered.{next_goes_on}
use Rattle.checker.proofs.laws.next_chapters_go_on.Goals as goal

pub returns : goal.returns
returns c l r = next_goes_on l r
