use Rattle.checker.proofs.Chaptered.{grown_goes_on}
use Rattle.checker.proofs.laws.grown_chapters_go_on.Goals as goal

pub returns : goal.returns
returns c l r next more g = grown_goes_on l r next more g
