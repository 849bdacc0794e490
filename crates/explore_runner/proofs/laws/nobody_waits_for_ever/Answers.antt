use Rattle.explore_runner.proofs.Whole.{whole_nobody}
use Rattle.explore_runner.proofs.laws.nobody_waits_for_ever.Goals as goal

pub returns : goal.returns
returns c f r found nobody h = whole_nobody c.args.catalogue.now f r c.rules.ensures.names found nobody h
