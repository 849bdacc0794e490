use Rattle.explore_runner.proofs.Whole.{whole_reached, whole_ends, whole_listed}
use Rattle.explore_runner.proofs.laws.reports_come_to_ends.Goals as goal

pub returns-clause-reached : goal.returns-clause-reached
returns-clause-reached c r h = whole_reached c.args.catalogue.now r c.rules.ensures.names h

pub returns-clause-ends : goal.returns-clause-ends
returns-clause-ends c r h = whole_ends c.args.catalogue.now r c.rules.ensures.names h

pub returns-clause-listed : goal.returns-clause-listed
returns-clause-listed c f r found h = whole_listed c.args.catalogue.now f r c.rules.ensures.names found h
