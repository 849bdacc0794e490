use Rattle.explore_runner.proofs.Making.{end_has_report, listed_has_report}
use Rattle.explore_runner.proofs.laws.ends_have_reports.Goals as goal

pub returns-clause-ends : goal.returns-clause-ends
returns-clause-ends c p reached last = end_has_report c.args.catalogue.now p c.rules.ensures.names c.rules.ensures.limits c.rules.ensures.upheld reached last

pub returns-clause-listed : goal.returns-clause-listed
returns-clause-listed c f p found on = listed_has_report c.args.catalogue.now f p c.rules.ensures.names c.rules.ensures.limits c.rules.ensures.upheld found on
