use Rattle.explore_runner.proofs.Whole.{way_leads}
use Rattle.explore_runner.proofs.laws.ways_lead_to_ends.Goals as goal

pub returns : goal.returns
returns c f k turns found way = way_leads c.args.catalogue.now f k turns found way
