use Rattle.explain_files.proofs.Keys.{not_added}
use Rattle.explain_files.proofs.names.is_again.Goals as goal

pub returns-in-Ok-clause-again : goal.returns-in-Ok-clause-again
returns-in-Ok-clause-again c = not_added c.args.name.now c.args.names.now.keys c.in-Ok.added c.in-Ok.ensures.added
