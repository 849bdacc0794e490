use Rattle.stm_c.proofs.Refused.{want_of_memory}
use Rattle.stm_c.proofs.exploring.found.Goals as goal

pub returns-clause-refused : goal.returns-clause-refused
returns-clause-refused c = want_of_memory c.args.file.now
