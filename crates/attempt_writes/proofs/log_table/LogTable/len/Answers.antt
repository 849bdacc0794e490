use Rattle.attempt_writes.proofs.LogKept.{few_in}
use Rattle.attempt_writes.proofs.log_table.LogTable.len.Goals as goal

pub returns-clause-few : goal.returns-clause-few
returns-clause-few c = few_in c.self.inside c.self.invariant
