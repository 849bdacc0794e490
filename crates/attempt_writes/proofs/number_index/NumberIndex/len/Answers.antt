use Rattle.std.proofs.Common.{arith}
use Rattle.attempt_writes.proofs.Indexed.{few_distinct}
use Rattle.attempt_writes.proofs.number_index.NumberIndex.len.Goals as goal

pub returns-clause-few : goal.returns-clause-few
returns-clause-few c =
    let few = few_distinct 1048832 c.self.inside.numbers.items c.self.invariant.distinct c.self.invariant.known in
    omega (arith, few, c.len.ensures.value)
