use Rattle.std.proofs.Common.{rules, []}
use Rattle.txn_tests.proofs.evaluate.goes_back.Goals as goal

pub execute_noting-ended-requires-clause-known : goal.execute_noting-ended-requires-clause-known
execute_noting-ended-requires-clause-known c = let known = c.tx.ensures.known [] in search (rules, known)
