use Rattle.std.proofs.Common.{rules, []}
use Rattle.txn_tests.proofs.evaluate.runs_so.Goals as goal

pub execute-requires-clause-known : goal.execute-requires-clause-known
execute-requires-clause-known c = let known = c.tx.ensures.known [] in search (rules, known)
