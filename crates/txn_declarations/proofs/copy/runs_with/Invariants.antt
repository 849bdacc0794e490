use Rattle.std.proofs.Common.{◌≡◌, ◌++◌, map, take}
use Rattle.txn_declarations.proofs.copy.runs_with.Given as goal

abbrev pub invariant-loop-call : goal.invariant-loop-call
invariant-loop-call l = l.all.items ≡ l.runs ++ map (λ c. (c, 1)) (take l.call-index l.more)
