use Rattle.std.proofs.Common.{◌≡◌, ◌↔◌, drop}
use Rattle.txn_programs.specs.Tree.{statements_of_list}
use Rattle.txn_declarations.proofs.same.+same.Given as goal

-- the lists are equal where what is left of them is
abbrev pub invariant-same_statements-loop-part : goal.invariant-same_statements-loop-part
invariant-same_statements-loop-part l = (statements_of_list (drop l.part-index l.parts) ≡ statements_of_list l.rest) ↔ (statements_of_list l.parts ≡ statements_of_list l.others)
