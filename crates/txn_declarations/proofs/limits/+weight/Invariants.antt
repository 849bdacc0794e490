use Rattle.std.proofs.Common.{◌≡◌, ◌↔◌, ◌+◌, ◌≤◌, drop}
use Rattle.txn_programs.specs.Tree.{statements_of_list}
use Rattle.txn_programs.specs.Cost.{statements_cost}
use Rattle.txn_programs.specs.Limits.{capped, highest_cost, StatementsFit}
use Rattle.txn_declarations.proofs.limits.+weight.Given as goal

abbrev pub invariant-statements_weight-loop-part : goal.invariant-statements_weight-loop-part
invariant-statements_weight-loop-part l = record {
  cost : capped (l.total + statements_cost (statements_of_list (drop l.part-index l.parts))) ≡ capped (statements_cost (statements_of_list l.parts));
  fits : StatementsFit l.depth (statements_of_list (drop l.part-index l.parts)) ↔ StatementsFit l.depth (statements_of_list l.parts);
  small : l.total ≤ highest_cost + 1;
}
