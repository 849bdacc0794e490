use Rattle.std.proofs.Common.{◌≡◌, drop, map}
use Rattle.txn_programs.specs.Listing.{spans_from, table_of}
use Rattle.txn_programs.specs.Tree.{statements_of_list}
use Rattle.txn_programs.specs.Names.{knows_statements}
use Rattle.txn_declarations.proofs.names.+known.Given as goal

abbrev pub invariant-statements_known-loop-part : goal.invariant-statements_known-loop-part
invariant-statements_known-loop-part l = knows_statements l.variables (spans_from l.variables (map table_of l.tables)) l.params (statements_of_list (drop l.part-index l.parts)) ≡ knows_statements l.variables (spans_from l.variables (map table_of l.tables)) l.params (statements_of_list l.parts)
