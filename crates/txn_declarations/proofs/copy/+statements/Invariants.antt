use Rattle.std.proofs.Common.{◌≡◌, map, take}
use Rattle.txn_programs.specs.Tree.{statement_of}
use Rattle.txn_declarations.proofs.copy.+statements.Given as goal

abbrev pub invariant-statements-loop-part : goal.invariant-statements-loop-part
invariant-statements-loop-part l = map statement_of l.copies.items ≡ map statement_of (take l.part-index l.parts)
