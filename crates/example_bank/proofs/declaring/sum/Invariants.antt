use Rattle.std.proofs.Common.{◌≡◌}
use Rattle.txn_programs.specs.Tree.{expression_of}
use Rattle.example_bank.specs.Rules.{sum_to}
use Rattle.example_bank.proofs.declaring.sum.Given as goal

abbrev pub invariant-accounts : goal.invariant-accounts
invariant-accounts l = expression_of l.sum ≡ sum_to l.i
