use Rattle.std.proofs.Common.{rules, ◌∙◌, ap}
use Rattle.txn_programs.specs.Tree.{Seq}
use Rattle.txn_programs.proofs.Rows.{statement_Seq}
use Rattle.example_bank.proofs.declaring.transfer.Goals as goal

pub returns-clause-body : goal.returns-clause-body
returns-clause-body c = statement_Seq c.in_ok-steps.steps ∙ search (rules, ap Seq c.in_ok-steps.ensures)
