use Rattle.std.proofs.Common.{◌≡◌}
use Rattle.example_bank.specs.Rules.{conditions_in, floors}
use Rattle.example_bank.proofs.declaring.floors.Given as goal

abbrev pub invariant-accounts : goal.invariant-accounts
invariant-accounts l = conditions_in l.conditions.items ≡ floors l.i
