use Rattle.std.proofs.Common.{◌≤◌, ℕ, sym, subst}
use Rattle.command_line.proofs.Statuses.{few}
use Rattle.commands.proofs.program.run_by.Goals as goal

pub returns : goal.returns
returns g c = subst (λ (n : ℕ). n ≤ 5) (sym c.told.ensures) (few c.answer.result)
