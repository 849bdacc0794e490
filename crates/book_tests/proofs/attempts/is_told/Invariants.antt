use Rattle.std.proofs.Common.{◌≡◌}
use Rattle.book_tests.proofs.attempts.is_told.Given as goal

abbrev pub invariant-loop-variable : goal.invariant-loop-variable
invariant-loop-variable l = (l.attempt.program ≡ l.initial.attempt.program) × (l.attempt.variables ≡ l.initial.attempt.variables)
