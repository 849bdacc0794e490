-- An attempt of which the log alone is kept.
use Rattle.std.specs.Prelude.{ℕ, []}
use Rattle.txn_programs.specs.Tree.{Program}
use Rattle.attempt.specs.Asking.{Known}
use Rattle.attempt.specs.View.{AttemptView}
use Rattle.attempt.specs.declared.next.Stand.TheVariants as stand

-- it has this log, and goes on no more: it is spent
abbrev pub log_alone : Program → ℕ → Known → AttemptView
log_alone program variables log =
    record { program = program; variables = variables; log = log; writes = []; stand = stand.Spent; steps = 0; total = 0 }

-- with its log alone
abbrev pub shortened : AttemptView → AttemptView
shortened a = log_alone a.program a.variables a.log
