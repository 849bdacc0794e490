use Rattle.std.proofs.Common.{◌-◌, length}
use Rattle.explain_files.specs.Judging.{IsRight, names_in, name_fault_at}
use Rattle.explain_files.specs.Declaring.{view_declared}
use Rattle.explain_files.proofs.Judged.{Walked}
use Rattle.explain_files.proofs.names.first_wrong.Given as goal

abbrev pub invariant-tokens : goal.invariant-tokens
invariant-tokens l = Walked (IsRight (name_fault_at l.form)) l.form (names_in l.form) l.bytes l.at l.role (view_declared l.declared)

abbrev pub decreases-tokens : goal.decreases-tokens
decreases-tokens l = length l.bytes - l.at
