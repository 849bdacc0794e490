use Rattle.std.proofs.Common.{◌≤◌, ◌-◌, length}
use Rattle.explain_files.proofs.Walked.{Reached}
use Rattle.explain_files.proofs.walk.first_stop.Given as goal

abbrev pub invariant-tokens : goal.invariant-tokens
invariant-tokens l = record { bound : l.at ≤ length l.bytes; reached : Reached l.bytes l.at l.stack.items }

abbrev pub decreases-tokens : goal.decreases-tokens
decreases-tokens l = length l.bytes - l.at
