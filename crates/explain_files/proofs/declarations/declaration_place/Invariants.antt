use Rattle.std.proofs.Common.{◌-◌, length}
use Rattle.explain_files.specs.Declarations.{DoesNotDeclare}
use Rattle.explain_files.proofs.Judged.{Walked, nothing_seen}
use Rattle.explain_files.proofs.declarations.declaration_place.Given as goal

abbrev pub invariant-tokens : goal.invariant-tokens
invariant-tokens l = Walked (DoesNotDeclare l.form l.used l.name) l.form nothing_seen l.bytes l.at l.role tt

abbrev pub decreases-tokens : goal.decreases-tokens
decreases-tokens l = length l.bytes - l.at
