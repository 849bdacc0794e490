use Rattle.std.proofs.Common.{◌↔◌, drop, map}
use Rattle.checker.proofs.Lists.{Climbs}
use Rattle.checker.proofs.tasks.ascend.Given as goal

abbrev pub invariant-lines : goal.invariant-lines
invariant-lines l = Climbs l.least (map (λ p. p.0.0) (drop l.task-index l.lines)) ↔ Climbs 0 (map (λ p. p.0.0) l.lines)
