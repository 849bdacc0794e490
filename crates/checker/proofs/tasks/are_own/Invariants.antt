use Rattle.std.proofs.Common.{take}
use Rattle.std.specs.List.{All}
use Rattle.txn_programs.specs.LawfulReport.{HasOwn}
use Rattle.checker.proofs.tasks.are_own.Given as goal

abbrev pub invariant-lines : goal.invariant-lines
invariant-lines l = All (λ p. HasOwn l.catalogue p.0 p.1) (take l.task-index l.lines)
