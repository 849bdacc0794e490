use Rattle.std.proofs.Common.{◌≡◌}
use Rattle.stm_service.proofs.front.Front.add.Given as goal

abbrev pub invariant-loop : goal.invariant-loop
invariant-loop g l = l.self ≡ l.initial.self
