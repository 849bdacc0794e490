use Rattle.std.proofs.Common.{◌≡◌}
use Rattle.stm_service.proofs.service.Service.wait_within.Given as goal

abbrev pub invariant-loop : goal.invariant-loop
invariant-loop g l = l.front ≡ l.initial.front
