use Rattle.std.proofs.Common.{◌≤◌, vec_capacity}
use Rattle.stm_store.specs.Tickets.{AreNumbers}
use Rattle.stm_store.proofs.tickets.Tickets.first.Given as goal

abbrev pub invariant-numbers : goal.invariant-numbers
invariant-numbers l = AreNumbers l.held.items l.i × (l.room ≤ vec_capacity l.held)
