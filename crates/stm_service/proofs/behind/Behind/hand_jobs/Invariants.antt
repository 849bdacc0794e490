use Rattle.std.proofs.Common.{◌≡◌, length}
use Rattle.stm_service.proofs.behind.Behind.hand_jobs.Given as goal

abbrev pub invariant-loop : goal.invariant-loop
invariant-loop g l = (l.self.front ≡ l.initial.self.front) × (l.self.desk.work.store ≡ l.initial.self.desk.work.store) × (l.self.shelf.are_kept ≡ l.initial.self.shelf.are_kept)

abbrev pub decreases-loop : goal.decreases-loop
decreases-loop g l = length l.self.desk.work.due.items
