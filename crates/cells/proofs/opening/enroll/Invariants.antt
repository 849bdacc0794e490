use Rattle.std.proofs.Common.{◌≡◌, replicate}
use Rattle.cells.specs.Sight.{commit_of}
use Rattle.cells.specs.Passing.{new_pass}
use Rattle.cells.specs.Private.{IsSameSeat}
use Rattle.cells.proofs.opening.enroll.Given as goal

abbrev pub invariant-loop : goal.invariant-loop
invariant-loop l = IsSameSeat l.initial.seat l.seat × (l.seat.me.0 ≡ l.initial.seat.me.0) × (l.passes.items ≡ replicate l.counter (new_pass l.board.table (commit_of l.initial.seat.me.0).history))
