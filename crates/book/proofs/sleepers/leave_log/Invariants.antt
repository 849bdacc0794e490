use Rattle.std.proofs.Common.{false}
use Rattle.book.proofs.Sleeping.{Flagging}
use Rattle.book.proofs.sleepers.leave_log.Given as goal

abbrev pub invariant-loop-pair : goal.invariant-loop-pair
invariant-loop-pair l = Flagging false l.log l.task l.initial.sleepers.items l.pair-index l.sleepers.items
