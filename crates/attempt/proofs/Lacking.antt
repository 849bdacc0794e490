-- An attempt that stopped before its end: its program has an `orelse` or writes a cell, or there are more variables than a log has places for.
use Rattle.std.proofs.Common.{◌≡◌, ◌≢◌, ◌<◌, ◌≤◌, length, pos, refl, arith}
use Rattle.txn_programs.specs.declared.ast.VarId.{VarId}
use Rattle.txn_programs.specs.declared.ast.Outcome.{Outcome}
use Rattle.attempt_writes.specs.Order.{AllKnown, Apart}
use Rattle.attempt.specs.AttemptInside.{StandsAt}
use Rattle.attempt.specs.View.{AttemptView}
use Rattle.attempt.specs.declared.next.Stand.{Stand}
use Rattle.attempt.specs.declared.next.Stand.TheVariants as stand
use Rattle.attempt.proofs.Logs.{few_more}

-- it stands so, and where it waits for a variable the log is full
pub lacks_room : (b : AttemptView) (s : Stand) → StandsAt b s → s ≢ stand.Fresh → ((o : Outcome) → s ≢ stand.Over o) → s ≢ stand.Spent → ((x : VarId) → s ≡ stand.Needs x → x.0 < b.variables → 8 ≤ length b.log) → AllKnown b.variables b.log → Apart b.log → 8 < b.variables
lacks_room b stand.Fresh at fresh over spent full known apart = absurd (fresh refl)
lacks_room b (stand.Needs x) at fresh over spent full known apart =
    omega (arith, full x refl at.1, few_more b.variables b.log x (pos 0) apart known at.2 at.1)
lacks_room b (stand.Over o) at fresh over spent full known apart = absurd (over o refl)
lacks_room b stand.Spent at fresh over spent full known apart = absurd (spent refl)
