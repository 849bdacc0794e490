-- Statuses are few.
use Rattle.std.proofs.Common.{◌≤◌, arith}
use Rattle.run_interface.specs.declared.fault.RunFault.{RunFault}
use Rattle.run_interface.specs.declared.fault.RunFault.TheVariants.{Input, Memory, Output, Schedule}
use Rattle.run_interface.specs.Statuses.{status_of}
use Rattle.command_line.specs.declared.answer.Answer.{Answer}
use Rattle.command_line.specs.declared.answer.Answer.TheVariants.{Done, Unlawful, Refused, Unreadable, Failed, Earlier}
use Rattle.command_line.specs.Statuses.{exit_status}

of_faults : (f : RunFault) → status_of f ≤ 5
of_faults (Input kind) = omega (arith)
of_faults Output = omega (arith)
of_faults Memory = omega (arith)
of_faults (Schedule kind) = omega (arith)

pub few : (a : Answer) → exit_status a ≤ 5
few Done = omega (arith)
few Unlawful = omega (arith)
few Refused = omega (arith)
few (Unreadable source) = omega (arith)
few (Failed fault) = of_faults fault
few (Earlier kind) = omega (arith)
