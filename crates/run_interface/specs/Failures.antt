-- How many calls of a sink fail, by what came of what writes to it.
use Rattle.std.specs.Prelude.{ℕ, Result, Ok, Err}
use Rattle.run_interface.specs.declared.fault.RunFault.{RunFault}
use Rattle.run_interface.specs.declared.fault.RunFault.TheVariants.{Input, Memory, Output, Schedule}

-- one, exactly where it answers `Output`
abbrev pub output_failures : {U : Type 0} → Result U RunFault → ℕ
output_failures (Ok u) = 0
output_failures (Err (Input kind)) = 0
output_failures (Err Memory) = 0
output_failures (Err Output) = 1
output_failures (Err (Schedule kind)) = 0
