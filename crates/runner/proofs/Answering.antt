-- What a run of a file leaves, by what was written of its report.
use Rattle.std.proofs.Common.{ℕ, List, Option, Result, Ok, Err}
use Rattle.run_interface.specs.declared.fault.RunFault.{RunFault}
use Rattle.run_interface.specs.declared.fault.RunFault.TheVariants.{Input, Memory, Output, Schedule}
use Rattle.runner.specs.Running.{IsReportInOrder, Ran, Wrote}

pub ran_of : {U : Type 0} (every : ℕ) (seed : Option ℕ) (file text : List ℕ) (old new : Option (List ℕ)) (result : Result U RunFault) → IsReportInOrder every seed file text → Wrote text old new result → Ran every seed file old new result
ran_of every seed file text old new (Ok u) report h = record { text = text; report = report; written = h }
ran_of every seed file text old new (Err (Input kind)) report h = absurd h
ran_of every seed file text old new (Err Memory) report h = h
ran_of every seed file text old new (Err Output) report h = record { text = text; report = report; count = h.0; written = h.1 }
ran_of every seed file text old new (Err (Schedule kind)) report h = absurd h
