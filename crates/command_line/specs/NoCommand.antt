-- How a process without a command ends.
use Rattle.run_interface.specs.declared.fault.RunFault.TheVariants.{Input, Memory, Output, Schedule}
use Rattle.command_line.specs.declared.answer.Answer.{Answer}
use Rattle.command_line.specs.declared.answer.Answer.TheVariants.{Done, Unlawful, Refused, Unreadable, Failed, Earlier}

-- help or the version was shown, or could not be; or the words are refused; or there was no memory. No file was looked at
abbrev pub IsNoCommand : Answer → Type 0
IsNoCommand Done = Unit {0}
IsNoCommand Unlawful = ⊥
IsNoCommand Refused = Unit {0}
IsNoCommand (Unreadable source) = ⊥
IsNoCommand (Failed (Input kind)) = ⊥
IsNoCommand (Failed Memory) = Unit {0}
IsNoCommand (Failed Output) = Unit {0}
IsNoCommand (Failed (Schedule kind)) = ⊥
IsNoCommand (Earlier kind) = ⊥
