-- What an error of reading is answered with.
use Rattle.std.specs.Prelude.{◌≡◌, ◌≢◌, ◌⊎◌}
use Rattle.run_interface.specs.declared.fault.RunFault.TheVariants.{Memory}
use Rattle.std.specs.declared.io.ErrorKind.{ErrorKind}
use Rattle.std.specs.declared.io.ErrorKind.TheVariants.{OutOfMemory}
use Rattle.command_line.specs.declared.answer.Source.{Source}
use Rattle.command_line.specs.declared.answer.Answer.{Answer}
use Rattle.command_line.specs.declared.answer.Answer.TheVariants.{Refused, Unreadable, Failed}

-- by the kind of the error: why this file was not read
abbrev pub Unread : Source → ErrorKind → Answer → Type 0
Unread source kind a =
    ((kind ≡ OutOfMemory) × (a ≡ Failed Memory))
    ⊎ ((kind ≢ OutOfMemory) × (a ≡ Unreadable source))

-- by the kind of the error: why there are no words
abbrev pub Wordless : ErrorKind → Answer → Type 0
Wordless kind a =
    ((kind ≡ OutOfMemory) × (a ≡ Failed Memory))
    ⊎ ((kind ≢ OutOfMemory) × (a ≡ Refused))
