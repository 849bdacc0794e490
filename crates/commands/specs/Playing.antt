-- What playing the schedule of a file leaves.
use Rattle.std.specs.Prelude.{ℕ, List, Option}
use Rattle.world_runner.specs.Showing.{Showed}
use Rattle.commands.specs.Files.{AfterReadingSchedule, done, ended}
use Rattle.command_line.specs.declared.answer.Answer.{Answer}
use Rattle.command_line.specs.declared.answer.Answer.TheVariants.{Done, Unlawful, Refused, Unreadable, Failed, Earlier}

-- by the answer: what playing this schedule of this file leaves that ends so
abbrev pub Played : List ℕ → List ℕ → Option (List ℕ) → Option (List ℕ) → Answer → Type 0
Played file schedule old new Done = Showed file schedule old new done
Played file schedule old new Unlawful = ⊥
Played file schedule old new Refused = ⊥
Played file schedule old new (Unreadable source) = ⊥
Played file schedule old new (Failed fault) = Showed file schedule old new (ended fault)
Played file schedule old new (Earlier kind) = ⊥

-- of which it is known that they have these bytes, if anything is
abbrev pub PlayedFiles : Option (List ℕ) → Option (List ℕ) → Option (List ℕ) → Option (List ℕ) → Answer → Type 0
PlayedFiles file schedule old new a = AfterReadingSchedule file schedule (λ f s. Played f s old new a) old new a
