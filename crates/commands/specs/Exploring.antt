-- What exploring a file leaves.
use Rattle.std.specs.Prelude.{◌⊎◌, ℕ, List, Option, Result, Ok, Err}
use Rattle.std.specs.declared.alloc.Global.{Global}
use Rattle.std.specs.declared.string.String.{String}
use Rattle.run_interface.specs.declared.denial.Denials.{Denials}
use Rattle.explore_runner.specs.Judging.{Judges}
use Rattle.explore_runner.specs.Witness.{Answered}
use Rattle.explore_runner.specs.declared.sight.Judged.{Judged}
use Rattle.explore_runner.specs.declared.sight.Judged.TheVariants as judged
use Rattle.explore_runner.specs.declared.sight.Witnessed.{Witnessed}
use Rattle.explore_runner.specs.declared.sight.Witnessed.TheVariants.{Report, NoEnd, Beyond}
use Rattle.commands.specs.Files.{AfterReading, file_limit}
use Rattle.run_interface.specs.declared.fault.RunFault.{RunFault}
use Rattle.command_line.specs.declared.answer.Answer.{Answer}
use Rattle.command_line.specs.declared.answer.Answer.TheVariants.{Done, Unlawful, Refused, Unreadable, Failed, Earlier}

-- the answers of exploring bytes
abbrev pub seen : Judged → Result Judged RunFault
seen j = Ok j

abbrev pub unseen : RunFault → Result Judged RunFault
unseen fault = Err fault

-- by the answer: what exploring these bytes leaves that ends so
abbrev pub ExploredBytes : ℕ → Denials → List ℕ → Option (List ℕ) → Option (List ℕ) → Answer → Type 0
ExploredBytes limit ds file old new Done = Judges file limit ds old new (seen judged.Clear)
-- more states are reached, or some order comes to what is denied
ExploredBytes limit ds file old new Unlawful = Judges file limit ds old new (seen judged.More) ⊎ ((line : String Global) × Judges file limit ds old new (seen (judged.Denied line)))
ExploredBytes limit ds file old new Refused = ⊥
ExploredBytes limit ds file old new (Unreadable source) = ⊥
ExploredBytes limit ds file old new (Failed fault) = Judges file limit ds old new (unseen fault)
ExploredBytes limit ds file old new (Earlier kind) = ⊥

-- of a file of which it is known that it has these bytes, if anything is
abbrev pub ExploredFile : Option (List ℕ) → ℕ → Denials → Option (List ℕ) → Option (List ℕ) → Answer → Type 0
ExploredFile known limit ds old new a = AfterReading file_limit known (λ file. ExploredBytes limit ds file old new a) old new a

-- the answers of asking for a report that comes to an end
abbrev pub answered : Witnessed → Result Witnessed RunFault
answered answer = Ok answer

abbrev pub unanswered : RunFault → Result Witnessed RunFault
unanswered fault = Err fault

-- by the answer: what asking these bytes for a report leaves that ends so
abbrev pub WitnessedBytes : ℕ → ℕ → List ℕ → Option (List ℕ) → Option (List ℕ) → Answer → Type 0
WitnessedBytes limit end file old new Done = Answered file limit end old new (answered Report)
WitnessedBytes limit end file old new Unlawful = Answered file limit end old new (answered Beyond)
-- there is no end of that number
WitnessedBytes limit end file old new Refused = Answered file limit end old new (answered NoEnd)
WitnessedBytes limit end file old new (Unreadable source) = ⊥
WitnessedBytes limit end file old new (Failed fault) = Answered file limit end old new (unanswered fault)
WitnessedBytes limit end file old new (Earlier kind) = ⊥

abbrev pub WitnessedFile : Option (List ℕ) → ℕ → ℕ → Option (List ℕ) → Option (List ℕ) → Answer → Type 0
WitnessedFile known limit end old new a = AfterReading file_limit known (λ file. WitnessedBytes limit end file old new a) old new a
