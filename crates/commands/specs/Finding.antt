-- What looking for a turn leaves.
use Rattle.std.specs.Prelude.{◌≡◌, ◌⊎◌, ℕ, List, Option, Result, Ok, Err}
use Rattle.std.specs.Io.KnownBytes.{Keeps}
use Rattle.explore_runner.specs.Finding.{Finds}
use Rattle.explore_runner.specs.Wording.{IsNoOutcome, outcome_words}
use Rattle.explore_runner.specs.declared.outcomes.OutcomeWords.{OutcomeWords}
use Rattle.explore_runner.specs.declared.finding.Sighted.{Sighted}
use Rattle.explore_runner.specs.declared.finding.Sighted.TheVariants.{Report, Never, NoTransaction, NoCondition, Beyond}
use Rattle.commands.specs.Files.{AfterReading, file_limit}
use Rattle.run_interface.specs.declared.fault.RunFault.{RunFault}
use Rattle.command_line.specs.declared.answer.Answer.{Answer}
use Rattle.command_line.specs.declared.answer.Answer.TheVariants.{Done, Unlawful, Refused, Unreadable, Failed, Earlier}

-- the answers of looking in bytes
abbrev pub sighted : Sighted → Result Sighted RunFault
sighted answer = Ok answer

abbrev pub unsighted : RunFault → Result Sighted RunFault
unsighted fault = Err fault

-- by the answer: what looking in these bytes leaves that ends so
abbrev pub FoundBytes : ℕ → List ℕ → OutcomeWords → List ℕ → Option (List ℕ) → Option (List ℕ) → Answer → Type 0
FoundBytes limit name o file old new Done = Finds file limit name o old new (sighted Report)
-- no order comes to it, or more states are reached
FoundBytes limit name o file old new Unlawful = Finds file limit name o old new (sighted Never) ⊎ Finds file limit name o old new (sighted Beyond)
-- the file has no transaction or no condition of that name
FoundBytes limit name o file old new Refused = Finds file limit name o old new (sighted NoTransaction) ⊎ Finds file limit name o old new (sighted NoCondition)
FoundBytes limit name o file old new (Unreadable source) = ⊥
FoundBytes limit name o file old new (Failed fault) = Finds file limit name o old new (unsighted fault)
FoundBytes limit name o file old new (Earlier kind) = ⊥

abbrev pub FoundFile : Option (List ℕ) → ℕ → List ℕ → OutcomeWords → Option (List ℕ) → Option (List ℕ) → Answer → Type 0
FoundFile known limit name o old new a = AfterReading file_limit known (λ file. FoundBytes limit name o file old new a) old new a

-- the words say no outcome, and nothing was written; or they say one, and this is so of it
abbrev pub AfterWords : List ℕ → (OutcomeWords → Type 0) → Option (List ℕ) → Option (List ℕ) → Answer → Type 0
AfterWords text Left old new a = (IsNoOutcome text × (a ≡ Refused) × Keeps old new) ⊎ ((o : OutcomeWords) × (text ≡ outcome_words o) × Left o)
