-- What exploring the bytes of a file leaves, where something is denied.
use Rattle.std.specs.Prelude.{◌≡◌, ℕ, List, string_bytes, take, Option, Some, Result, Ok, Err}
use Rattle.std.specs.Io.KnownBytes.{Appends, Keeps}
use Rattle.txn_programs.specs.Listing.{Listing}
use Rattle.txn_text.specs.Spelling.{first_fault}
use Rattle.run_interface.specs.declared.fault.RunFault.{RunFault}
use Rattle.run_interface.specs.declared.fault.RunFault.TheVariants.{Input, Memory, Output, Schedule}
use Rattle.run_interface.specs.declared.denial.Denials.{Denials}
use Rattle.explore_law.specs.declared.found.Found.{Found}
use Rattle.explore_runner.specs.Denying.{NothingDenied, IsFirst, denied_line}
use Rattle.explore_runner.specs.Showing.{IsFoundText, IsMoreText}
use Rattle.explore_runner.specs.declared.denied.Offence.{Offence}
use Rattle.explore_runner.specs.declared.sight.Judged.{Judged}
use Rattle.explore_runner.specs.declared.sight.Judged.TheVariants.{Clear, Denied, More}

-- the line says what is denied of the file that some order comes to, and of that the first
pub record Says (l : Listing) (f : Found) (ds : Denials) (line : List ℕ) : Type 0 where
  pub offence : Offence
  pub first : IsFirst l f ds offence
  pub said : line ≡ denied_line l offence

-- what is said of what is found: nothing of more configurations
abbrev pub IsSaid : Listing → Found → Denials → Judged → Type 0
IsSaid l f ds Clear = NothingDenied l ds
IsSaid l f ds (Denied line) = Says l f ds (string_bytes line)
IsSaid l f ds More = ⊥

-- the text is that of what is found, as where nothing is denied; and so is what is said of it
abbrev pub IsJudged : List ℕ → ℕ → Denials → Judged → List ℕ → Type 0
IsJudged input limit ds Clear text = (t : IsFoundText input text) × IsSaid t.file t.found ds Clear
IsJudged input limit ds (Denied line) text = (t : IsFoundText input text) × IsSaid t.file t.found ds (Denied line)
IsJudged input limit ds More text = IsMoreText input limit text

-- such a text was written
pub record WroteJudged (input : List ℕ) (limit : ℕ) (ds : Denials) (judged : Judged) (old new : Option (List ℕ)) : Type 0 where
  pub text : List ℕ
  pub shown : IsJudged input limit ds judged text
  pub written : Appends old new text

-- a beginning of such a text was written
pub record BeganJudged (input : List ℕ) (limit : ℕ) (ds : Denials) (old new : Option (List ℕ)) : Type 0 where
  pub judged : Judged
  pub text : List ℕ
  pub shown : IsJudged input limit ds judged text
  pub count : ℕ
  pub written : Appends old new (take count text)

-- by the answer: a whole text, or nothing and the first kind of fault, or nothing, or a beginning
abbrev pub Judges : List ℕ → ℕ → Denials → Option (List ℕ) → Option (List ℕ) → Result Judged RunFault → Type 0
Judges input limit ds old new (Ok judged) = WroteJudged input limit ds judged old new
Judges input limit ds old new (Err (Input kind)) = (first_fault input ≡ Some kind) × Keeps old new
Judges input limit ds old new (Err Memory) = Keeps old new
Judges input limit ds old new (Err Output) = BeganJudged input limit ds old new
-- all orders have no schedule
Judges input limit ds old new (Err (Schedule kind)) = ⊥
