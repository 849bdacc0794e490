-- What exploring the bytes of a file leaves.
use Rattle.std.specs.Prelude.{◌≡◌, ℕ, List, take, Option, Some, Result, Ok, Err}
use Rattle.std.specs.Io.KnownBytes.{Appends, Keeps}
use Rattle.txn_programs.specs.Listing.{Listing}
use Rattle.txn_text.specs.Spelling.{Spells, first_fault}
use Rattle.run_interface.specs.declared.fault.RunFault.{RunFault}
use Rattle.run_interface.specs.declared.fault.RunFault.TheVariants.{Input, Memory, Output, Schedule}
use Rattle.explore_law.specs.declared.found.Found.{Found}
use Rattle.explore_law.specs.Explored.{Explored, ReachesMore}
use Rattle.explore_runner.specs.FoundText.{found_text, more_text}
use Rattle.explore_runner.specs.declared.sight.Sight.{Sight}
use Rattle.explore_runner.specs.declared.sight.Sight.TheVariants.{Whole, More}

-- the text is that of exactly what is found when all orders of the file are seen that the input spells
pub record IsFoundText (input text : List ℕ) : Type 0 where
  pub file : Listing
  pub spelled : Spells input file
  pub found : Found
  pub explored : Explored file found
  pub printed : text ≡ found_text file found

-- the text says that more configurations are reached than so many, and more are
pub record IsMoreText (input : List ℕ) (limit : ℕ) (text : List ℕ) : Type 0 where
  pub file : Listing
  pub spelled : Spells input file
  pub more : ReachesMore file limit
  pub printed : text ≡ more_text limit

abbrev pub IsShown : List ℕ → ℕ → Sight → List ℕ → Type 0
IsShown input limit Whole text = IsFoundText input text
IsShown input limit More text = IsMoreText input limit text

-- such a text was written
pub record WroteShown (input : List ℕ) (limit : ℕ) (sight : Sight) (old new : Option (List ℕ)) : Type 0 where
  pub text : List ℕ
  pub shown : IsShown input limit sight text
  pub written : Appends old new text

-- a beginning of such a text was written
pub record WroteBeginning (input : List ℕ) (limit : ℕ) (old new : Option (List ℕ)) : Type 0 where
  pub sight : Sight
  pub text : List ℕ
  pub shown : IsShown input limit sight text
  pub count : ℕ
  pub written : Appends old new (take count text)

-- by the answer: a whole text, or nothing and the first kind of fault, or nothing, or a beginning
abbrev pub Showed : List ℕ → ℕ → Option (List ℕ) → Option (List ℕ) → Result Sight RunFault → Type 0
Showed input limit old new (Ok sight) = WroteShown input limit sight old new
Showed input limit old new (Err (Input kind)) = (first_fault input ≡ Some kind) × Keeps old new
Showed input limit old new (Err Memory) = Keeps old new
Showed input limit old new (Err Output) = WroteBeginning input limit old new
-- all orders have no schedule
Showed input limit old new (Err (Schedule kind)) = ⊥

-- why there is no such text
abbrev pub IsRefused : List ℕ → RunFault → Type 0
IsRefused input (Input kind) = first_fault input ≡ Some kind
IsRefused input Memory = Unit {0}
IsRefused input Output = ⊥
IsRefused input (Schedule kind) = ⊥
