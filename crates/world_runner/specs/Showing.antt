-- What playing the bytes of a schedule leaves.
use Rattle.std.specs.Prelude.{◌≡◌, ℕ, List, take, Option, Some, Result, Ok, Err}
use Rattle.std.specs.Io.KnownBytes.{Appends, Keeps}
use Rattle.txn_programs.specs.Listing.{Listing}
use Rattle.txn_programs.specs.declared.moves.Move.{Move}
use Rattle.txn_text.specs.Spelling.{Spells, first_fault}
use Rattle.text_words.specs.declared.fault.ReadFault.{ReadFault}
use Rattle.text_line_reader.specs.Schedules.{IsSchedule, IsFirst}
use Rattle.run_interface.specs.declared.fault.RunFault.{RunFault}
use Rattle.run_interface.specs.declared.fault.RunFault.TheVariants.{Input, Memory, Output, Schedule}
use Rattle.world_runner.specs.Playing.{IsTextOf}

-- the text is that of exactly the file and the schedule that the inputs spell
pub record IsShowing (input schedule text : List ℕ) : Type 0 where
  pub file : Listing
  pub spelled : Spells input file
  pub moves : List Move
  pub read : IsSchedule file schedule moves
  pub shown : IsTextOf file moves text

-- the input spells a file, and this is the first kind of fault of the schedule
pub record IsNoSchedule (input schedule : List ℕ) (kind : ReadFault) : Type 0 where
  pub file : Listing
  pub spelled : Spells input file
  pub first : IsFirst file schedule kind

-- such a text was written
pub record WroteShowing (input schedule : List ℕ) (old new : Option (List ℕ)) : Type 0 where
  pub text : List ℕ
  pub showing : IsShowing input schedule text
  pub written : Appends old new text

-- a beginning of such a text was written
pub record WroteBeginning (input schedule : List ℕ) (old new : Option (List ℕ)) : Type 0 where
  pub text : List ℕ
  pub showing : IsShowing input schedule text
  pub count : ℕ
  pub written : Appends old new (take count text)

-- by the answer: a whole text, or nothing and the first kind of fault, or nothing, or a beginning
abbrev pub Showed : {U : Type 0} → List ℕ → List ℕ → Option (List ℕ) → Option (List ℕ) → Result U RunFault → Type 0
Showed input schedule old new (Ok u) = WroteShowing input schedule old new
Showed input schedule old new (Err (Input kind)) = (first_fault input ≡ Some kind) × Keeps old new
Showed input schedule old new (Err (Schedule kind)) = IsNoSchedule input schedule kind × Keeps old new
Showed input schedule old new (Err Memory) = Keeps old new
Showed input schedule old new (Err Output) = WroteBeginning input schedule old new

-- why there is no such text
abbrev pub IsRefused : List ℕ → List ℕ → RunFault → Type 0
IsRefused input schedule (Input kind) = first_fault input ≡ Some kind
IsRefused input schedule (Schedule kind) = IsNoSchedule input schedule kind
IsRefused input schedule Memory = Unit {0}
IsRefused input schedule Output = ⊥
