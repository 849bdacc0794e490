-- What is told of a schedule.
use Rattle.std.specs.Prelude.{◌≡◌, ℕ, List, take, codes, Option, Some, Result, Ok, Err}
use Rattle.std.specs.Io.KnownBytes.{Appends, Keeps}
use Rattle.txn_programs.specs.declared.moves.Move.{Move}
use Rattle.txn_programs.specs.Listing.{Listing}
use Rattle.txn_text.specs.Spelling.{Spells, first_fault}
use Rattle.text_words.specs.declared.fault.ReadFault.{ReadFault}
use Rattle.text_line_reader.specs.Schedules.{IsSchedule}
use Rattle.run_interface.specs.declared.fault.RunFault.{RunFault}
use Rattle.run_interface.specs.declared.fault.RunFault.TheVariants.{Input, Memory, Output, Schedule}
use Rattle.explain_files.specs.Places.{line_at, column_at}
use Rattle.explain_files.specs.Telling.{IsLineWith, head, kind_name}
use Rattle.explain_files.specs.declared.bytes.Judgement.{Judgement}
use Rattle.explain_files.specs.declared.bytes.Judgement.TheVariants.{Good, Refused}
use Rattle.explain_schedules.specs.Explaining.{IsRefused}
use Rattle.explain_schedules.specs.declared.explaining.Refusal.{Refusal}

-- the beginning of the line: where, and which kind
abbrev pub head_of : List ℕ → Refusal → List ℕ
head_of bytes refusal = head (line_at bytes refusal.place) (column_at bytes refusal.place) (kind_name refusal.kind)

-- the text of a refusal, whose kind this is: one line
pub record IsRefusedAs (l : Listing) (bytes : List ℕ) (kind : ReadFault) (text : List ℕ) : Type 0 where
  pub refusal : Refusal
  pub refused : IsRefused l bytes refusal
  pub is : refusal.kind ≡ kind
  pub line : IsLineWith (head_of bytes refusal) text

abbrev pub IsTextOf : Listing → List ℕ → Judgement → List ℕ → Type 0
IsTextOf l bytes Good text = (moves : List Move) × (IsSchedule l bytes moves × (text ≡ codes "good\n"))
IsTextOf l bytes (Refused kind) text = IsRefusedAs l bytes kind text

-- the text says of the schedule what is so, for the file that the bytes spell
pub record IsAnswer (file schedule : List ℕ) (told : Judgement) (text : List ℕ) : Type 0 where
  pub listing : Listing
  pub spelled : Spells file listing
  pub is : IsTextOf listing schedule told text

pub record Wrote (file schedule : List ℕ) (told : Judgement) (old new : Option (List ℕ)) : Type 0 where
  pub text : List ℕ
  pub is : IsAnswer file schedule told text
  pub written : Appends old new text

pub record WroteBeginning (file schedule : List ℕ) (old new : Option (List ℕ)) : Type 0 where
  pub told : Judgement
  pub text : List ℕ
  pub is : IsAnswer file schedule told text
  pub count : ℕ
  pub written : Appends old new (take count text)

-- by the answer: the whole line; or nothing and the first kind of fault of the file; or nothing; or a beginning
abbrev pub Telling : List ℕ → List ℕ → Option (List ℕ) → Option (List ℕ) → Result Judgement RunFault → Type 0
Telling file schedule old new (Ok told) = Wrote file schedule told old new
Telling file schedule old new (Err (Input kind)) = (first_fault file ≡ Some kind) × Keeps old new
Telling file schedule old new (Err Memory) = Keeps old new
Telling file schedule old new (Err Output) = WroteBeginning file schedule old new
-- a schedule that is refused is told of
Telling file schedule old new (Err (Schedule kind)) = ⊥
