-- A run that comes to an end.
use Rattle.std.specs.Prelude.{◌≡◌, ℕ, ◌≤◌, List, [], length, map, take, Option, Some, Result, Ok, Err}
use Rattle.std.specs.Io.KnownBytes.{Appends, Keeps}
use Rattle.txn_programs.specs.Listing.{Listing}
use Rattle.txn_programs.specs.Told.{Told}
use Rattle.text_report_printer.specs.ReportText.{report_text}
use Rattle.txn_text.specs.Spelling.{Spells, first_fault}
use Rattle.run_interface.specs.declared.fault.RunFault.{RunFault}
use Rattle.run_interface.specs.declared.fault.RunFault.TheVariants.{Input, Memory, Output, Schedule}
use Rattle.explore_law.specs.declared.found.Found.{Found}
use Rattle.explore_law.specs.declared.instance.InstanceId.{InstanceId}
use Rattle.explore_law.specs.Instances.{instance_at}
use Rattle.explore_law.specs.Orders.{Config}
use Rattle.explore_law.specs.Explored.{Explored, end_config}
use Rattle.explore_law.specs.Ways.{IsWayToEnd}
use Rattle.explore_runner.specs.Ends.{EndsAt}
use Rattle.explore_runner.specs.Giving.{entered_by}
use Rattle.explore_runner.specs.Showing.{IsMoreText}
use Rattle.explore_runner.specs.declared.sight.Witnessed.{Witnessed}
use Rattle.explore_runner.specs.declared.sight.Witnessed.TheVariants.{Report, NoEnd, Beyond}

-- the text is that of one lawful report that ends at the configuration, whose entries are of these instances
pub record IsReportTo (l : Listing) (turns : List InstanceId) (p : Config) (text : List ℕ) : Type 0 where
  pub report : Told
  pub ends : EndsAt l report p
  pub entered : entered_by l report.entries ≡ map (instance_at l) turns
  pub printed : text ≡ report_text l report

-- the text is such a report of exactly the file that the input spells; it comes to the end of number k, counted from 0, by as few turns as any order
pub record IsWitness (input : List ℕ) (k : ℕ) (text : List ℕ) : Type 0 where
  pub file : Listing
  pub spelled : Spells input file
  pub found : Found
  pub explored : Explored file found
  pub turns : List InstanceId
  pub way : IsWayToEnd file found k turns
  pub report : IsReportTo file turns (end_config way.end) text

-- there are no more than k ends, and no text
pub record IsPast (input : List ℕ) (k : ℕ) (text : List ℕ) : Type 0 where
  pub file : Listing
  pub spelled : Spells input file
  pub found : Found
  pub explored : Explored file found
  pub past : length found.ends.items ≤ k
  pub none : text ≡ []

abbrev pub IsAnswer : List ℕ → ℕ → ℕ → Witnessed → List ℕ → Type 0
IsAnswer input limit k Report text = IsWitness input k text
IsAnswer input limit k NoEnd text = IsPast input k text
IsAnswer input limit k Beyond text = IsMoreText input limit text

-- such a text was written
pub record WroteAnswer (input : List ℕ) (limit k : ℕ) (answer : Witnessed) (old new : Option (List ℕ)) : Type 0 where
  pub text : List ℕ
  pub shown : IsAnswer input limit k answer text
  pub written : Appends old new text

-- a beginning of such a text was written
pub record BeganAnswer (input : List ℕ) (limit k : ℕ) (old new : Option (List ℕ)) : Type 0 where
  pub answer : Witnessed
  pub text : List ℕ
  pub shown : IsAnswer input limit k answer text
  pub count : ℕ
  pub written : Appends old new (take count text)

-- by the answer: a whole text, or nothing and the first kind of fault, or nothing, or a beginning
abbrev pub Answered : List ℕ → ℕ → ℕ → Option (List ℕ) → Option (List ℕ) → Result Witnessed RunFault → Type 0
Answered input limit k old new (Ok answer) = WroteAnswer input limit k answer old new
Answered input limit k old new (Err (Input kind)) = (first_fault input ≡ Some kind) × Keeps old new
Answered input limit k old new (Err Memory) = Keeps old new
Answered input limit k old new (Err Output) = BeganAnswer input limit k old new
Answered input limit k old new (Err (Schedule kind)) = ⊥
