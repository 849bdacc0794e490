-- What looking for a turn leaves.
use Rattle.std.specs.Prelude.{◌≡◌, ℕ, List, [], take, codes, Option, Some, None, Result, Ok, Err}
use Rattle.std.specs.Io.KnownBytes.{Appends, Keeps}
use Rattle.txn_programs.specs.declared.ast.TxId.{TxId}
use Rattle.txn_programs.specs.Listing.{Listing, transaction_named}
use Rattle.txn_programs.specs.Told.{Told}
use Rattle.text_report_printer.specs.ReportText.{report_text}
use Rattle.txn_text.specs.Spelling.{Spells, first_fault}
use Rattle.run_interface.specs.declared.fault.RunFault.{RunFault}
use Rattle.run_interface.specs.declared.fault.RunFault.TheVariants.{Input, Memory, Output, Schedule}
use Rattle.explore_law.specs.declared.instance.InstanceId.{InstanceId}
use Rattle.explore_law.specs.declared.sought.Sought.{Sought}
use Rattle.explore_law.specs.Finding.{IsWayWhere, NeverShows}
use Rattle.explore_runner.specs.Wording.{sought_by}
use Rattle.explore_runner.specs.Stopping.{ShowsIn, StopsAfter, turns_to}
use Rattle.explore_runner.specs.Showing.{IsMoreText}
use Rattle.explore_runner.specs.declared.outcomes.OutcomeWords.{OutcomeWords}
use Rattle.explore_runner.specs.declared.finding.Sighted.{Sighted}
use Rattle.explore_runner.specs.declared.finding.Sighted.TheVariants.{Report, Never, NoTransaction, NoCondition, Beyond}

-- what is asked for: of exactly the file that the input spells, this of that transaction
pub record Asks (input name : List ℕ) (o : OutcomeWords) : Type 0 where
  pub file : Listing
  pub spelled : Spells input file
  pub tx : TxId
  pub named : transaction_named file name ≡ Some tx
  pub sought : Sought
  pub meant : sought_by file o ≡ Some sought

-- the text is that of a report that stops where it shows by an instance of the transaction, by as few turns as any order
pub record IsSight (l : Listing) (tx : TxId) (s : Sought) (text : List ℕ) : Type 0 where
  pub turns : List InstanceId
  pub instance : InstanceId
  pub way : IsWayWhere l tx s turns instance
  pub report : Told
  pub stops : StopsAfter l (turns_to instance s turns) report
  pub shows : ShowsIn tx s report
  pub printed : text ≡ report_text l report

-- no transaction of the file that the input spells has the name, and there is no text
pub record LacksTransaction (input name text : List ℕ) : Type 0 where
  pub file : Listing
  pub spelled : Spells input file
  pub unnamed : transaction_named file name ≡ None
  pub none : text ≡ []

-- it has the transaction, but none of its conditions is the one that is meant, and there is no text
pub record LacksCondition (input name : List ℕ) (o : OutcomeWords) (text : List ℕ) : Type 0 where
  pub file : Listing
  pub spelled : Spells input file
  pub tx : TxId
  pub named : transaction_named file name ≡ Some tx
  pub unmeant : sought_by file o ≡ None
  pub none : text ≡ []

abbrev pub IsFinding : List ℕ → ℕ → List ℕ → OutcomeWords → Sighted → List ℕ → Type 0
IsFinding input limit name o Report text = (a : Asks input name o) × IsSight a.file a.tx a.sought text
IsFinding input limit name o Never text = (a : Asks input name o) × NeverShows a.file a.tx a.sought × (text ≡ codes "never\n")
IsFinding input limit name o NoTransaction text = LacksTransaction input name text
IsFinding input limit name o NoCondition text = LacksCondition input name o text
IsFinding input limit name o Beyond text = IsMoreText input limit text

-- such a text was written
pub record WroteFinding (input : List ℕ) (limit : ℕ) (name : List ℕ) (o : OutcomeWords) (answer : Sighted) (old new : Option (List ℕ)) : Type 0 where
  pub text : List ℕ
  pub shown : IsFinding input limit name o answer text
  pub written : Appends old new text

-- a beginning of such a text was written
pub record BeganFinding (input : List ℕ) (limit : ℕ) (name : List ℕ) (o : OutcomeWords) (old new : Option (List ℕ)) : Type 0 where
  pub answer : Sighted
  pub text : List ℕ
  pub shown : IsFinding input limit name o answer text
  pub count : ℕ
  pub written : Appends old new (take count text)

-- by the answer: a whole text, or nothing and the first kind of fault, or nothing, or a beginning
abbrev pub Finds : List ℕ → ℕ → List ℕ → OutcomeWords → Option (List ℕ) → Option (List ℕ) → Result Sighted RunFault → Type 0
Finds input limit name o old new (Ok answer) = WroteFinding input limit name o answer old new
Finds input limit name o old new (Err (Input kind)) = (first_fault input ≡ Some kind) × Keeps old new
Finds input limit name o old new (Err Memory) = Keeps old new
Finds input limit name o old new (Err Output) = BeganFinding input limit name o old new
Finds input limit name o old new (Err (Schedule kind)) = ⊥
