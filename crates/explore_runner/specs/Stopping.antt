-- Reports of runs that stop.
use Rattle.std.specs.Prelude.{◌≡◌, ◌≢◌, List, [], ◌∷◌, ◌++◌, map, All}
use Rattle.std.specs.List.{Contains}
use Rattle.txn_programs.specs.declared.ast.TaskId.{TaskId}
use Rattle.txn_programs.specs.declared.ast.TxId.{TxId}
use Rattle.txn_programs.specs.declared.ast.Outcome.TheVariants.{Retries}
use Rattle.txn_programs.specs.declared.report.Entry.{Entry}
use Rattle.txn_programs.specs.Listing.{Listing, program_as}
use Rattle.txn_programs.specs.Meaning.{outcome}
use Rattle.txn_programs.specs.Told.{Told, now_of}
use Rattle.txn_programs.specs.LawfulReport.{LawfulReport}
use Rattle.explore_law.specs.declared.sought.Sought.{Sought}
use Rattle.explore_law.specs.declared.sought.Sought.TheVariants.{Parks}
use Rattle.explore_law.specs.declared.instance.InstanceId.{InstanceId}
use Rattle.explore_law.specs.Instances.{instance_at}
use Rattle.explore_law.specs.Finding.{IsSought}
use Rattle.explore_runner.specs.Giving.{entered_by}

-- a lawful report from the opening on, whose entries are of these instances. Of the tasks that are left, those that
-- retry on the present values are parked, and those that would still have a turn were given up by who stopped the run
pub record StopsAfter (l : Listing) (turns : List InstanceId) (r : Told) : Type 0 where
  pub lawful : LawfulReport l r
  pub opens : r.base ≡ 0
  pub entered : entered_by l r.entries ≡ map (instance_at l) turns
  pub given_up : All (λ (p : TaskId × TxId). outcome (program_as l p.0 p.1) (now_of r).state ≢ Retries) r.memory

-- the last entry is of the transaction, and ends as is sought
pub record EndsWith (tx : TxId) (s : Sought) (r : Told) : Type 0 where
  pub before : List Entry
  pub last : Entry
  pub entries : r.entries ≡ before ++ last ∷ []
  pub own : last.tx ≡ tx
  pub sought : IsSought s last.outcome

-- a task of the transaction is parked
abbrev pub HasParked : TxId → Told → Type 0
HasParked tx r = Contains (map (λ (p : TaskId × TxId). p.1) r.parked) tx

-- what is sought shows in the report: in its last entry, or among the parked tasks
abbrev pub ShowsIn : TxId → Sought → Told → Type 0
ShowsIn tx Parks r = HasParked tx r
ShowsIn tx s r = EndsWith tx s r

-- the turns behind which it shows, by those that lead to where it does: a turn that ends so is one more
abbrev pub turns_to : InstanceId → Sought → List InstanceId → List InstanceId
turns_to k Parks turns = turns
turns_to k s turns = turns ++ k ∷ []
