-- Where reports end, among all orders.
use Rattle.std.specs.Prelude.{◌≡◌, ◌⊎◌, List, [], map}
use Rattle.txn_programs.specs.declared.arguments.Call.{Call}
use Rattle.txn_programs.specs.declared.ast.TaskId.{TaskId}
use Rattle.txn_programs.specs.declared.ast.TxId.{TxId}
use Rattle.txn_programs.specs.Listing.{Listing, task_arguments}
use Rattle.txn_programs.specs.Told.{Told, now_of}
use Rattle.txn_programs.specs.LawfulReport.{LawfulReport, BaseReached}
use Rattle.explore_law.specs.declared.instance.InstanceId.{InstanceId}
use Rattle.explore_law.specs.Orders.{Config, first_config, Leads, IsEnd, counted, count_at}

-- the call that a task makes where this is its transaction
abbrev pub call_as : Listing → TaskId → TxId → Call
call_as l task tx = record { tx = tx; arguments = task_arguments l task }

-- its present values, and for each instance how many of the parked tasks are of it
abbrev pub end_of : Listing → Told → Config
end_of l r = record { state = (now_of r).state; left = counted l (map (λ (p : TaskId × TxId). call_as l p.0 p.1) r.parked) }

-- a lawful report of a run from the opening on that memory stopped nowhere
pub record IsWhole (l : Listing) (r : Told) : Type 0 where
  pub lawful : LawfulReport l r
  -- its base is the opening, or is reached by the tasks that it does not name
  pub past : (r.base ≡ 0) ⊎ BaseReached l r
  pub none_stopped : r.memory ≡ []

-- a lawful report from the opening on that names no task stopped by memory, and ends at the configuration
pub record EndsAt (l : Listing) (r : Told) (p : Config) : Type 0 where
  pub lawful : LawfulReport l r
  pub opens : r.base ≡ 0
  pub none_stopped : r.memory ≡ []
  pub config : end_of l r ≡ p

-- there is one
pub record HasReport (l : Listing) (p : Config) : Type 0 where
  pub report : Told
  pub ends : EndsAt l report p

-- no task is left
abbrev pub NobodyWaits : Config → Type 0
NobodyWaits p = (k : InstanceId) → count_at p.left k ≡ 0

-- these turns lead from the first configuration to an end
pub record LeadsToEnd (l : Listing) (turns : List InstanceId) : Type 0 where
  pub config : Config
  pub leads : Leads l (first_config l) turns config
  pub last : IsEnd l config
