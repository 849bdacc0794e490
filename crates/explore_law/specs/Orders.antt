-- Every order of a file's tasks: the configurations that they lead through, and the turns from one configuration to the next.
use Rattle.std.specs.Prelude.{◌≡◌, ◌≢◌, ℕ, ◌-◌, ◌<◌, List, [], ◌∷◌, map, count_by, slice_index_or, slice_set}
use Rattle.txn_programs.specs.declared.arguments.Call.{Call}
use Rattle.txn_programs.specs.declared.ast.Outcome.TheVariants.{Retries}
use Rattle.txn_programs.specs.Listing.{Listing, calls}
use Rattle.txn_programs.specs.Meaning.{State, outcome, after}
use Rattle.explore_law.specs.declared.instance.InstanceId.{InstanceId}
use Rattle.explore_law.specs.Instances.{is_same, instances, instance_program}

-- the present values, and for each instance how many of its tasks are left to do
pub record Config : Type 0 where
  pub state : State
  pub left : List ℕ

-- how many tasks of an instance are left
abbrev pub count_at : List ℕ → InstanceId → ℕ
count_at left k = slice_index_or left k.0 0

-- for each instance, how many of the calls are of it
abbrev pub counted : Listing → List Call → List ℕ
counted l cs = map (λ (c : Call). count_by (is_same c) cs) (instances l)

-- the initial values, and no task done
abbrev pub first_config : Listing → Config
first_config l = record { state = l.initial; left = counted l (calls l) }

-- an instance with tasks left has a turn where it does not retry
pub record HasTurn (l : Listing) (p : Config) (k : InstanceId) : Type 0 where
  pub left : 0 < count_at p.left k
  pub ends : outcome (instance_program l k) p.state ≢ Retries

-- the values after it, and one more of its tasks done
abbrev pub turned : Listing → Config → InstanceId → Config
turned l p k = record { state = after (instance_program l k) p.state; left = slice_set p.left k.0 (count_at p.left k - 1) }

-- these turns, in this order, lead from p to q
abbrev pub Leads : Listing → Config → List InstanceId → Config → Type 0
Leads l p [] q = q ≡ p
Leads l p (k ∷ rest) q = HasTurn l p k × Leads l (turned l p k) rest q

-- some turns lead there from the first configuration
pub record Reached (l : Listing) (p : Config) : Type 0 where
  pub turns : List InstanceId
  pub leads : Leads l (first_config l) turns p

-- no instance has a turn
abbrev pub IsEnd : Listing → Config → Type 0
IsEnd l p = (k : InstanceId) → HasTurn l p k → ⊥
