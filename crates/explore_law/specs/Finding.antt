-- What is sought, and the shortest way there.
use Rattle.std.specs.Prelude.{◌≡◌, ℤ, ◌<◌, ◌≤◌, List, length, Option, Some, None}
use Rattle.txn_programs.specs.declared.ast.AlwaysId.{AlwaysId}
use Rattle.txn_programs.specs.declared.ast.TxId.{TxId}
use Rattle.txn_programs.specs.declared.ast.Fault.TheVariants as fault
use Rattle.txn_programs.specs.declared.ast.Outcome.{Outcome}
use Rattle.txn_programs.specs.declared.ast.Outcome.TheVariants as how
use Rattle.txn_programs.specs.Listing.{Listing}
use Rattle.txn_programs.specs.Meaning.{outcome}
use Rattle.explore_law.specs.declared.instance.InstanceId.{InstanceId}
use Rattle.explore_law.specs.declared.sought.Sought.{Sought}
use Rattle.explore_law.specs.declared.sought.WayWhere.{WayWhere}
use Rattle.explore_law.specs.declared.sought.Sought.TheVariants.{Returned, Threw, Overflow, ZeroDiv, Broke, Parks, Outside}
use Rattle.explore_law.specs.Instances.{instance_at, instance_program}
use Rattle.explore_law.specs.Orders.{Config, count_at, first_config, Leads, Reached}

-- this one, or any
abbrev pub Wants : {X : Type 0} → Option X → X → Type 0
Wants None x = Unit {0}
Wants (Some wanted) x = x ≡ wanted

-- the outcome is what is sought
abbrev pub IsSought : Sought → Outcome → Type 0
IsSought (Returned wanted) o = (v : ℤ) × (o ≡ how.Returned v) × Wants wanted v
IsSought (Threw wanted) o = (v : ℤ) × (o ≡ how.Thrown (fault.User v)) × Wants wanted v
IsSought Overflow o = o ≡ how.Thrown fault.Overflow
IsSought ZeroDiv o = o ≡ how.Thrown fault.DivideByZero
IsSought (Broke wanted) o = (id : AlwaysId) × (o ≡ how.Thrown (fault.Broken id)) × Wants wanted id
IsSought Parks o = o ≡ how.Retries
IsSought Outside o = o ≡ how.Thrown fault.Outside

-- it shows at the configuration by the instance: a task of it is left, and what it comes to on the values is sought
pub record ShowsBy (l : Listing) (k : InstanceId) (s : Sought) (p : Config) : Type 0 where
  pub left : 0 < count_at p.left k
  pub sought : IsSought s (outcome (instance_program l k) p.state)

-- it shows there by an instance of the transaction
pub record ShowsAt (l : Listing) (tx : TxId) (s : Sought) (p : Config) : Type 0 where
  pub instance : InstanceId
  pub own : (instance_at l instance).tx ≡ tx
  pub shows : ShowsBy l instance s p

-- these turns lead to where it shows by this instance of the transaction, and by none that is before it; and no fewer lead
-- to where it shows
pub record IsWayWhere (l : Listing) (tx : TxId) (s : Sought) (turns : List InstanceId) (k : InstanceId) : Type 0 where
  pub own : (instance_at l k).tx ≡ tx
  pub config : Config
  pub leads : Leads l (first_config l) turns config
  pub shows : ShowsBy l k s config
  pub first : (before : InstanceId) → before.0 < k.0 → (instance_at l before).tx ≡ tx → ShowsBy l before s config → ⊥
  pub fewest : (others : List InstanceId) (p : Config) → Leads l (first_config l) others p → ShowsAt l tx s p → length turns ≤ length others

-- no order comes to where it shows
abbrev pub NeverShows : Listing → TxId → Sought → Type 0
NeverShows l tx s = (p : Config) → Reached l p → ShowsAt l tx s p → ⊥

-- by the answer: such turns with the instance, or no order comes there
abbrev pub WayOrNever : Listing → TxId → Sought → Option WayWhere → Type 0
WayOrNever l tx s None = NeverShows l tx s
WayOrNever l tx s (Some way) = IsWayWhere l tx s way.turns.items way.instance
