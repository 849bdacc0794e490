-- What an exact answer says of all orders.
use Rattle.std.specs.Prelude.{◌≡◌, ◌↔◌, ℕ, ◌<◌, Bool, true, false, List, map, length, Option, Some, None, slice_get, slice_index_or}
use Rattle.std.specs.List.{Contains}
use Rattle.std.specs.List.Sorted.{IsSorted}
use Rattle.std.specs.Cmp.Lexicographic.{slice_cmp}
use Rattle.std.specs.declared.cmp.Ordering.{Ordering}
use Rattle.std.specs.Ordering.{int_cmp, nat_cmp, ordering_then}
use Rattle.txn_programs.specs.declared.ast.AlwaysId.{AlwaysId}
use Rattle.txn_programs.specs.declared.ast.TxId.{TxId}
use Rattle.txn_programs.specs.declared.ast.Outcome.{Outcome}
use Rattle.txn_programs.specs.declared.ast.Outcome.TheVariants.{Returned, Thrown, Retries}
use Rattle.txn_programs.specs.declared.ast.Fault.TheVariants.{User, Overflow, DivideByZero, Broken, Outside}
use Rattle.txn_programs.specs.Listing.{Listing}
use Rattle.txn_programs.specs.Meaning.{outcome}
use Rattle.explore_law.specs.declared.found.End.{End}
use Rattle.explore_law.specs.declared.found.Kinds.{Kinds}
use Rattle.explore_law.specs.declared.found.Found.{Found}
use Rattle.explore_law.specs.declared.instance.InstanceId.{InstanceId}
use Rattle.explore_law.specs.Instances.{instance_at, instance_program}
use Rattle.explore_law.specs.Orders.{Config, HasTurn, Reached, IsEnd}

-- how a turn can end
pub data Kind : Type 0 where
  Returning : Kind
  Throwing : Kind
  Overflowing : Kind
  DividingByZero : Kind
  Breaking : (id : AlwaysId) → Kind
  GoingOutside : Kind

abbrev pub kind_of : Outcome → Option Kind
kind_of (Returned v) = Some Returning
kind_of (Thrown (User v)) = Some Throwing
kind_of (Thrown Overflow) = Some Overflowing
kind_of (Thrown DivideByZero) = Some DividingByZero
kind_of (Thrown (Broken id)) = Some (Breaking id)
kind_of (Thrown Outside) = Some GoingOutside
kind_of Retries = None

-- whether the kind is among those
abbrev pub shows : Kinds → Kind → Bool
shows ks Returning = ks.returned
shows ks Throwing = ks.threw
shows ks Overflowing = ks.overflow
shows ks DividingByZero = ks.zerodiv
shows ks GoingOutside = ks.outside
shows ks (Breaking id) = slice_index_or ks.broke id.0 false

-- some turn of the transaction, at a reached configuration, ends so
pub record Somewhere (l : Listing) (tx : TxId) (kind : Kind) : Type 0 where
  pub instance : InstanceId
  pub own : (instance_at l instance).tx ≡ tx
  pub config : Config
  pub reached : Reached l config
  pub turn : HasTurn l config instance
  pub ends : kind_of (outcome (instance_program l instance) config.state) ≡ Some kind

-- the configuration of an end
abbrev pub end_config : End → Config
end_config e = record { state = e.values.items; left = e.waiting.items }

abbrev pub end_configs : Found → List Config
end_configs f = map end_config f.ends.items

-- nothing stands at two configurations of the list
abbrev pub IsOnce : List Config → Type 0
IsOnce ps = (i j : ℕ) (p : Config) → slice_get ps i ≡ Some p → slice_get ps j ≡ Some p → i ≡ j

-- the reached configurations are listed, each once
pub record ListsReached (l : Listing) (ps : List Config) : Type 0 where
  pub once : IsOnce ps
  pub all : (p : Config) → (Contains ps p ↔ Reached l p)

-- by the values as numbers, the first variable first, then by the counts left
abbrev pub config_cmp : Config → Config → Ordering
config_cmp p q = ordering_then (slice_cmp int_cmp p.state q.state) (slice_cmp nat_cmp p.left q.left)

-- the answer is exact
pub record Explored (l : Listing) (f : Found) : Type 0 where
  -- it counts the reached configurations
  pub configs : List Config
  pub reached : ListsReached l configs
  pub states : f.states ≡ length configs
  -- a transaction is said to end so exactly where some turn of it does
  pub each : length f.kinds.items ≡ length l.transactions
  pub kinds : (tx : TxId) (ks : Kinds) (kind : Kind) → slice_get f.kinds.items tx.0 ≡ Some ks → (shows ks kind ≡ true ↔ Somewhere l tx kind)
  -- the ends are the reached configurations without a turn, each once and in order
  pub ends : (p : Config) → (Contains (end_configs f) p ↔ (Reached l p × IsEnd l p))
  pub ends_once : IsOnce (end_configs f)
  pub ends_ascend : IsSorted config_cmp (end_configs f)

-- more than n configurations are reached
pub record ReachesMore (l : Listing) (n : ℕ) : Type 0 where
  pub configs : List Config
  pub once : IsOnce configs
  pub reached : (p : Config) → Contains configs p → Reached l p
  pub more : n < length configs
