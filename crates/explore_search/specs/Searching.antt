-- What a search knows when it has come so far: to the configuration of number c, and there to the instance of number k.
use Rattle.std.specs.Prelude.{◌≡◌, ◌⊎◌, ◌↔◌, ℕ, ◌<◌, ◌≤◌, true, List, [], ◌∷◌, length, Some, slice_index_or}
use Rattle.std.specs.List.{Contains}
use Rattle.txn_programs.specs.declared.ast.TxId.{TxId}
use Rattle.txn_programs.specs.Listing.{Listing}
use Rattle.txn_programs.specs.Meaning.{outcome}
use Rattle.explore_law.specs.declared.found.Kinds.{Kinds}
use Rattle.explore_law.specs.declared.instance.InstanceId.{InstanceId}
use Rattle.explore_law.specs.Instances.{instances, instance_at, instance_program}
use Rattle.explore_law.specs.Orders.{Config, first_config, HasTurn, turned, Reached, IsEnd}
use Rattle.explore_law.specs.Explored.{Kind, kind_of, shows}
use Rattle.explore_search.specs.Noting.{none_seen}
use Rattle.explore_search.specs.Indexed.{config_at}
use Rattle.explore_search.specs.Shelf.{Shelf}

-- this instance was tried at the configuration of number i
abbrev pub IsTried : ℕ → ℕ → ℕ → InstanceId → Type 0
IsTried c k i m = (i < c) ⊎ ((i ≡ c) × (m.0 < k))

-- some turn of the transaction that was tried ended so
pub record WasSeen (l : Listing) (ps : List Config) (c k : ℕ) (tx : TxId) (kind : Kind) : Type 0 where
  pub instance : InstanceId
  pub own : (instance_at l instance).tx ≡ tx
  pub i : ℕ
  pub within : i < length ps
  pub tried : IsTried c k i instance
  pub turn : HasTurn l (config_at ps i) instance
  pub ends : kind_of (outcome (instance_program l instance) (config_at ps i).state) ≡ Some kind

pub record IsSearched (l : Listing) (ps : List Config) (kinds : List Kinds) (ends : List ℕ) (c k : ℕ) : Type 0 where
  pub first : Contains ps (first_config l)
  pub reached : (i : ℕ) → i < length ps → Reached l (config_at ps i)
  -- each turn that was tried leads to a listed configuration
  pub closed : (i : ℕ) (m : InstanceId) → i < length ps → IsTried c k i m → HasTurn l (config_at ps i) m → Contains ps (turned l (config_at ps i) m)
  pub each : length kinds ≡ length l.transactions
  pub kinds_are : (tx : TxId) (kind : Kind) → tx.0 < length kinds → (shows (slice_index_or kinds tx.0 none_seen) kind ≡ true ↔ WasSeen l ps c k tx kind)
  -- the ends are those of the configurations before, ascending
  pub ends_are : (i : ℕ) → (Contains ends i ↔ ((i < c) × IsEnd l (config_at ps i)))
  pub ascend : (i j : ℕ) → i < j → j < length ends → slice_index_or ends i 0 < slice_index_or ends j 0

-- some instance before k has a turn
pub record HasMoved (l : Listing) (p : Config) (k : ℕ) : Type 0 where
  pub instance : InstanceId
  pub before : instance.0 < k
  pub turn : HasTurn l p instance

-- the same at the configuration of number i
abbrev pub StaysAt : Shelf → Shelf → ℕ → Type 0
StaysAt old new i = (i < length new.configs) × (config_at new.configs i ≡ config_at old.configs i)

-- the list of the first configuration alone
abbrev pub first_shelf : Listing → Shelf
first_shelf l = record { variables = length l.initial; counts = length (instances l); configs = first_config l ∷ [] }

-- a search within the limit
pub record IsUnderWay (l : Listing) (limit : ℕ) (s : Shelf) (kinds : List Kinds) (ends : List ℕ) (c k : ℕ) : Type 0 where
  pub searched : IsSearched l s.configs kinds ends c k
  pub variables : s.variables ≡ length l.initial
  pub counts : s.counts ≡ length (instances l)
  pub sized : (i : ℕ) → i < length s.configs → (length (config_at s.configs i).state ≡ s.variables) × (length (config_at s.configs i).left ≡ s.counts)
  pub few : length s.configs ≤ limit
  pub small : limit ≤ 16777216
