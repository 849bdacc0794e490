-- The configuration, of those at which something shows, to which the fewest turns lead.
use Rattle.std.specs.Prelude.{◌≡◌, ℕ, ◌<◌, ◌≤◌, List, length, sum, Option, Some, None}
use Rattle.txn_programs.specs.declared.ast.TxId.{TxId}
use Rattle.txn_programs.specs.Listing.{Listing}
use Rattle.explore_law.specs.declared.instance.InstanceId.{InstanceId}
use Rattle.explore_law.specs.declared.sought.Sought.{Sought}
use Rattle.explore_law.specs.Finding.{ShowsAt, ShowsBy}
use Rattle.explore_law.specs.Instances.{instances, instance_at}
use Rattle.explore_law.specs.Orders.{Config}
use Rattle.explore_search.specs.Indexed.{config_at}

-- each configuration has a value for each variable, and a count for each instance
abbrev pub AreSized : Listing → List Config → Type 0
AreSized l ps = (i : ℕ) → i < length ps → (length (config_at ps i).state ≡ length l.initial) × (length (config_at ps i).left ≡ length (instances l))

-- it shows at the configuration by the instance, which is one of the transaction
abbrev pub ShowsByOwn : Listing → TxId → InstanceId → Sought → Config → Type 0
ShowsByOwn l tx k s p = ((instance_at l k).tx ≡ tx) × ShowsBy l k s p

-- it shows there by none of its instances that is before this one
abbrev pub NoneBefore : Listing → TxId → InstanceId → Sought → Config → Type 0
NoneBefore l tx k s p = (before : InstanceId) → before.0 < k.0 → ShowsByOwn l tx before s p → ⊥

-- by the answer: it shows at the configuration by this instance of the transaction, and by none before it; or by none
abbrev pub ByOrNone : Listing → TxId → Sought → Config → Option InstanceId → Type 0
ByOrNone l tx s p None = ShowsAt l tx s p → ⊥
ByOrNone l tx s p (Some k) = ShowsByOwn l tx k s p × NoneBefore l tx k s p

-- it shows at the configuration of number j by the instance k, and by none before it; and at no configuration before n at
-- which more tasks are left
pub record IsNearest (l : Listing) (tx : TxId) (s : Sought) (ps : List Config) (n j : ℕ) (k : InstanceId) : Type 0 where
  pub listed : j < n
  pub own : (instance_at l k).tx ≡ tx
  pub shows : ShowsBy l k s (config_at ps j)
  pub first : NoneBefore l tx k s (config_at ps j)
  pub most : (i : ℕ) → i < n → ShowsAt l tx s (config_at ps i) → sum (config_at ps i).left ≤ sum (config_at ps j).left

-- by the answer: such a configuration before n with the instance, or it shows at none of these
abbrev pub IsNearestOrNone : Listing → TxId → Sought → List Config → ℕ → Option (ℕ × InstanceId) → Type 0
IsNearestOrNone l tx s ps n None = (i : ℕ) → i < n → ShowsAt l tx s (config_at ps i) → ⊥
IsNearestOrNone l tx s ps n (Some at) = IsNearest l tx s ps n at.0 at.1
