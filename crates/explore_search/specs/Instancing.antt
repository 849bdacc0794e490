-- How the instances of a listing are found: each call is looked up among those before it, as numbers.
use Rattle.std.specs.Prelude.{◌≡◌, ◌⊎◌, ℕ, ◌-◌, pos, List, [], ◌∷◌, ◌++◌, map, length, flat_map, replicate, Some, slice_get}
use Rattle.std.specs.List.{Contains, range_with_len}
use Rattle.txn_programs.specs.declared.arguments.Call.{Call}
use Rattle.txn_programs.specs.declared.limits.TheConstants.{MAX_PARAMETERS}
use Rattle.txn_programs.specs.Listing.{Listing, calls}
use Rattle.explore_law.specs.declared.instance.InstanceId.{InstanceId}
use Rattle.explore_law.specs.Instances.{calls_to, each_once, instances}
use Rattle.explore_law.specs.Orders.{Config}
use Rattle.explore_search.specs.declared.instances.Instances.{Instances}
use Rattle.explore_search.specs.Shelf.{Shelf, config}

-- the instance that each task is of
abbrev pub TellsTasks : Listing → List InstanceId → Type 0
TellsTasks l ks = map (λ (k : InstanceId). slice_get (instances l) k.0) ks ≡ map Some (calls l)

-- the instances, and which of them each task is of
pub record TellsInstances (l : Listing) (s : Instances) : Type 0 where
  pub calls : s.calls.items ≡ instances l
  pub tasks : TellsTasks l s.of_tasks.items

-- the instances of the transactions below n
abbrev pub first_calls : Listing → ℕ → List Call
first_calls l n = flat_map (calls_to (each_once (calls l))) (range_with_len 0 n)

-- a call as numbers: its arguments, zeros behind them, its transaction, and how many arguments it has
abbrev pub key : Call → Config
key c = config (c.arguments ++ replicate (MAX_PARAMETERS - length c.arguments) (pos 0)) (c.tx.0 ∷ length c.arguments ∷ [])

abbrev pub index : List Call → Shelf
index cs = record { variables = MAX_PARAMETERS; counts = 2; configs = map key cs }

-- with the call behind the others, unless it is one of them
abbrev pub AddsCall : List Call → Call → List Call → Type 0
AddsCall old c new = (Contains old c × (new ≡ old)) ⊎ ((Contains old c → ⊥) × (new ≡ old ++ c ∷ []))
