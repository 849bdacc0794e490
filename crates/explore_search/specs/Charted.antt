-- From which configuration, and by which turn, each configuration was found.
use Rattle.std.specs.Prelude.{◌≡◌, ℕ, ◌+◌, ◌<◌, ◌≤◌, List, [], ◌∷◌, ◌++◌, length, slice_index_or}
use Rattle.txn_programs.specs.Listing.{Listing}
use Rattle.explore_law.specs.Orders.{Config, first_config, HasTurn, turned}
use Rattle.explore_search.specs.declared.search.Came.{Came}
use Rattle.explore_search.specs.Indexed.{config_at}

-- the configuration of number j was found so: from one before it
pub record CameBy (l : Listing) (ps : List Config) (j : ℕ) (step : Came) : Type 0 where
  pub before : step.from < j
  pub turn : HasTurn l (config_at ps step.from) step.by
  pub leads : config_at ps j ≡ turned l (config_at ps step.from) step.by

-- one more step, unless for each of so many configurations but the first there is one
pub record Charts (old : List Came) (configs : ℕ) (step : Came) (new : List Came) : Type 0 where
  pub more : length old + 1 < configs → new ≡ old ++ step ∷ []
  pub same : configs ≤ length old + 1 → new ≡ old

-- for each configuration but the first, how it was found
pub record IsCharted (l : Listing) (ps : List Config) (came : List Came) : Type 0 where
  pub each : length came + 1 ≡ length ps
  pub first : config_at ps 0 ≡ first_config l
  pub steps : (i : ℕ) (none : Came) → i < length came → CameBy l ps (i + 1) (slice_index_or came i none)
