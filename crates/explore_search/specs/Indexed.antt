-- Buckets that lead to their configurations, from the last to the first.
use Rattle.std.specs.Prelude.{◌≡◌, ℕ, ◌-◌, ◌<◌, ◌≤◌, List, length, slice_index_or}
use Rattle.explore_law.specs.Orders.{Config}
use Rattle.explore_search.specs.Bucket.{bucket_of}
use Rattle.explore_search.specs.Shelf.{nowhere}

abbrev pub config_at : List Config → ℕ → Config
config_at ps i = slice_index_or ps i nowhere

abbrev pub bucket_at : ℕ → List Config → ℕ → ℕ
bucket_at buckets ps i = bucket_of buckets (config_at ps i).state (config_at ps i).left

-- to the last configuration of the bucket b leads `next`: one more than its number, or 0 where there is none below n
pub record LeadsBelow (buckets : ℕ) (ps : List Config) (n next b : ℕ) : Type 0 where
  pub within : next ≤ n
  pub own : 0 < next → bucket_at buckets ps (next - 1) ≡ b
  pub all : (j : ℕ) → j < n → bucket_at buckets ps j ≡ b → j < next

abbrev pub LeadsToAll : ℕ → List Config → ℕ → ℕ → Type 0
LeadsToAll buckets ps next b = LeadsBelow buckets ps (length ps) next b

-- each configuration leads to the one before it in its bucket
pub record IsLinked (buckets : ℕ) (ps : List Config) (links : List ℕ) : Type 0 where
  pub each : length links ≡ length ps
  pub back : (i : ℕ) → i < length ps → LeadsBelow buckets ps i (slice_index_or links i 0) (bucket_at buckets ps i)

pub record IsIndexed (ps : List Config) (heads links : List ℕ) : Type 0 where
  pub some : 0 < length heads
  pub leads : (b : ℕ) → b < length heads → LeadsToAll (length heads) ps (slice_index_or heads b 0) b
  pub linked : IsLinked (length heads) ps links
  pub once : (i j : ℕ) → i < length ps → j < length ps → config_at ps i ≡ config_at ps j → i ≡ j
