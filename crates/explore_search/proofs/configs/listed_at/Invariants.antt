use Rattle.std.proofs.Common.{◌≡◌, ◌<◌, ◌≤◌, ◌-◌, ℕ, length}
use Rattle.explore_search.specs.Bucket.{bucket_of}
use Rattle.explore_search.specs.Shelf.{config}
use Rattle.explore_search.specs.Indexed.{config_at, bucket_at}
use Rattle.explore_search.proofs.configs.listed_at.Given as goal

-- the configuration is none of those from `next` on, and `next` leads to one of its bucket
abbrev pub invariant-next : goal.invariant-next
invariant-next l =
    record {
      passed : (j : ℕ) → l.next ≤ j → j < length l.rows.configs → config_at l.rows.configs j ≡ config l.values l.left → ⊥;
      own : 0 < l.next → bucket_at l.buckets l.rows.configs (l.next - 1) ≡ bucket_of l.buckets l.values l.left;
      within : l.next ≤ length l.rows.configs;
    }

abbrev pub decreases-next : goal.decreases-next
decreases-next l = l.next
