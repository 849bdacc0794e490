use Rattle.std.proofs.Common.{◌≡◌, ℕ, ◌<◌, ◌≤◌, ◌-◌, get_or, length}
use Rattle.attempt_writes.specs.NumberIndex.{bucket_of}
use Rattle.attempt_writes.proofs.number_index.follow.Given as goal

abbrev pub invariant-loop-at : goal.invariant-loop-at
invariant-loop-at l = record {
  within : l.at ≤ length l.numbers;
  here : 0 < l.at → bucket_of (length l.heads) (get_or l.numbers (l.at - 1) 0) ≡ bucket_of (length l.heads) l.number;
  passed : (k : ℕ) → l.at ≤ k → k < length l.numbers → get_or l.numbers k 0 ≡ l.number → ⊥;
}

abbrev pub decreases-loop-at : goal.decreases-loop-at
decreases-loop-at l = l.at
