-- The options of a run, and which are taken.
use Rattle.std.specs.Prelude.{◌≡◌, ℕ, ◌≤◌, Option, IfSome}

pub record Settings : Type 0 where
  pub workers : ℕ
  -- stale attempts of a task before it is run under the lock
  pub tries : ℕ
  -- journal entries after which the base moves to the present values, 0 for never
  pub checkpoint : ℕ
  -- where the order of the tasks is drawn, the number that the generator begins at
  pub seed : Option ℕ

abbrev pub most_workers : ℕ
most_workers = 16

abbrev pub most_tries : ℕ
most_tries = 64

-- between two checkpoints
abbrev pub most_entries : ℕ
most_entries = 65536

pub record AreAllowed (s : Settings) : Type 0 where
  pub workers_from : 1 ≤ s.workers
  pub workers_to : s.workers ≤ most_workers
  pub tries_from : 1 ≤ s.tries
  pub tries_to : s.tries ≤ most_tries
  pub checkpoint : s.checkpoint ≤ most_entries
  -- an order is drawn for one worker alone
  pub alone : IfSome s.seed (λ n. s.workers ≡ 1)
