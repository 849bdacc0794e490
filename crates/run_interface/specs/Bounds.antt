-- How many places can be asked for.
use Rattle.std.specs.Prelude.{ℕ, ◌≤◌}

pub record IsAllowed (states : ℕ) : Type 0 where
  pub from : 1 ≤ states
  pub to : states ≤ 16777216
