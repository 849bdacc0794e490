-- Which transactions of a program are long.
use Rattle.std.specs.Prelude.{◌≡◌, ℕ, Bool, true, false, List, length, map}
use Rattle.txn_programs.specs.Listing.{Listing}
use Rattle.txn.specs.declared.weights.Size.{Size}
use Rattle.txn.specs.declared.weights.Size.TheVariants.{Long}

abbrev pub is_long : Size → Bool
is_long Long = true
is_long _ = false

-- 1 for a long one, else 0
abbrev pub long_flag : Size → ℕ
long_flag Long = 1
long_flag _ = 0

-- whether each transaction is long, in their order, by what was found to be its size
pub record AreMarks (l : Listing) (marks : List Bool) : Type 0 where
  pub sizes : List Size
  pub one_each : length sizes ≡ length l.transactions
  pub marked : marks ≡ map is_long sizes

-- a flag for each transaction, in their order, by what was found to be its size
pub record AreFlags (l : Listing) (flags : List ℕ) : Type 0 where
  pub sizes : List Size
  pub one_each : length sizes ≡ length l.transactions
  pub flagged : flags ≡ map long_flag sizes
