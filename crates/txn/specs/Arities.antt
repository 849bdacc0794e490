-- How many arguments a call may have.
use Rattle.std.specs.Prelude.{ℕ, max, List, [], ◌∷◌}
use Rattle.txn_programs.specs.Tree.{Transaction}
use Rattle.txn_programs.specs.Listing.{arity}

-- the most parameters that one of the transactions has
abbrev pub most_arity : List Transaction → ℕ
most_arity [] = 0
most_arity (t ∷ ts) = max (arity t) (most_arity ts)
