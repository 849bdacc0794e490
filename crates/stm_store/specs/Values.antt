-- Programs with the same values.
use Rattle.std.specs.Prelude.{◌≡◌}
use Rattle.txn_programs.specs.Listing.{Listing}

-- the same variables and the same tables, in the same order
pub record SameValues (a b : Listing) : Type 0 where
  pub names : a.names ≡ b.names
  pub tables : a.tables ≡ b.tables
