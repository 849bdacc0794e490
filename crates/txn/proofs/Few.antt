-- A catalogue has few transactions.
use Rattle.std.proofs.Common.{◌≡◌, ◌≤◌, true, length}
use Rattle.txn_programs.specs.Listing.{Listing}
use Rattle.txn_programs.specs.Limits.{limits_hold}
use Rattle.txn_programs.proofs.Lawful.{limits_parts}

pub few_transactions : (l : Listing) → limits_hold l ≡ true → length l.transactions ≤ 256
few_transactions l h = (limits_parts l h).transactions
