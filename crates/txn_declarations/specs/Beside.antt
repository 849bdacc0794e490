-- The limits beside standing conditions.
use Rattle.std.specs.Prelude.{ℕ, ◌+◌, Bool, ◌&&◌, nat_le}
use Rattle.txn_programs.specs.Tree.{Transaction}
use Rattle.txn_programs.specs.Cost.{statement_cost, expression_cost}
use Rattle.txn_programs.specs.Depth.{statement_depth, expression_depth}
use Rattle.txn_programs.specs.Limits.{deepest, most_times, highest_cost, largest_repeat}

abbrev pub fits_beside : ℕ → Transaction → Bool
fits_beside always t =
    nat_le (statement_depth t.body) deepest && (nat_le (expression_depth t.result) deepest
    && (nat_le (largest_repeat t.body) most_times && nat_le (statement_cost t.body + expression_cost t.result + always) highest_cost))
