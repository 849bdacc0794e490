-- What the fields of rows mean, and what they keep.
use Rattle.std.specs.Prelude.{ℕ, ℤ, ◌*◌, ◌≤◌, List, map, length, take, drop}
use Rattle.std.specs.List.{range_with_len}
use Rattle.explore_law.specs.Orders.{Config}
use Rattle.explore_search.specs.declared.rows.Rows.TheInside.{Inside}
use Rattle.explore_search.specs.Packed.{numbers, counts}
use Rattle.explore_search.specs.Shelf.{Shelf}

-- the configuration of number i: its values and its counts lie behind those of the configurations before it
abbrev pub row : ℕ → ℕ → List ℤ → List ℕ → ℕ → Config
row w v xs ys i = record { state = take w (drop (i * w) xs); left = take v (drop (i * v) ys) }

unfoldable pub rows : ℕ → ℕ → List ℤ → List ℕ → ℕ → List Config
rows w v xs ys n = map (row w v xs ys) (range_with_len 0 n)

abbrev pub viewed : Inside → Shelf
viewed a =
    record {
      variables = a.variables;
      counts = a.counts;
      configs = rows a.variables a.counts (numbers a.values) (counts a.lefts) a.count;
    }

pub record IsKept (a : Inside) : Type 0 where
  pub values : a.count * a.variables ≤ length (numbers a.values)
  pub lefts : a.count * a.counts ≤ length (counts a.lefts)
