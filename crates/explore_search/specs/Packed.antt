-- What is meant by values and counts that are kept in few bytes.
use Rattle.std.specs.Prelude.{ℕ, ℤ, List}
use Rattle.explore_search.specs.declared.values.Values.{Values}
use Rattle.explore_search.specs.declared.values.Values.TheVariants as values
use Rattle.explore_search.specs.declared.lefts.Lefts.{Lefts}
use Rattle.explore_search.specs.declared.lefts.Lefts.TheVariants as lefts

-- the values, in as many bytes as they take
abbrev pub numbers : Values → List ℤ
numbers (values.Narrow list) = list.items
numbers (values.Wide list) = list.items

-- the counts, in as many bytes as they take
abbrev pub counts : Lefts → List ℕ
counts (lefts.Narrow list) = list.items
counts (lefts.Wide list) = list.items
