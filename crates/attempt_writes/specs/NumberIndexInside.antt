-- What the fields of a list of numbers that are found by themselves keep.
use Rattle.std.specs.Prelude.{◌≤◌, ◌<◌, length, eqb}
use Rattle.std.specs.List.{AllByRecursion, IsDistinct}
use Rattle.attempt_writes.specs.declared.number_index.NumberIndex.TheInside.{Inside}
use Rattle.attempt_writes.specs.NumberIndex.{IsFound}

pub record IsIndexed (a : Inside) : Type 0 where
  pub distinct : IsDistinct eqb a.numbers.items
  pub known : AllByRecursion (λ n. n < 1048832) a.numbers.items
  pub found : IsFound a.numbers.items (length a.numbers.items) a.heads.items a.links.items
  -- the first eight lie in the list itself
  pub short : 8 ≤ a.numbers.capacity
