-- What the fields of a log with its table of places keep.
use Rattle.std.specs.Prelude.{◌≡◌, ◌≤◌, [], false, length, take}
use Rattle.attempt_writes.specs.declared.log_table.LogTable.TheInside.{Inside}
use Rattle.attempt_writes.specs.Known.{Known}
use Rattle.attempt_writes.specs.Order.{AllKnown, Apart}
use Rattle.attempt_writes.specs.Places.{ArePlaced, far_of}

-- the pairs are the first lines
abbrev pub pairs_of : Inside → Known
pairs_of b = take b.count b.lines.items

pub record IsKept (b : Inside) : Type 0 where
  pub known : AllKnown 1048832 (pairs_of b)
  pub apart : Apart (pairs_of b)
  pub placed : ArePlaced 0 (pairs_of b) b.places
  pub far : b.far ≡ far_of 0 (pairs_of b)
  pub narrow : b.is_wide ≡ false → b.far ≡ []
  pub wide : length b.places ≡ 256
  pub within : b.count ≤ b.room
  pub room : b.room ≡ length b.lines.items
  -- the first eight pairs have their line
  pub short : 8 ≤ b.room
