-- What the fields of the own writes of far variables keep.
use Rattle.std.specs.Prelude.{◌≡◌, ◌<◌, ◌≤◌, ◌+◌, ◌^◌, length, eqb, vec_capacity}
use Rattle.std.specs.List.{IsDistinct}
use Rattle.attempt_writes.specs.declared.far_writes.FarWrites.TheInside.{Inside}
use Rattle.attempt_writes.specs.Notes.{AreHinted, AreInside}

pub record HaveLines (f : Inside) : Type 0 where
  pub distinct : IsDistinct eqb f.numbers
  pub each : length f.table.items ≡ length f.numbers
  pub hints : length f.noted.items ≡ length f.numbers
  pub inside : AreInside (length f.table.items) f.notes.items
  pub hinted : AreHinted 0 f.notes.items f.noted.items
  -- all pairs have room
  pub room : 0 < length f.numbers → 256 + length f.numbers ≤ vec_capacity f.pairs
  -- a place of a note fits in 32 bits
  pub few : length f.notes.items ≤ 2 ^ 32
