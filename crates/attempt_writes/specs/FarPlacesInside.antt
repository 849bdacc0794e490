-- What the fields of numbers with a place each keep.
use Rattle.std.specs.Prelude.{◌≡◌, ◌≤◌, length}
use Rattle.attempt_writes.specs.declared.far_places.FarPlaces.TheInside.{Inside}

pub record HavePlaces (f : Inside) : Type 0 where
  pub each : length f.places.items ≡ length f.numbers
  -- the first eight lie in the value itself
  pub short : 8 ≤ f.places.capacity
