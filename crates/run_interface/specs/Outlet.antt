-- A sink over a writer, as its callers see it.
use Rattle.std.specs.Prelude.{ℕ, Bool}

pub record Outlet (W : Type 0) : Type 0 where
  pub writer : W
  -- how many calls failed
  pub failures : ℕ
  -- no put came after the last flush that succeeded
  pub flushed : Bool
