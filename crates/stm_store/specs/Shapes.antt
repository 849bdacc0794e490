-- What turns leave of a book.
use Rattle.std.specs.Prelude.{◌≡◌, length}
use Rattle.book.specs.View.{BookView}

-- the same cells, as many tasks, and as much room
pub record IsSameShape (old new : BookView) : Type 0 where
  pub cells : new.cells ≡ old.cells
  pub tasks : length new.tasks ≡ length old.tasks
  pub spare : new.spare ≡ old.spare
  pub room : new.room ≡ old.room
