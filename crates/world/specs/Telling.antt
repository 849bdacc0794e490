-- What a world tells of an attempt.
use Rattle.std.specs.Prelude.{◌≡◌, ℕ, Some}
use Rattle.std.specs.List.{slice_get}
use Rattle.txn_programs.specs.declared.ast.TaskId.{TaskId}
use Rattle.attempt.specs.Asking.{Known}
use Rattle.world_law.specs.World.{Started, World}
use Rattle.world_law.specs.declared.events.Fate.{Fate}

-- the attempt at the place i is of this task, reads this state, has read so much, and this became of it
abbrev pub Tells : World → ℕ → TaskId → ℕ → Known → Fate → Type 0
Tells w i a rv log f =
    (y : Started) × (slice_get w.attempts i ≡ Some y) × (y.task ≡ a) × (y.rv ≡ rv) × (y.log ≡ log) × (y.fate ≡ f)
