-- An attempt that has ended, and becomes the committer.
use Rattle.std.specs.Prelude.{◌≡◌, ℕ, Bool, Decides, take, Option, Some, None}
use Rattle.std.specs.List.{slice_get}
use Rattle.txn_words.specs.Words.{last_state}
use Rattle.txn_programs.specs.declared.ast.TaskId.{TaskId}
use Rattle.txn_programs.specs.declared.ast.Outcome.{Outcome}
use Rattle.txn_programs.specs.declared.ast.Outcome.TheVariants.{Retries}
use Rattle.attempt.specs.Frame.{Agrees}
use Rattle.attempt.specs.View.{next_of}
use Rattle.world_law.specs.declared.events.Fate.TheVariants as fate
use Rattle.world_law.specs.declared.events.Seen.{Seen}
use Rattle.world_law.specs.declared.events.Seen.TheVariants as seen
use Rattle.world_law.specs.World.{committing}
use Rattle.world.specs.declared.trial.Trial.{Trial}
use Rattle.world.specs.declared.scene.Scene.{Scene}
use Rattle.world.specs.Inside.{world_of, all_states, Kept, IsTheRunning, IsOnly}

-- the place of the task's running attempt that has ended, and whether it retried
abbrev pub FindsEnded : Scene → TaskId → Option (ℕ × Bool) → Type 0
FindsEnded c a (Some r) =
    (y : Trial) × (o : Outcome) × IsTheRunning c a r.0 y × (y.at ≡ next_of o) × IsOnly c a r.0 × Decides r.1 (o ≡ Retries)
FindsEnded c a None = (i : ℕ) (y : Trial) (o : Outcome) → IsTheRunning c a i y → y.at ≡ next_of o → ⊥

-- what the attempt at the place read is so in the last state
abbrev pub AgreesAt : Scene → ℕ → Bool → Type 0
AgreesAt c i b = (y : Trial) → slice_get c.trials.items i ≡ Some y → Decides b (Agrees y.attempt.log (last_state (take c.count (all_states c))))

-- an attempt that runs and has ended is there, and no one commits
abbrev pub CanCommit : Scene → ℕ → Type 0
CanCommit c i = (c.committer ≡ None) × ((y : Trial) × (o : Outcome) × (slice_get c.trials.items i ≡ Some y) × (y.fate ≡ fate.Running) × (y.at ≡ next_of o))

-- it has become the committer
abbrev pub BecomesCommitter : Scene → ℕ → Seen → Scene → Type 0
BecomesCommitter c i s c' =
    (c'.catalogue ≡ c.catalogue) × Kept c' × (s ≡ seen.Commits c.count)
    × ((y : Trial) → slice_get c.trials.items i ≡ Some y → world_of c' ≡ record (world_of c) { committer = Some (committing (world_of c) i y.attempt.writes) })
