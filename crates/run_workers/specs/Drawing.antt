-- Turns in an order that a generator draws: SplitMix64, which begins at a seed.
use Rattle.std.specs.Prelude.{ℕ, ◌%◌, length, Option, Some, None}
use Rattle.rand_xoshiro.specs.SplitMix64.{mix_u64}
use Rattle.txn_programs.specs.declared.ast.TaskId.{TaskId}
use Rattle.txn_programs.specs.Listing.{Listing}
use Rattle.txn_programs.specs.Told.{Told}
use Rattle.cells.specs.Cells.{CellsId}
use Rattle.book.specs.View.{BookView, opened}
use Rattle.book.specs.Turns.{TakenFrom, Turn, IsIdle, ReportIs}

-- from which number on the next task is looked for, where the generator stands so: its next word, modulo the number of tasks
abbrev pub drawn_number : ℕ → BookView → ℕ
drawn_number state b = (mix_u64 state).0 % length b.tasks

-- turns of drawn tasks, one after another, from the seed on; and where the generator stands behind them
pub data DrawnTurns (every seed : ℕ) (start : BookView) : ℕ → BookView → Type 0 where
  NoTurn : DrawnTurns every seed start seed start
  OneMore : {state : ℕ} {a : BookView} (b : BookView) {c : BookView} (task : TaskId) → DrawnTurns every seed start state a → TakenFrom (drawn_number state a) a (Some task) b → Turn every b task c → DrawnTurns every seed start (mix_u64 state).1 c

-- the report of a book to which such turns lead from the opening on, and in which no task is ready any more
pub record IsDrawn (l : Listing) (every seed : ℕ) (r : Told) : Type 0 where
  pub cells : CellsId
  pub state : ℕ
  pub book : BookView
  pub turns : DrawnTurns every seed (opened l cells 0) state book
  pub idle : IsIdle book
  pub told : ReportIs book r

-- where a run has a seed, its order is the drawn one
abbrev pub KeepsOrder : Listing → ℕ → Option ℕ → Told → Type 0
KeepsOrder l every None r = Unit {0}
KeepsOrder l every (Some seed) r = IsDrawn l every seed r
