-- Turns in a drawn order end, and keep what turns keep.
use Rattle.std.proofs.Common.{◌≡◌, ◌≢◌, ℕ, length, replicate, zero, suc, Option, Some, None, Result, Ok, Err, IfOk, refl, sym, subst}
use Rattle.std.specs.List.{slice_get}
use Rattle.std.proofs.Math.Nat.{zero-mod}
use Rattle.txn_programs.specs.declared.ast.TaskId.{TaskId}
use Rattle.txn_programs.specs.Listing.{Listing, tasks}
use Rattle.cells.specs.Cells.{CellsId}
use Rattle.book.specs.Tasks.{Ready, Running}
use Rattle.book.specs.View.{BookView, opened}
use Rattle.book.specs.Turns.{TakenFrom}
use Rattle.book.specs.GivingUp.{GivesUpForMemory}
use Rattle.book.proofs.Draining.{Starts}
use Rattle.book.proofs.GivingUp.{gives_stands}
use Rattle.book_storage.specs.declared.run_report.RunReport.{RunReport}
use Rattle.book_storage.specs.PackedEntries.{told_run}
use Rattle.run_workers.specs.Drawing.{DrawnTurns, KeepsOrder}
use Rattle.run_workers.proofs.Journals.{Keeps, Shortens, turn_keeps}

pub starts : (number : ℕ) (a b : BookView) (task : TaskId) → TakenFrom number a (Some task) b → Starts a task b
starts number a b task taken = (taken.0.here, taken.1)

pub gives_started : (a b : BookView) (task : TaskId) → Starts a task b → GivesUpForMemory a → GivesUpForMemory b
gives_started a b task s h = subst GivesUpForMemory (sym s.1) (gives_stands a task Ready Running s.0 (λ e. absurd (cc)) h)

drawn_keeps : (every seed : ℕ) (start : BookView) (end : ℕ) (b : BookView) → Keeps every start → DrawnTurns every seed start end b → Keeps every b
drawn_keeps every seed start end b h DrawnTurns.NoTurn = h
drawn_keeps every seed start end b h (DrawnTurns.OneMore {state} {a} m task d taken t) =
    let before : Keeps every a = drawn_keeps every seed start state a h d in
    let started : Keeps every m = subst (Keeps every) (sym taken.1) before in
    subst (Keeps every) (sym t.1.2) (turn_keeps every m t.1.0 task t.0 started t.1.1)

opened_keeps : (every : ℕ) (l : Listing) (cells : CellsId) → Keeps every (opened l cells 0)
opened_keeps every l cells =
    record {
      short = record { never = λ none. refl; fewer = λ some. some; whole = λ some. zero-mod every };
      numbered = refl;
    }

-- the journal of a book that opened, behind drawn turns
pub drawn_short : (every seed : ℕ) (l : Listing) (cells : CellsId) (state : ℕ) (b : BookView) → DrawnTurns every seed (opened l cells 0) state b → Shortens every b
drawn_short every seed l cells state b turns = (drawn_keeps every seed (opened l cells 0) state b (opened_keeps every l cells) turns).short

ready_not_running : (n k : ℕ) → slice_get (replicate n Ready) k ≢ Some Running
ready_not_running zero k e = cc
ready_not_running (suc n) zero e = cc
ready_not_running (suc n) (suc k) e = ready_not_running n k e

-- no task runs in a book that opened
pub opened_idle : (l : Listing) (cells : CellsId) (k : ℕ) → slice_get (opened l cells 0).tasks k ≢ Some Running
opened_idle l cells k e = ready_not_running (length (tasks l)) k e

-- a run without a seed may keep any order
pub any_order : {E : Type 0} (l : Listing) (every : ℕ) (seed : Option ℕ) → seed ≡ None → (r : Result RunReport E) → IfOk r (λ (r : RunReport). KeepsOrder l every seed (told_run r))
any_order l every seed none (Ok r) = subst (λ (s : Option ℕ). KeepsOrder l every s (told_run r)) (sym none) tt
any_order l every seed none (Err m) = tt
