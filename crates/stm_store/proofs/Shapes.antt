-- Whatever a book is told, its cells, its room and the number of its tasks stay the same.
use Rattle.std.proofs.Common.{◌≡◌, ◌∙◌, ℕ, ◌+◌, Bool, true, false, if◌then◌else◌, Option, None, Some, set, refl, sym, subst}
use Rattle.std.proofs.lemmas.List.{length-set, length-map}
use Rattle.txn_programs.specs.declared.ast.TaskId.{TaskId}
use Rattle.txn_programs.specs.Meaning.{after}
use Rattle.txn_programs.specs.Listing.{task_program}
use Rattle.book.specs.declared.task.Serial.{Serial}
use Rattle.book.specs.declared.task.Serial.TheVariants as serial
use Rattle.book.specs.Tasks.{Task, Done}
use Rattle.book.specs.View.{BookView, committed, checkpointed, stands, woken}
use Rattle.book.specs.Turns.{Taken, Served, Turn, Drains, NoTurn, OneMore, readied, readied_one, is_due, kept_short}
use Rattle.stm_store.specs.Shapes.{IsSameShape}

pub same_shape : (b : BookView) → IsSameShape b b
same_shape b = record { cells = refl; tasks = refl; spare = refl; room = refl }

-- a book that is another one, which has the shape
pub is_shape : (old b new : BookView) → IsSameShape old b → new ≡ b → IsSameShape old new
is_shape old b new s e = subst (IsSameShape old) (sym e) s

pub then_shape : (a b c : BookView) → IsSameShape a b → IsSameShape b c → IsSameShape a c
then_shape a b c s t =
    record {
      cells = t.cells ∙ s.cells;
      tasks = t.tasks ∙ s.tasks;
      spare = t.spare ∙ s.spare;
      room = t.room ∙ s.room;
    }

pub stands_shape : (b : BookView) (task : TaskId) (how : Task) → IsSameShape b (stands b task how)
stands_shape b task how = record { cells = refl; tasks = length-set b.tasks task.0 how; spare = refl; room = refl }

pub committed_shape : (b : BookView) (task : TaskId) → IsSameShape b (committed b task)
unfolding committed
committed_shape b task =
    record {
      cells = refl;
      tasks = length-map (set b.tasks task.0 (Done (b.present.number + 1))) (woken b.present.state (after (task_program b.catalogue task) b.present.state))
          ∙ length-set b.tasks task.0 (Done (b.present.number + 1));
      spare = refl;
      room = refl;
    }

short_case : (due : Bool) (b : BookView) → IsSameShape b (if due then checkpointed b else b)
short_case true b = record { cells = refl; tasks = refl; spare = refl; room = refl }
short_case false b = same_shape b

pub short_shape : (every : ℕ) (how : Serial) (b : BookView) → IsSameShape b (kept_short every how b)
short_shape every how b = short_case (is_due every how b) b

pub taken_shape : (old new : BookView) (task : Option TaskId) → Taken old task new → IsSameShape old new
taken_shape old new None h = is_shape old old new (same_shape old) h.1
taken_shape old new (Some task) h = is_shape old _ new (stands_shape old task _) h.2

pub served_shape : (old new : BookView) (task : TaskId) (how : Serial) → Served old task how new → IsSameShape old new
served_shape old new task serial.NotRunning h = is_shape old old new (same_shape old) h.1
served_shape old new task serial.Parked h = is_shape old _ new (stands_shape old task _) h.2.2
served_shape old new task (serial.Committed n) h = is_shape old _ new (committed_shape old task) h.3
served_shape old new task serial.Abandoned h = is_shape old _ new (stands_shape old task _) h.1

turn_shape : (every : ℕ) (old new : BookView) (task : TaskId) → Turn every old task new → IsSameShape old new
turn_shape every old new task (how, (b, served, short)) =
    then_shape old b new (served_shape old b task how served) (is_shape b _ new (short_shape every how b) short)

drained : (every : ℕ) (start new : BookView) → Drains every start new → IsSameShape start new
drained every start new NoTurn = same_shape start
drained every start new (OneMore {a} b task before taken turn) =
    then_shape start a new (drained every start a before) (then_shape a b new (taken_shape a b (Some task) taken) (turn_shape every b new task turn))

pub drained_shape : (every : ℕ) (old new : BookView) → Drains every (readied old) new → IsSameShape old new
drained_shape every old new h =
    then_shape old (readied old) new
    (record { cells = refl; tasks = length-map old.tasks readied_one; spare = refl; room = refl })
    (drained every (readied old) new h)

-- a commit, and a checkpoint where one is due
pub entered_shape : (every : ℕ) (how : Serial) (old b new : BookView) (task : TaskId) → b ≡ committed old task → new ≡ kept_short every how b → IsSameShape old new
entered_shape every how old b new task is short =
    then_shape old b new (is_shape old _ b (committed_shape old task) is) (is_shape b _ new (short_shape every how b) short)
