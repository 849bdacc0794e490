-- Behind a turn, and behind an end that is no longer stale, a task is over.
use Rattle.std.proofs.Common.{◌≡◌, ◌≢◌, ℕ, zero, suc, ◌+◌, List, [], ◌∷◌, length, map, Some, set, refl, sym, ◌∙◌, ap, arith}
use Rattle.std.specs.List.{slice_get}
use Rattle.std.proofs.lemmas.Bool.{cond_both}
use Rattle.std.proofs.lemmas.List.{length-set, get_or-set_same}
use Rattle.std.proofs.lemmas.Option.{slice_get_within, slice_get-get_or, same_Some}
use Rattle.txn_programs.specs.declared.ast.TaskId.{TaskId}
use Rattle.txn_programs.specs.Meaning.{after}
use Rattle.txn_programs.specs.Listing.{task_program}
use Rattle.book.specs.Tasks.{Task}
use Rattle.book.specs.Tasks.{Ready, Running, Parked, Done, GivenUp}
use Rattle.book.specs.declared.task.Serial.{Serial}
use Rattle.book.specs.declared.task.Serial.TheVariants as serial
use Rattle.book.specs.View.{BookView, IsRunning, stands, woken, committed, checkpointed}
use Rattle.book.specs.Turns.{Served, kept_short, is_due}
use Rattle.run_workers.specs.Standing.{IsOver}

set_same : (ts : List Task) (k : ℕ) (x y : Task) → slice_get ts k ≡ Some x → slice_get (set ts k y) k ≡ Some y
set_same ts k x y there =
    let within = slice_get_within ts k x there in
    slice_get-get_or (set ts k y) k y (omega (arith, length-set ts k y, within)) ∙ ap Some (get_or-set_same ts k y y within)

map_get : (f : Task → Task) (ts : List Task) (k : ℕ) (t : Task) → slice_get ts k ≡ Some t → slice_get (map f ts) k ≡ Some (f t)
map_get f [] k t h = absurd (cc)
map_get f (u ∷ ts) zero t h = ap Some (ap f (same_Some _ _ h))
map_get f (u ∷ ts) (suc k) t h = map_get f ts k t h

committed_tasks : (b : BookView) (task : TaskId) → (committed b task).tasks ≡ map (woken b.present.state (after (task_program b.catalogue task) b.present.state)) (set b.tasks task.0 (Done (b.present.number + 1)))
unfolding committed
committed_tasks b task = refl

-- a task that stands so does not run
stands_over : (b : BookView) (task : TaskId) (how : Task) → IsRunning b task → how ≢ Running → IsOver (stands b task how) task
stands_over b task how running other e = other (same_Some _ _ (sym (set_same b.tasks task.0 Running how running) ∙ e))

pub parked_over : (b c : BookView) (task : TaskId) (how : Task) → IsRunning b task → how ≢ Running → c ≡ stands b task how → IsOver c task
parked_over b c task how running other is e = stands_over b task how running other (ap (λ (x : BookView). slice_get x.tasks task.0) (sym is) ∙ e)

pub committed_over : (b c : BookView) (task : TaskId) → IsRunning b task → c ≡ committed b task → IsOver c task
committed_over b c task running is e =
    let f = woken b.present.state (after (task_program b.catalogue task) b.present.state) in
    let done = set b.tasks task.0 (Done (b.present.number + 1)) in
    let there : slice_get c.tasks task.0 ≡ Some (Done (b.present.number + 1)) =
    ap (λ (x : BookView). slice_get x.tasks task.0) is
    ∙ (ap (λ (ts : List Task). slice_get ts task.0) (committed_tasks b task)
    ∙ map_get f done task.0 (Done (b.present.number + 1)) (set_same b.tasks task.0 Running (Done (b.present.number + 1)) running)) in
    let two : Some (Done (b.present.number + 1)) ≡ Some Running = sym there ∙ e in
    cc

kept_tasks : (every : ℕ) (how : Serial) (c : BookView) → (kept_short every how c).tasks ≡ c.tasks
kept_tasks every how c = cond_both (is_due every how c) (checkpointed c) c (λ (b : BookView). b.tasks ≡ c.tasks) (λ e. refl) (λ e. refl)

-- a checkpoint leaves it over
pub kept_over : (every : ℕ) (how : Serial) (c d : BookView) (task : TaskId) → d ≡ kept_short every how c → IsOver c task → IsOver d task
kept_over every how c d task is over e =
    over (ap (λ (ts : List Task). slice_get ts task.0) (sym (ap (λ (x : BookView). x.tasks) is ∙ kept_tasks every how c)) ∙ e)

pub served_over : (b c : BookView) (task : TaskId) (how : Serial) → Served b task how c → IsOver c task
served_over b c task serial.NotRunning h e = h.0 (ap (λ (x : BookView). slice_get x.tasks task.0) (sym h.1) ∙ e)
served_over b c task serial.Parked h e = parked_over b c task (Parked h.2.0) h.0 (λ x. cc) h.2.2 e
served_over b c task (serial.Committed n) h e = committed_over b c task h.0 h.3 e
served_over b c task serial.Abandoned h e = parked_over b c task GivenUp h.0 (λ x. cc) h.1 e
