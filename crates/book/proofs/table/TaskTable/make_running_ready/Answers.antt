use Rattle.std.proofs.Common.{◌≡◌, ◌≢◌, Some, get_or, refl, sym, ◌∙◌, ap}
use Rattle.std.proofs.lemmas.Option.{get_or_from_slice_get, slice_get-get_or}
use Rattle.book.specs.Tasks.{Task}
use Rattle.book.specs.Tasks.{Ready, Running, Parked, Done, GivenUp}
use Rattle.book.specs.Turns.{readied_one}
use Rattle.book.specs.Table.{placed, with_tasks}
use Rattle.book.proofs.Lists.{set_same}
use Rattle.book.proofs.table.TaskTable.make_running_ready.Goals as goal

pub returns-then-is_running : goal.returns-then-is_running
returns-then-is_running c =
    let v = c.args.self.now in
    let running = get_or_from_slice_get v.tasks c.args.task.0 Running Running c.if-is_running.ensures in
    c.make_ready.ensures ∙ ap (λ (t : Task). placed v c.args.task (readied_one t)) (sym running)

-- what does not run stays as it is
as_it_is : (t : Task) → t ≢ Running → readied_one t ≡ t
as_it_is Ready other = refl
as_it_is Running other = absurd (other refl)
as_it_is (Parked log) other = refl
as_it_is (Done n) other = refl
as_it_is GivenUp other = refl

pub returns-else-is_running : goal.returns-else-is_running
returns-else-is_running c =
    let v = c.args.self.now in
    let k = c.args.task.0 in
    let t = get_or v.tasks k Running in
    let at = slice_get-get_or v.tasks k Running c.requires in
    let same = as_it_is t (λ e. c.if-is_running.ensures (at ∙ ap Some e)) in
    ap (with_tasks v) (sym (set_same v.tasks k (readied_one t) (at ∙ ap Some (sym same))))
