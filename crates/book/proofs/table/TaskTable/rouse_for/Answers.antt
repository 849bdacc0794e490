use Rattle.std.proofs.Common.{◌≡◌, ◌∙◌, true, false, Some, get_or, sym, ap}
use Rattle.std.proofs.lemmas.Bool.{cond-true, cond-false}
use Rattle.std.proofs.lemmas.Option.{same_Some, get_or_from_slice_get}
use Rattle.book.specs.Tasks.{Ready, Running, Parked}
use Rattle.book.specs.Table.{placed, with_tasks, waits_for, woken_for}
use Rattle.book.proofs.Lists.{map_get, set_same}
use Rattle.book.proofs.table.TaskTable.rouse_for.Goals as goal

pub returns-then-is_waiting_for : goal.returns-then-is_waiting_for
returns-then-is_waiting_for c =
    let v = c.args.self.now in
    let t = c.args.task.0 in
    let x = c.args.variable in
    let task = Parked c.requires.parked.0 in
    let read : get_or v.tasks t Running ≡ task = get_or_from_slice_get v.tasks t task Running c.requires.parked.1 in
    let waits : waits_for x task ≡ true = same_Some _ _ (sym (map_get (waits_for x) v.tasks t task c.requires.parked.1) ∙ (c.is_waiting_for.ensures ∙ ap Some c.if-is_waiting_for.true)) in
    c.rouse_wide.ensures ∙ ap (placed v c.args.task) (sym (ap (woken_for x) read ∙ cond-true (waits_for x task) Ready task waits))

pub returns-else-is_waiting_for : goal.returns-else-is_waiting_for
returns-else-is_waiting_for c =
    let v = c.args.self.now in
    let t = c.args.task.0 in
    let x = c.args.variable in
    let task = Parked c.requires.parked.0 in
    let read : get_or v.tasks t Running ≡ task = get_or_from_slice_get v.tasks t task Running c.requires.parked.1 in
    let waits : waits_for x task ≡ false = same_Some _ _ (sym (map_get (waits_for x) v.tasks t task c.requires.parked.1) ∙ (c.is_waiting_for.ensures ∙ ap Some c.if-is_waiting_for.false)) in
    sym (ap (placed v c.args.task) (ap (woken_for x) read ∙ cond-false (waits_for x task) Ready task waits)
    ∙ ap (with_tasks v) (set_same v.tasks t task c.requires.parked.1))
