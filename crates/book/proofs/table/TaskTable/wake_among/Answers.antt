use Rattle.std.proofs.Common.{◌≡◌, ◌≢◌, ◌<◌, ◌≤◌, ◌+◌, ℕ, true, List, Some, inl, inr, map, get_or, sym, ◌∙◌, ap, subst}
use Rattle.std.specs.List.{slice_get}
use Rattle.std.proofs.lemmas.Bool.{cases_lt}
use Rattle.std.proofs.lemmas.Option.{get_or_from_slice_get}
use Rattle.book.specs.Tasks.{Task, Running, Parked}
use Rattle.book.specs.Table.{TableView, placed, waits_for, woken_for}
use Rattle.book.proofs.Among.{looked_first, looked_before}
use Rattle.book.proofs.Sets.{table_is}
use Rattle.book.proofs.Waking.{woken_last}
use Rattle.book.proofs.table.TaskTable.wake_among.Goals as goal

pub loop-at-preserved : goal.loop-at-preserved
loop-at-preserved c =
    let x = c.args.variable in
    let ts = c.loop-at.self.tasks in
    let k = c.in-Some.at in
    let task = Parked c.in-Some.ensures.parked.0 in
    let at : slice_get ts k ≡ Some task = c.in-Some.ensures.parked.1 in
    let read : get_or ts k Running ≡ task = get_or_from_slice_get ts k task Running at in
    let now : c.rouse_for.new.self ≡ placed c.loop-at.self (record { 0 = k }) (woken_for x task) = c.rouse_for.ensures ∙ ap (λ (t : Task). placed c.loop-at.self (record { 0 = k }) (woken_for x t)) read in
    record {
      tasks = ap (λ (b : TableView). map (woken_for x) b.tasks) now ∙ (looked_first x ts k task at ∙ c.loop-at.invariant.tasks);
      variables = ap (λ (b : TableView). b.variables) now ∙ c.loop-at.invariant.variables;
      spare = ap (λ (b : TableView). b.spare) now ∙ c.loop-at.invariant.spare;
      before = subst (λ (b : TableView). (j : ℕ) → j < k + 1 → slice_get (map (waits_for x) b.tasks) j ≢ Some true) (sym now)
          (looked_before x ts c.loop-at.from k task at c.loop-at.invariant.before c.in-Some.ensures.before);
    }

none_waits : (x from : ℕ) (ts : List Task) → ((j : ℕ) → j < from → slice_get (map (waits_for x) ts) j ≢ Some true) → ((j : ℕ) → from ≤ j → slice_get (map (waits_for x) ts) j ≢ Some true) → (j : ℕ) → slice_get (map (waits_for x) ts) j ≢ Some true
none_waits x from ts before behind j = elim (cases_lt j from) [ inl less ↦ before j less | inr more ↦ behind j more ]

pub returns : goal.returns
returns c =
    let x = c.args.variable in
    let ts = c.loop-at.self.tasks in
    table_is c.args.self.now ts (map (woken_for x) c.args.self.now.tasks) c.loop-at.self.variables c.loop-at.self.spare
    (sym (woken_last x ts (none_waits x c.loop-at.from ts c.loop-at.invariant.before c.in_default.ensures.none)) ∙ c.loop-at.invariant.tasks)
    c.loop-at.invariant.variables c.loop-at.invariant.spare
