use Rattle.std.proofs.Common.{◌≡◌, ℕ, ◌+◌, ◌-◌, ◌<◌, cond, List, length, get_or, sym, ◌∙◌, ap, subst, arith}
use Rattle.book.specs.Tasks.{Task, Running}
use Rattle.book.specs.Table.{TableView}
use Rattle.book.specs.Carrying.{stays, carried}
use Rattle.book.proofs.Rows.{length_shown}
use Rattle.book.proofs.Sets.{few_slots}
use Rattle.book.proofs.Carrying.{MovedDown, moved_left, moved_next, moved_all}
use Rattle.book.specs.TableInside.{kept_of}
use Rattle.book.proofs.table.TaskTable.carry_on.Goals as goal

pub settle-kept-requires-clause-from : goal.settle-kept-requires-clause-from
settle-kept-requires-clause-from c =
    let l = c.tasks in
    let was = c.args.self.now.tasks in
    omega (arith, moved_left was l.i l.kept l.self.tasks (omega (arith, c.tasks-test.true, c.requires)) l.invariant.moved, l.invariant.moved.size)

pub settle-kept-requires-clause-to : goal.settle-kept-requires-clause-to
settle-kept-requires-clause-to c = c.tasks.invariant.moved.low

pub settle-kept-requires-clause-free : goal.settle-kept-requires-clause-free
settle-kept-requires-clause-free c = let l = c.tasks in λ less. l.invariant.moved.free l.kept (omega arith) less

pub overflow_add-i : goal.overflow_add-i
overflow_add-i c =
    let s = c.self.inside in
    let l = c.tasks in
    let within = moved_left c.args.self.now.tasks l.i l.kept l.self.tasks (omega (arith, c.tasks-test.true, c.requires)) l.invariant.moved in
    omega (arith, within, ap (λ (b : TableView). length b.tasks) c.self.view_is, length_shown s.variables (kept_of s) s.standings.items, few_slots s c.self.invariant)

pub tasks-preserved : goal.tasks-preserved
tasks-preserved c =
    let l = c.tasks in
    let was = c.args.self.now.tasks in
    let t = get_or l.self.tasks l.i Running in
    let within : l.i < length was = moved_left was l.i l.kept l.self.tasks (omega (arith, c.tasks-test.true, c.requires)) l.invariant.moved in
    record {
      within = omega (arith, within);
      moved = subst (λ (k : ℕ). MovedDown was (l.i + 1) k c.settle-kept.new.self.tasks) (sym c.settle-kept.ensures.next)
          (subst (λ (b : TableView). MovedDown was (l.i + 1) (l.kept + cond (stays t) 1 0) b.tasks) (sym c.settle-kept.ensures.settled)
          (moved_next was l.i l.kept l.self.tasks within l.invariant.moved));
      variables = ap (λ (b : TableView). b.variables) c.settle-kept.ensures.settled ∙ l.invariant.variables;
      spare = ap (λ (b : TableView). b.spare) c.settle-kept.ensures.settled ∙ l.invariant.spare;
    }

pub cut-requires-clause-within : goal.cut-requires-clause-within
cut-requires-clause-within c = let l = c.tasks in omega (arith, l.invariant.moved.low, l.invariant.within, l.invariant.moved.size)

pub cut-requires-clause-waiting : goal.cut-requires-clause-waiting
cut-requires-clause-waiting c =
    let l = c.tasks in
    let all = moved_all c.args.self.now.tasks l.i l.kept l.self.tasks (omega (arith, c.tasks-test.false, c.requires)) l.invariant.moved in
    all.waiting

pub cut-requires-clause-free : goal.cut-requires-clause-free
cut-requires-clause-free c =
    let l = c.tasks in
    let all = moved_all c.args.self.now.tasks l.i l.kept l.self.tasks (omega (arith, c.tasks-test.false, c.requires)) l.invariant.moved in
    all.free

pub returns : goal.returns
returns c =
    let l = c.tasks in
    let b = c.args.self.now in
    let was = b.tasks in
    let all = moved_all was l.i l.kept l.self.tasks (omega (arith, c.tasks-test.false, c.requires)) l.invariant.moved in
    let spare : c.cut.new.self.spare ≡ b.spare + (length was - length (carried was)) = omega (arith, c.cut.ensures.spare, l.invariant.spare, l.invariant.moved.size, all.count) in
    ap (λ (ts : List Task). let r : TableView = record c.cut.new.self { tasks = ts } in r) (c.cut.ensures.tasks ∙ all.head)
    ∙ (ap (λ (n : ℕ). let r : TableView = record { tasks = carried was; variables = n; spare = c.cut.new.self.spare } in r) (c.cut.ensures.variables ∙ l.invariant.variables)
    ∙ ap (λ (n : ℕ). let r : TableView = record { tasks = carried was; variables = b.variables; spare = n } in r) spare)
