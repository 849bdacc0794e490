use Rattle.std.proofs.Common.{◌≡◌, ℕ, ◌+◌, ◌<◌, Bool, true, false, cond, List, Some, length, set, get_or, sym, ◌∙◌, ap, subst, arith}
use Rattle.std.specs.List.{slice_get}
use Rattle.std.proofs.lemmas.List.{length-set, get_or-set_other, set_comm, set-set}
use Rattle.std.proofs.lemmas.Option.{get_or_from_slice_get, slice_get-get_or}
use Rattle.book.specs.declared.task.Slot.{Slot}
use Rattle.book.specs.declared.table.TaskTable.TheInside.{Inside}
use Rattle.book.specs.Tasks.{Task, Running}
use Rattle.book.specs.Turns.{readied_one}
use Rattle.book.specs.Standings.{bare}
use Rattle.book.specs.Table.{TableView, with_tasks}
use Rattle.book.specs.TableInside.{table_of, kept_of}
use Rattle.book.specs.Carrying.{stays}
use Rattle.book.proofs.Lists.{get_set_same}
use Rattle.book.proofs.Rows.{length_shown}
use Rattle.book.proofs.Parking.{found_at}
use Rattle.book.proofs.Carrying.{stays_shown}
use Rattle.book.proofs.table.TaskTable.settle.Goals as goal

-- what is read of a standing is so of the task
stays_here : (s : Inside) (v : TableView) (t : ℕ) (read : Slot) (b r : Bool) → table_of s ≡ v → t < length v.tasks → read ≡ get_or s.standings.items t read → r ≡ stays (bare read) → r ≡ b → stays (get_or v.tasks t Running) ≡ b
stays_here s v t read b r view low e is h =
    ap stays (get_or_from_slice_get v.tasks t _ Running (found_at s v t read view low e)) ∙ (sym (stays_shown s.variables (kept_of s) t read) ∙ (sym is ∙ h))

pub index-requires : goal.index-requires
index-requires c =
    let s = c.self.inside in
    omega (arith, c.requires.from, ap (λ (b : TableView). length b.tasks) c.self.view_is, length_shown s.variables (kept_of s) s.standings.items, s.standings.ok.0)

pub returns-then-not-stays-clause-next : goal.returns-then-not-stays-clause-next
returns-then-not-stays-clause-next c =
    let h = stays_here c.self.inside c.args.self.now c.args.from c.index.result.now false c.stays.result c.self.view_is c.requires.from c.index.ensures c.stays.ensures c.if-not-stays.true in
    let none : c.args.to ≡ c.args.to + 0 = omega arith in
    none ∙ ap (λ (b : Bool). c.args.to + cond b 1 0) (sym h)

pub returns-then-not-stays-clause-settled : goal.returns-then-not-stays-clause-settled
returns-then-not-stays-clause-settled c =
    let v = c.args.self.now in
    let ts = v.tasks in
    let t = get_or ts c.args.from Running in
    let h = stays_here c.self.inside v c.args.from c.index.result.now false c.stays.result c.self.view_is c.requires.from c.index.ensures c.stays.ensures c.if-not-stays.true in
    ap (λ (b : Bool). with_tasks v (cond b (set (set ts c.args.from Running) c.args.to (readied_one t)) ts)) (sym h)

-- the table on which nobody stands at the lower number
record Vacated (v : TableView) (from to : ℕ) (now : TableView) : Type 0 where
  size : length now.tasks ≡ length v.tasks
  same : get_or now.tasks from Running ≡ get_or v.tasks from Running
  free : slice_get now.tasks to ≡ Some Running
  then : (t : Task) → with_tasks now (set (set now.tasks from Running) to t) ≡ with_tasks v (set (set v.tasks from Running) to t)

left : (v : TableView) (from to : ℕ) → from < length v.tasks → to < from → Vacated v from to (with_tasks v (set v.tasks to Running))
left v from to within less =
    let ts = v.tasks in
    record {
      size = length-set ts to Running;
      same = get_or-set_other ts to from Running Running (omega (arith, less));
      free = get_set_same ts to (get_or ts to Running) Running (slice_get-get_or ts to Running (omega (arith, within, less)));
      then = λ t. ap (with_tasks v) (ap (λ (us : List Task). set us to t) (set_comm ts to from Running Running (omega (arith, less))) ∙ set-set (set ts from Running) to Running t);
    }

vacated : (v now : TableView) (from to : ℕ) → from < length v.tasks → to < from → now ≡ with_tasks v (set v.tasks to Running) → Vacated v from to now
vacated v now from to within less is = subst (Vacated v from to) (sym is) (left v from to within less)

pub vacate-requires-clause-free : goal.vacate-requires-clause-free
vacate-requires-clause-free c = c.requires.free c.if-to-from.true

pub vacate-requires-clause-within : goal.vacate-requires-clause-within
vacate-requires-clause-within c = omega (arith, c.requires.from, c.requires.to)

pub lower-requires-clause-from : goal.lower-requires-clause-from
lower-requires-clause-from c = omega (arith, c.requires.from, (vacated c.args.self.now c.vacate.new.self c.args.from c.args.to c.requires.from c.if-to-from.true c.vacate.ensures).size)

pub lower-requires-clause-free : goal.lower-requires-clause-free
lower-requires-clause-free c = λ less. (vacated c.args.self.now c.vacate.new.self c.args.from c.args.to c.requires.from c.if-to-from.true c.vacate.ensures).free

pub lower-requires-clause-stays : goal.lower-requires-clause-stays
lower-requires-clause-stays c =
    ap stays (vacated c.args.self.now c.vacate.new.self c.args.from c.args.to c.requires.from c.if-to-from.true c.vacate.ensures).same
    ∙ stays_here c.self.inside c.args.self.now c.args.from c.index.result.now true c.stays.result c.self.view_is c.requires.from c.index.ensures c.stays.ensures c.if-not-stays.false

pub returns-then-to-from-clause-next : goal.returns-then-to-from-clause-next
returns-then-to-from-clause-next c =
    let h = stays_here c.self.inside c.args.self.now c.args.from c.index.result.now true c.stays.result c.self.view_is c.requires.from c.index.ensures c.stays.ensures c.if-not-stays.false in
    ap (λ (b : Bool). c.args.to + cond b 1 0) (sym h)

pub returns-then-to-from-clause-settled : goal.returns-then-to-from-clause-settled
returns-then-to-from-clause-settled c =
    let v = c.args.self.now in
    let ts = v.tasks in
    let t = get_or ts c.args.from Running in
    let w = (vacated c.args.self.now c.vacate.new.self c.args.from c.args.to c.requires.from c.if-to-from.true c.vacate.ensures) in
    let h = stays_here c.self.inside v c.args.from c.index.result.now true c.stays.result c.self.view_is c.requires.from c.index.ensures c.stays.ensures c.if-not-stays.false in
    c.lower.ensures
    ∙ (w.then (readied_one (get_or c.vacate.new.self.tasks c.args.from Running))
    ∙ (ap (λ (u : Task). with_tasks v (set (set ts c.args.from Running) c.args.to (readied_one u))) w.same
    ∙ ap (λ (b : Bool). with_tasks v (cond b (set (set ts c.args.from Running) c.args.to (readied_one t)) ts)) (sym h)))

pub returns-clause-next : goal.returns-clause-next
returns-clause-next c =
    let h = stays_here c.self.inside c.args.self.now c.args.from c.index.result.now true c.stays.result c.self.view_is c.requires.from c.index.ensures c.stays.ensures c.if-not-stays.false in
    ap (λ (b : Bool). c.args.to + cond b 1 0) (sym h)

pub returns-clause-settled : goal.returns-clause-settled
returns-clause-settled c =
    let v = c.args.self.now in
    let ts = v.tasks in
    let t = get_or ts c.args.from Running in
    let same : c.args.from ≡ c.args.to = omega (arith, c.requires.to, c.if-to-from.false) in
    let h = stays_here c.self.inside v c.args.from c.index.result.now true c.stays.result c.self.view_is c.requires.from c.index.ensures c.stays.ensures c.if-not-stays.false in
    c.make_running_ready.ensures
    ∙ (ap (with_tasks v) (sym (set-set ts c.args.from Running (readied_one t)))
    ∙ (ap (λ (k : ℕ). with_tasks v (set (set ts c.args.from Running) k (readied_one t))) same
    ∙ ap (λ (b : Bool). with_tasks v (cond b (set (set ts c.args.from Running) c.args.to (readied_one t)) ts)) (sym h)))
