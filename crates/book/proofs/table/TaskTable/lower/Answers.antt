use Rattle.std.proofs.Common.{◌≡◌, inl, inr, ℕ, ◌<◌, ◌≤◌, true, false, List, Some, length, set, get_or, sym, ◌∙◌, ap, arith}
use Rattle.std.specs.List.{slice_get}
use Rattle.std.proofs.lemmas.Bool.{cases_eq}
use Rattle.std.proofs.lemmas.Option.{get_or_from_slice_get}
use Rattle.book.specs.declared.task.Slot.{Slot}
use Rattle.book.specs.declared.task.Slot.TheVariants as standing
use Rattle.book.specs.declared.table.TaskTable.TheInside.{Inside}
use Rattle.book.specs.Tasks.{Task}
use Rattle.book.specs.Tasks.{Ready, Running, Parked}
use Rattle.book.specs.Turns.{readied_one}
use Rattle.book.specs.Standings.{shown, kept_log}
use Rattle.book.specs.Table.{TableView, with_tasks}
use Rattle.book.specs.TableInside.{table_of, kept_of}
use Rattle.book.specs.Carrying.{stays}
use Rattle.book.proofs.Lists.{get_set_same, get_set_other, set_same}
use Rattle.book.proofs.Rows.{length_shown}
use Rattle.book.proofs.Parking.{found_at, set_back}
use Rattle.book.proofs.table.TaskTable.lower.Goals as goal

-- the task that is read, in the view
seen : (s : Inside) (v : TableView) (t : ℕ) (read st : Slot) → table_of s ≡ v → t < length v.tasks → read ≡ get_or s.standings.items t read → read ≡ st → slice_get v.tasks t ≡ Some (shown s.variables (kept_of s) t st)
seen s v t read st view low e is = found_at s v t read view low e ∙ ap (λ (x : Slot). Some (shown s.variables (kept_of s) t x)) is

read_as : (v : TableView) (t : ℕ) (x : Task) → slice_get v.tasks t ≡ Some x → get_or v.tasks t Running ≡ x
read_as v t x e = get_or_from_slice_get v.tasks t x Running e

-- nobody stands at the lower number, also where it is the task's own
free_now : (v : TableView) (from to : ℕ) → to ≤ from → (to < from → slice_get v.tasks to ≡ Some Running) → slice_get v.tasks from ≡ Some Running → slice_get v.tasks to ≡ Some Running
free_now v from to low free at =
    elim (cases_eq to from) [
      | inl same ↦ ap (slice_get v.tasks) same ∙ at
      | inr other ↦ free (omega (arith, low, other))
    ]

free_then : (v : TableView) (from to : ℕ) (was : Task) → to ≤ from → (to < from → slice_get v.tasks to ≡ Some Running) → slice_get v.tasks from ≡ Some was → slice_get (set v.tasks from Running) to ≡ Some Running
free_then v from to was low free at =
    elim (cases_eq to from) [
      | inl same ↦ ap (slice_get (set v.tasks from Running)) same ∙ get_set_same v.tasks from was Running at
      | inr other ↦ get_set_other v.tasks from to Running other ∙ free (omega (arith, low, other))
    ]

pub index-requires : goal.index-requires
index-requires c =
    let s = c.self.inside in
    omega (arith, c.requires.from, ap (λ (b : TableView). length b.tasks) c.self.view_is, length_shown s.variables (kept_of s) s.standings.items, s.standings.ok.0)

pub claim-requires : goal.claim-requires
claim-requires c = seen c.self.inside c.args.self.now c.args.from c.index.result.now standing.Ready c.self.view_is c.requires.from c.index.ensures c.in-Ready.is

pub make_ready-requires : goal.make_ready-requires
make_ready-requires c =
    let v = c.args.self.now in
    let at = seen c.self.inside v c.args.from c.index.result.now standing.Ready c.self.view_is c.requires.from c.index.ensures c.in-Ready.is in
    ap (λ (b : TableView). slice_get b.tasks c.args.to) c.claim.ensures ∙ free_then v c.args.from c.args.to Ready c.requires.to c.requires.free at

pub make_ready-requires-in-Running : goal.make_ready-requires-in-Running
make_ready-requires-in-Running c =
    let v = c.args.self.now in
    let at = seen c.self.inside v c.args.from c.index.result.now standing.Running c.self.view_is c.requires.from c.index.ensures c.in-Running.is in
    free_now v c.args.from c.args.to c.requires.to c.requires.free at

pub shift-requires-clause-parked : goal.shift-requires-clause-parked
shift-requires-clause-parked c =
    let s = c.self.inside in
    (kept_log s.variables (kept_of s) c.args.from c.in-Parked.field-0, seen s c.args.self.now c.args.from c.index.result.now (standing.Parked c.in-Parked.field-0) c.self.view_is c.requires.from c.index.ensures c.in-Parked.is)

-- what stays is ready, running or parked
none_other : (s : Inside) (t : ℕ) (read : Slot) (x : Task) → x ≡ shown s.variables (kept_of s) t read → stays x ≡ true → (read ≡ standing.Ready → ⊥) → (read ≡ standing.Running → ⊥) → ((n : ℕ) → read ≡ standing.Parked n → ⊥) → ⊥
none_other s t standing.Ready x e h a b d = a (cc)
none_other s t standing.Running x e h a b d = b (cc)
none_other s t (standing.Parked n) x e h a b d = d n (cc)
none_other s t (standing.Done n) x e h a b d = let bad : false ≡ true = sym (ap stays e) ∙ h in cc
none_other s t standing.GivenUp x e h a b d = let bad : false ≡ true = sym (ap stays e) ∙ h in cc

pub unreachable-requires : goal.unreachable-requires
unreachable-requires c =
    let s = c.self.inside in
    let v = c.args.self.now in
    let at = found_at s v c.args.from c.index.result.now c.self.view_is c.requires.from c.index.ensures in
    none_other s c.args.from c.index.result.now (get_or v.tasks c.args.from Running) (read_as v c.args.from _ at) c.requires.stays c.in_default.not-Ready c.in_default.not-Running c.in_default.not-Parked

pub returns-in-Ready : goal.returns-in-Ready
returns-in-Ready c =
    let v = c.args.self.now in
    let at = seen c.self.inside v c.args.from c.index.result.now standing.Ready c.self.view_is c.requires.from c.index.ensures c.in-Ready.is in
    c.make_ready.ensures
    ∙ (ap (λ (b : TableView). with_tasks b (set b.tasks c.args.to Ready)) c.claim.ensures
    ∙ ap (λ (t : Task). with_tasks v (set (set v.tasks c.args.from Running) c.args.to (readied_one t))) (sym (read_as v c.args.from Ready at)))

pub returns-in-Running : goal.returns-in-Running
returns-in-Running c =
    let v = c.args.self.now in
    let at = seen c.self.inside v c.args.from c.index.result.now standing.Running c.self.view_is c.requires.from c.index.ensures c.in-Running.is in
    c.make_ready-in-Running.ensures
    ∙ (ap (λ (ts : List Task). with_tasks v (set ts c.args.to Ready)) (sym (set_same v.tasks c.args.from Running at))
    ∙ ap (λ (t : Task). with_tasks v (set (set v.tasks c.args.from Running) c.args.to (readied_one t))) (sym (read_as v c.args.from Running at)))

pub returns-then-to-from : goal.returns-then-to-from
returns-then-to-from c =
    let s = c.self.inside in
    let v = c.args.self.now in
    let at = seen s v c.args.from c.index.result.now (standing.Parked c.in-Parked.field-0) c.self.view_is c.requires.from c.index.ensures c.in-Parked.is in
    let read = read_as v c.args.from _ at in
    let same : get_or v.tasks c.args.from Running ≡ readied_one (get_or v.tasks c.args.from Running) = read ∙ sym (ap readied_one read) in
    c.shift.ensures ∙ ap (λ (t : Task). with_tasks v (set (set v.tasks c.args.from Running) c.args.to t)) same

pub returns-else-to-from : goal.returns-else-to-from
returns-else-to-from c =
    let s = c.self.inside in
    let v = c.args.self.now in
    let at = seen s v c.args.from c.index.result.now (standing.Parked c.in-Parked.field-0) c.self.view_is c.requires.from c.index.ensures c.in-Parked.is in
    let read = read_as v c.args.from _ at in
    let same : c.args.from ≡ c.args.to = omega (arith, c.requires.to, c.if-to-from.false) in
    ap (with_tasks v) (sym (set_back v.tasks c.args.from Running _ at))
    ∙ (ap (λ (k : ℕ). with_tasks v (set (set v.tasks c.args.from Running) k (Parked (kept_log s.variables (kept_of s) c.args.from c.in-Parked.field-0)))) same
    ∙ ap (λ (t : Task). with_tasks v (set (set v.tasks c.args.from Running) c.args.to t)) (sym (ap readied_one read)))
