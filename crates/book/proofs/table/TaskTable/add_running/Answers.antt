use Rattle.std.proofs.Common.{map, ◌≡◌, ◌<◌, ◌+◌, ◌-◌, ◌++◌, ℕ, suc, List, length, length-append, [], ◌∷◌, set, Some, ◌∙◌, sym, ap, subst, arith, vec_capacity}
use Rattle.std.specs.List.{slice_get}
use Rattle.std.proofs.lemmas.List.{length-set}
use Rattle.book.specs.declared.task.Slot.{Slot}
use Rattle.book.specs.declared.task.Slot.TheVariants as standing
use Rattle.book.specs.Tasks.{Task, Ready, Running}
use Rattle.txn_programs.specs.declared.ast.TaskId.{TaskId}
use Rattle.book.specs.Standings.{bare, shown_from, HaveRows, HaveRoom}
use Rattle.book.specs.Counting.{IsTally}
use Rattle.book.specs.Table.{TableView, placed, with_one_more}
use Rattle.book.specs.TableInside.{tasks_of, kept_of}
use Rattle.book.proofs.Lists.{get_append_at}
use Rattle.book.proofs.Tallies.{tally_more}
use Rattle.book.proofs.Rows.{length_shown, shown_more, shown_set, rows_more, rows_awake}
use Rattle.book.proofs.Sets.{all_places, placed_running}
use Rattle.book.proofs.table.TaskTable.add_running.Goals as goal
use Rattle.book.proofs.table.TaskTable.add_running.Goals.{After-stand}

pub overflow_cast-task : goal.overflow_cast-task
overflow_cast-task c =
    let s = c.self.inside in
    omega (arith, c.len.ensures, s.standings.ok.0, all_places s, c.self.invariant.sets.few)

pub stand-requires-clause-few : goal.stand-requires-clause-few
stand-requires-clause-few c =
    let s = c.self.inside in
    let spare : 0 < s.spare = omega (arith, c.requires, ap (λ (b : TableView). b.spare) c.self.view_is) in
    let more : length c.add_ready.new.standings.items ≡ length s.standings.items + 1 = ap length c.add_ready.ensures.items ∙ length-append s.standings.items (standing.Ready ∷ []) in
    omega (arith, more, spare, all_places s, c.self.invariant.sets.few)

pub stand-requires-clause-was : goal.stand-requires-clause-was
stand-requires-clause-was c =
    let s = c.self.inside in
    let size : c.len.result ≡ length s.standings.items = omega (arith, c.len.ensures, s.standings.ok.0) in
    ap (λ (ss : List Slot). slice_get ss c.len.result) c.add_ready.ensures.items
    ∙ (ap (slice_get (s.standings.items ++ standing.Ready ∷ [])) size ∙ get_append_at s.standings.items standing.Ready)

pub stand-requires-clause-tallied : goal.stand-requires-clause-tallied
stand-requires-clause-tallied c =
    let s = c.self.inside in
    subst (λ (ss : List Slot). IsTally (map bare ss) s.tally) (sym c.add_ready.ensures.items) (tally_more s.standings.items s.tally c.self.invariant.tallied)

-- the tasks are those with a ready one more, which then runs
tasks_now : (c : After-stand) → shown_from c.self.inside.variables (kept_of c.self.inside) 0 c.stand.new.standings.items ≡ set (tasks_of c.self.inside ++ Ready ∷ []) c.len.result Running
tasks_now c =
    let s = c.self.inside in
    let w = s.variables in
    let ns = (kept_of s) in
    ap (shown_from w ns 0) c.stand.ensures.items
    ∙ (ap (λ (ss : List Slot). shown_from w ns 0 (set ss c.len.result standing.Running)) c.add_ready.ensures.items
    ∙ (shown_set w ns (s.standings.items ++ standing.Ready ∷ []) c.len.result standing.Running
    ∙ ap (λ (ts : List Task). set ts c.len.result Running) (shown_more w ns s.standings.items)))

pub returns-clause-task : goal.returns-clause-task
returns-clause-task c =
    let s = c.self.inside in
    omega (arith, c.len.ensures, s.standings.ok.0, length_shown s.variables (kept_of s) s.standings.items, ap (λ (b : TableView). length b.tasks) c.self.view_is)

pub returns-clause-added : goal.returns-clause-added
returns-clause-added c =
    let s = c.self.inside in
    let w = s.variables in
    let task : TaskId = record { 0 = c.len.result } in
    let made : List Task → TableView = λ ts. record { tasks = ts; variables = w; spare = s.spare - 1 } in
    ap made (tasks_now c) ∙ ap (λ (b : TableView). placed (with_one_more b) task Running) c.self.view_is

pub invariant_of-self : goal.invariant_of-self
invariant_of-self c =
    let s = c.self.inside in
    let w = s.variables in
    let spare : 0 < s.spare = omega (arith, c.requires, ap (λ (b : TableView). b.spare) c.self.view_is) in
    let one : s.spare ≡ suc (s.spare - 1) = omega (arith, spare) in
    let slots : c.len.result ≡ length s.standings.items = omega (arith, c.len.ensures, s.standings.ok.0) in
    let size : c.len.result ≡ length (tasks_of s) = omega (arith, slots, length_shown w (kept_of s) s.standings.items) in
    let ready : slice_get (s.standings.items ++ standing.Ready ∷ []) c.len.result ≡ Some standing.Ready = ap (slice_get (s.standings.items ++ standing.Ready ∷ [])) slots ∙ get_append_at s.standings.items standing.Ready in
    let now : c.stand.new.standings.items ≡ set (s.standings.items ++ standing.Ready ∷ []) c.len.result standing.Running = c.stand.ensures.items ∙ ap (λ (ss : List Slot). set ss c.len.result standing.Running) c.add_ready.ensures.items in
    let more : length c.stand.new.standings.items ≡ length s.standings.items + 1 = ap length now ∙ (length-set (s.standings.items ++ standing.Ready ∷ []) c.len.result standing.Running ∙ length-append s.standings.items (standing.Ready ∷ [])) in
    let same : length s.standings.items + s.spare ≡ length c.stand.new.standings.items + (s.spare - 1) = omega (arith, more, one) in
    record {
      sets = placed_running (tasks_of s) _ s.spare (s.spare - 1) c.len.result s.ready s.sleepers.items one size (tasks_now c) c.self.invariant.sets;
      rows = subst (λ (ss : List Slot). HaveRows w (kept_of s) ss) (sym now) (rows_awake w c.len.result (kept_of s) (s.standings.items ++ standing.Ready ∷ []) standing.Ready standing.Running (rows_more w (kept_of s) s.standings.items c.self.invariant.rows) ready (λ n e. cc));
      few_variables = c.self.invariant.few_variables;
      tallied = c.stand.ensures.tallied;
      room = omega (arith, c.self.invariant.room, same, c.add_ready.ensures.capacity, c.stand.ensures.capacity);
      names_room = subst (λ (k : ℕ). HaveRoom w k (vec_capacity s.names) (vec_capacity s.logs)) same c.self.invariant.names_room;
    }
