use Rattle.std.proofs.Common.{map, refl, ◌≡◌, ◌+◌, ◌-◌, ◌≤◌, ℕ, List, length, take, drop, vec_capacity, sym, ◌∙◌, ap, subst, arith}
use Rattle.std.specs.List.{All}
use Rattle.std.proofs.lemmas.List.{length-take-le}
use Rattle.book.specs.declared.task.Slot.{Slot}
use Rattle.book.specs.declared.counting.Tally.{Tally}
use Rattle.book.specs.Tasks.{Task}
use Rattle.book.specs.Standings.{bare, shown_from, HaveRows, HaveRoom}
use Rattle.book.specs.Counting.{IsTally}
use Rattle.book.specs.Table.{TableView}
use Rattle.book.specs.TableInside.{AreSets, places, tasks_of, kept_of}
use Rattle.book.proofs.Rows.{length_shown}
use Rattle.book.proofs.Tallies.{tally_cut}
use Rattle.book.proofs.Carrying.{Waits, Rests, sets_cut, shown_take, rows_cut}
use Rattle.book.proofs.table.TaskTable.cut.Goals as goal
use Rattle.book.proofs.table.TaskTable.cut.Goals.{After-truncate}

-- how many tasks there were
was : (c : After-truncate) → c.len.result ≡ length (tasks_of c.self.inside)
was c = let s = c.self.inside in omega (arith, c.len.ensures, s.standings.ok.0, length_shown s.variables (kept_of s) s.standings.items)

within : (c : After-truncate) → c.args.count ≤ length c.self.inside.standings.items
within c =
    let s = c.self.inside in
    omega (arith, c.requires.within, ap (λ (b : TableView). length b.tasks) c.self.view_is, length_shown s.variables (kept_of s) s.standings.items)

pub overflow_sub-self : goal.overflow_sub-self
overflow_sub-self c =
    let s = c.self.inside in
    omega (arith, c.requires.within, c.len.ensures, s.standings.ok.0, ap (λ (b : TableView). length b.tasks) c.self.view_is, length_shown s.variables (kept_of s) s.standings.items)

shown_is : (c : After-truncate) → tasks_of (record c.self.inside { standings = c.truncate.new.self }) ≡ take c.args.count (tasks_of c.self.inside)
shown_is c =
    let s = c.self.inside in
    ap (shown_from s.variables (kept_of s) 0) c.truncate.ensures.items ∙ shown_take s.variables (kept_of s) s.standings.items c.args.count

waiting : (c : After-truncate) → All Waits (take c.args.count (tasks_of c.self.inside))
waiting c = subst (λ (b : TableView). All Waits (take c.args.count b.tasks)) (sym c.self.view_is) c.requires.waiting

free : (c : After-truncate) → All Rests (drop c.args.count (tasks_of c.self.inside))
free c = subst (λ (b : TableView). All Rests (drop c.args.count b.tasks)) (sym c.self.view_is) c.requires.free

size : (c : After-truncate) → length c.truncate.new.self.items ≡ c.args.count
size c = ap length c.truncate.ensures.items ∙ length-take-le c.args.count c.self.inside.standings.items (within c)

pub invariant_of-self : goal.invariant_of-self
invariant_of-self c =
    let s = c.self.inside in
    let k = c.args.count in
    let w = s.variables in
    let more = c.len.result - k in
    let same : length s.standings.items + s.spare ≡ length c.truncate.new.self.items + (s.spare + more) = omega (arith, size c, within c, c.len.ensures, s.standings.ok.0) in
    let left : Tally = record s.tally { running = 0; given_up = 0 } in
    record {
      sets = subst (λ (ts : List Task). AreSets s.variables (places ts (s.spare + more)) s.ready s.sleepers.items) (sym (shown_is c))
          (subst (λ (n : ℕ). AreSets s.variables (places (take k (tasks_of s)) (s.spare + (n - k))) s.ready s.sleepers.items) (sym (was c))
          (sets_cut (tasks_of s) k s.spare s.ready s.sleepers.items (free c) c.self.invariant.sets));
      rows = subst (λ (ss : List Slot). HaveRows w (kept_of s) ss) (sym c.truncate.ensures.items) (rows_cut w (kept_of s) s.standings.items k c.self.invariant.rows);
      few_variables = c.self.invariant.few_variables;
      tallied = subst (λ (ss : List Slot). IsTally (map bare ss) left) (sym c.truncate.ensures.items)
          (tally_cut w (kept_of s) s.standings.items k s.tally left (waiting c) (free c) c.self.invariant.tallied refl refl refl);
      room = omega (arith, c.self.invariant.room, same, c.truncate.ensures.capacity);
      names_room = subst (λ (n : ℕ). HaveRoom w n (vec_capacity s.names) (vec_capacity s.logs)) same c.self.invariant.names_room;
    }

pub returns-clause-tasks : goal.returns-clause-tasks
returns-clause-tasks c = shown_is c ∙ ap (λ (b : TableView). take c.args.count b.tasks) c.self.view_is

pub returns-clause-spare : goal.returns-clause-spare
returns-clause-spare c =
    omega (arith, ap (λ (b : TableView). b.spare) c.self.view_is, was c, ap (λ (b : TableView). length b.tasks) c.self.view_is)
