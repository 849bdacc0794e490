use Rattle.std.proofs.Common.{◌≡◌, ◌<◌, ◌+◌, ℕ, false, Some, get_or, refl, vec_capacity, ◌∙◌, ap, arith, length, List, subst, sym}
use Rattle.std.specs.List.{slice_get}
use Rattle.std.proofs.lemmas.List.{length-set}
use Rattle.std.proofs.lemmas.Option.{same_Some, slice_get_read, slice_get-get_or}
use Rattle.book.specs.declared.task.Slot.{Slot}
use Rattle.book.specs.declared.task.Slot.TheVariants as standing
use Rattle.book.specs.declared.table.TaskTable.TheInside.{Inside}
use Rattle.book.specs.Tasks.{Task, Running}
use Rattle.book.specs.Standings.{HaveRows, HaveRoom}
use Rattle.book.specs.Table.{TableView, placed, with_tasks}
use Rattle.book.specs.TableInside.{places, tasks_of, table_of, kept_of}
use Rattle.book.specs.Carrying.{stays}
use Rattle.book.proofs.Rows.{at_shown, rows_awake, length_shown}
use Rattle.book.proofs.Sets.{few_slots, sets_keep, placed_stand, at_place, stand_is}
use Rattle.book.proofs.Carrying.{ended_unready, ended_asleep, stays_shown}
use Rattle.book.proofs.Parking.{found_at}
use Rattle.book.proofs.table.TaskTable.clear.Goals as goal

-- the task that has ended
record Ended (s : Inside) (t : ℕ) : Type 0 where
  task : Task
  at : slice_get (tasks_of s) t ≡ Some task
  ended : stays task ≡ false

ended : (s : Inside) (v : TableView) (t : ℕ) → table_of s ≡ v → t < length v.tasks → stays (get_or v.tasks t Running) ≡ false → Ended s t
ended s v t view within h =
    record { task = get_or v.tasks t Running; at = ap (λ (b : TableView). slice_get b.tasks t) view ∙ slice_get-get_or v.tasks t Running within; ended = h }

inside : (s : Inside) (v : TableView) (t : ℕ) → table_of s ≡ v → t < length v.tasks → t < length s.standings.items
inside s v t view low = omega (arith, low, ap (λ (b : TableView). length b.tasks) view, length_shown s.variables (kept_of s) s.standings.items)

pub index-requires : goal.index-requires
index-requires c = omega (arith, inside c.self.inside c.args.self.now c.args.task.0 c.self.view_is c.requires.within, c.self.inside.standings.ok.0)

pub ended-was-requires : goal.ended-was-requires
ended-was-requires c =
    let s = c.self.inside in
    let v = c.args.self.now in
    let t = c.args.task.0 in
    let read = c.index.result.now in
    let same = same_Some _ _ (sym (slice_get-get_or v.tasks t Running c.requires.within) ∙ found_at s v t read c.self.view_is c.requires.within c.index.ensures) in
    stays_shown s.variables (kept_of s) t read ∙ (ap stays (sym same) ∙ c.requires.ended)

pub stand-requires-clause-few : goal.stand-requires-clause-few
stand-requires-clause-few c = few_slots c.self.inside c.self.invariant

pub stand-requires-clause-was : goal.stand-requires-clause-was
stand-requires-clause-was c =
    let s = c.self.inside in
    slice_get_read s.standings.items (length s.standings.items) c.args.task.0 c.index.result.now refl (inside s c.args.self.now c.args.task.0 c.self.view_is c.requires.within) c.index.ensures ∙ ap Some (sym c.ended-was.ensures)

pub invariant_of-self : goal.invariant_of-self
invariant_of-self c =
    let s = c.self.inside in
    let t = c.args.task.0 in
    let w = s.variables in
    let h = ended s c.args.self.now t c.self.view_is c.requires.within c.requires.ended in
    let found = at_shown w (kept_of s) s.standings.items t h.task h.at in
    let size = ap length c.stand.ensures.items ∙ length-set s.standings.items t standing.Running in
    record {
      sets = placed_stand (tasks_of s) _ s.spare t h.task Running s.ready s.sleepers.items h.at (stand_is s c.stand.new.standings t standing.Running c.stand.ensures.items)
          (sets_keep (places (tasks_of s) s.spare) s.ready s.sleepers.items t h.task Running c.self.invariant.sets (at_place (tasks_of s) s.spare t h.task h.at) (ended_unready h.task h.ended) (λ x. ended_asleep x h.task h.ended) (λ log e. cc));
      rows = subst (λ (ss : List Slot). HaveRows w (kept_of s) ss) (sym c.stand.ensures.items) (rows_awake w t (kept_of s) s.standings.items found.0 standing.Running c.self.invariant.rows found.1 (λ n e. cc));
      few_variables = c.self.invariant.few_variables;
      tallied = c.stand.ensures.tallied;
      room = omega (arith, c.self.invariant.room, size, c.stand.ensures.capacity);
      names_room = subst (λ (k : ℕ). HaveRoom w (k + s.spare) (vec_capacity s.names) (vec_capacity s.logs)) (sym size) c.self.invariant.names_room;
    }

pub returns : goal.returns
returns c =
    let s = c.self.inside in
    ap (with_tasks (table_of s)) (stand_is s c.stand.new.standings c.args.task.0 standing.Running c.stand.ensures.items) ∙ ap (λ (b : TableView). placed b c.args.task Running) c.self.view_is
