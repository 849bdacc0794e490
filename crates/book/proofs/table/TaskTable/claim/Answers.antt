use Rattle.std.proofs.Common.{◌≡◌, ◌+◌, List, vec_capacity, ℕ, Some, length, refl, sym, ◌∙◌, ap, subst, arith}
use Rattle.std.specs.List.{slice_get}
use Rattle.std.proofs.lemmas.List.{length-set}
use Rattle.std.proofs.lemmas.Option.{slice_get_within}
use Rattle.book.specs.declared.task.Slot.{Slot}
use Rattle.book.specs.declared.task.Slot.TheVariants as standing
use Rattle.book.specs.Tasks.{Ready, Running}
use Rattle.book.specs.Standings.{HaveRows, HaveRoom}
use Rattle.book.proofs.Rows.{stands_ready, rows_awake}
use Rattle.book.specs.Table.{TableView, placed, with_tasks}
use Rattle.book.specs.TableInside.{places, tasks_of, table_of, kept_of}
use Rattle.book.proofs.Sets.{few_slots, placed_stand, at_place, sets_ready, ready_room, stand_is}
use Rattle.book.proofs.table.TaskTable.claim.Goals as goal

pub remove-requires : goal.remove-requires
remove-requires c =
    let s = c.self.inside in
    let t = c.args.task.0 in
    let at : slice_get (tasks_of s) t ≡ Some Ready = ap (λ (b : TableView). slice_get b.tasks t) c.self.view_is ∙ c.requires in
    ready_room (places (tasks_of s) s.spare) s.ready s.sleepers.items t c.self.invariant.sets (slice_get_within (places (tasks_of s) s.spare) t Ready (at_place (tasks_of s) s.spare t Ready at))

pub stand-requires-clause-few : goal.stand-requires-clause-few
stand-requires-clause-few c = few_slots c.self.inside c.self.invariant

pub stand-requires-clause-was : goal.stand-requires-clause-was
stand-requires-clause-was c =
    let s = c.self.inside in
    let t = c.args.task.0 in
    stands_ready s.variables (kept_of s) s.standings.items t (ap (λ (b : TableView). slice_get b.tasks t) c.self.view_is ∙ c.requires)

pub invariant_of-self : goal.invariant_of-self
invariant_of-self c =
    let s = c.self.inside in
    let t = c.args.task.0 in
    let w = s.variables in
    let at : slice_get (tasks_of s) t ≡ Some Ready = ap (λ (b : TableView). slice_get b.tasks t) c.self.view_is ∙ c.requires in
    let ready = stands_ready w (kept_of s) s.standings.items t at in
    let size = ap length c.stand.ensures.items ∙ length-set s.standings.items t standing.Running in
    record {
      sets = placed_stand (tasks_of s) _ s.spare t Ready Running c.remove.new.self s.sleepers.items at (stand_is s c.stand.new.standings t standing.Running c.stand.ensures.items)
          (sets_ready (places (tasks_of s) s.spare) s.ready c.remove.new.self s.sleepers.items t Ready Running c.self.invariant.sets (at_place (tasks_of s) s.spare t Ready at) c.remove.ensures (λ x. refl) (λ log e. cc));
      rows = subst (λ (ss : List Slot). HaveRows w (kept_of s) ss) (sym c.stand.ensures.items) (rows_awake w t (kept_of s) s.standings.items standing.Ready standing.Running c.self.invariant.rows ready (λ n e. cc));
      few_variables = c.self.invariant.few_variables;
      tallied = c.stand.ensures.tallied;
      room = omega (arith, c.self.invariant.room, size, c.stand.ensures.capacity);
      names_room = subst (λ (k : ℕ). HaveRoom w (k + s.spare) (vec_capacity s.names) (vec_capacity s.logs)) (sym size) c.self.invariant.names_room;
    }

pub returns : goal.returns
returns c =
    let s = c.self.inside in
    ap (with_tasks (table_of s)) (stand_is s c.stand.new.standings c.args.task.0 standing.Running c.stand.ensures.items) ∙ ap (λ (b : TableView). placed b c.args.task Running) c.self.view_is
