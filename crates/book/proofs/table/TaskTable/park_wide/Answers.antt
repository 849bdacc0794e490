use Rattle.std.proofs.Common.{◌≡◌, ◌<◌, ◌+◌, ℕ, true, List, [], Some, length, set, get_or, refl, sym, ◌∙◌, ap, subst, arith, vec_capacity}
use Rattle.std.specs.List.{slice_get}
use Rattle.std.proofs.lemmas.List.{length-set}
use Rattle.std.proofs.lemmas.Option.{slice_get_within}
use Rattle.attempt.specs.Asking.{Known}
use Rattle.attempt.specs.Order.{AllKnown, Apart}
use Rattle.attempt.proofs.Logs.{few_apart}
use Rattle.book.specs.declared.task.Slot.{Slot}
use Rattle.book.specs.declared.task.Slot.TheVariants as standing
use Rattle.book.specs.declared.table.TaskTable.TheInside.{Inside}
use Rattle.book.specs.Tasks.{Running, Parked}
use Rattle.book.specs.Standings.{Kept, shown_from, HaveRows, HaveRoom}
use Rattle.book.specs.Table.{TableView, unvalued, flagged}
use Rattle.book.specs.TableInside.{table_of, tasks_of, kept_of, places}
use Rattle.book.proofs.Rows.{RowWritten, log_written, log_of_list, shown_parked, rows_parked, stands_running, flagged_unvalued, known_unvalued}
use Rattle.book.proofs.Parking.{many_of, as_many}
use Rattle.book.proofs.Sets.{few_slots, in_a_set, sets_park, placed_stand, at_place, roomy, table_is}
use Rattle.book.proofs.table.TaskTable.park_wide.Goals as goal
use Rattle.book.proofs.table.TaskTable.park_wide.Goals.{After-stand}

at_first : (s : Inside) (v : TableView) (t : ℕ) → table_of s ≡ v → slice_get v.tasks t ≡ Some Running → slice_get (tasks_of s) t ≡ Some Running
at_first s v t view running = ap (λ (b : TableView). slice_get b.tasks t) view ∙ running

runs : (s : Inside) (v : TableView) (t : ℕ) → table_of s ≡ v → slice_get v.tasks t ≡ Some Running → slice_get s.standings.items t ≡ Some standing.Running
runs s v t view running = stands_running s.variables (kept_of s) s.standings.items t (at_first s v t view running)

known_here : (s : Inside) (v : TableView) (log told : Known) → table_of s ≡ v → AllKnown v.variables log → told ≡ log → AllKnown s.variables told
known_here s v log told view known same = subst (λ (b : TableView). AllKnown b.variables told) (sym view) (subst (λ (l : Known). AllKnown v.variables l) (sym same) known)

pub enter-requires-clause-known : goal.enter-requires-clause-known
enter-requires-clause-known c =
    let s = c.self.inside in
    in_a_set s.variables (length s.sleepers.items) c.as_slice-pairs.result.now c.self.invariant.sets.one_each (known_here s c.args.self.now c.args.log c.as_slice-pairs.result.now c.self.view_is c.requires.known c.as_slice-pairs.ensures.value)

pub enter-requires-clause-room : goal.enter-requires-clause-room
enter-requires-clause-room c =
    let s = c.self.inside in
    let t = c.args.task.0 in
    let at = at_first s c.args.self.now t c.self.view_is c.requires.running in
    let place = at_place (tasks_of s) s.spare t Running at in
    roomy (places (tasks_of s) s.spare) s.ready s.sleepers.items t c.self.invariant.sets (slice_get_within (places (tasks_of s) s.spare) t Running place)

pub overflow_cast-count : goal.overflow_cast-count
overflow_cast-count c =
    let s = c.self.inside in
    let told = c.as_slice-pairs.result.now in
    omega (arith, few_apart s.variables told c.as_slice-pairs.ensures.apart (known_here s c.args.self.now c.args.log told c.self.view_is c.requires.known c.as_slice-pairs.ensures.value), c.self.invariant.few_variables)

pub keep_log-requires : goal.keep_log-requires
keep_log-requires c =
    let s = c.self.inside in
    let t = c.args.task.0 in
    omega (arith, slice_get_within s.standings.items t standing.Running (runs s c.args.self.now t c.self.view_is c.requires.running), c.self.invariant.names_room.logs (many_of s c.args.self.now c.self.view_is c.requires.wide))

pub stand-requires-clause-few : goal.stand-requires-clause-few
stand-requires-clause-few c = few_slots c.self.inside c.self.invariant

pub stand-requires-clause-was : goal.stand-requires-clause-was
stand-requires-clause-was c = runs c.self.inside c.args.self.now c.args.task.0 c.self.view_is c.requires.running

abbrev now_kept : After-stand → Kept
now_kept c = record { bytes = c.self.inside.names.items; logs = c.keep_log.new.logs.items }

wide : (c : After-stand) → 256 < c.self.inside.variables
wide c = many_of c.self.inside c.args.self.now c.self.view_is c.requires.wide

running : (c : After-stand) → slice_get c.self.inside.standings.items c.args.task.0 ≡ Some standing.Running
running c = runs c.self.inside c.args.self.now c.args.task.0 c.self.view_is c.requires.running

stands : (c : After-stand) → c.stand.new.standings.items ≡ set c.self.inside.standings.items c.args.task.0 (standing.Parked (length c.args.log))
stands c = c.stand.ensures.items ∙ ap (λ (l : Known). set c.self.inside.standings.items c.args.task.0 (standing.Parked (length l))) c.as_slice-pairs.ensures.value

put_here : (c : After-stand) → RowWritten c.self.inside.variables c.args.task.0 (now_kept c) (kept_of c.self.inside)
put_here c =
    let s = c.self.inside in
    log_written s.variables c.args.task.0 (now_kept c) (kept_of s) (wide c) (as_many (length s.names.items)) c.keep_log.ensures.whole c.keep_log.ensures.longer c.keep_log.ensures.others

now_shown : (c : After-stand) → shown_from c.self.inside.variables (now_kept c) 0 c.stand.new.standings.items ≡ set (tasks_of c.self.inside) c.args.task.0 (Parked (unvalued c.args.log))
now_shown c =
    let s = c.self.inside in
    let w = s.variables in
    let t = c.args.task.0 in
    let told = log_of_list w (now_kept c) t (length c.args.log) (wide c) ∙ ap unvalued c.keep_log.ensures.log in
    ap (shown_from w (now_kept c) 0) (stands c)
    ∙ shown_parked w t (length c.args.log) (now_kept c) (kept_of s) s.standings.items (unvalued c.args.log) (put_here c) c.self.invariant.rows (running c) told

pub invariant_of-self : goal.invariant_of-self
invariant_of-self c =
    let s = c.self.inside in
    let w = s.variables in
    let t = c.args.task.0 in
    let log = c.args.log in
    let at = at_first s c.args.self.now t c.self.view_is c.requires.running in
    let known = known_here s c.args.self.now log log c.self.view_is c.requires.known refl in
    let told = c.as_slice-pairs.ensures.value in
    let apart = subst Apart told c.as_slice-pairs.ensures.apart in
    let size = ap length (stands c) ∙ length-set s.standings.items t (standing.Parked (length log)) in
    record {
      sets = placed_stand (tasks_of s) _ s.spare t Running (Parked (unvalued log)) s.ready c.enter.new.sleepers.items at (now_shown c)
          (sets_park (places (tasks_of s) s.spare) s.ready s.sleepers.items c.enter.new.sleepers.items t (unvalued log) c.self.invariant.sets (at_place (tasks_of s) s.spare t Running at) c.enter.ensures.size
          (λ x. c.enter.ensures.each x ∙ (ap (λ (l : Known). flagged true l t x (get_or s.sleepers.items x [])) told ∙ flagged_unvalued true log t x (get_or s.sleepers.items x [])))
          (known_unvalued w log known));
      rows = subst (λ (ss : List Slot). HaveRows w (now_kept c) ss) (sym (stands c))
          (rows_parked w t (length log) (now_kept c) (kept_of s) s.standings.items (put_here c) c.self.invariant.rows (few_apart w log apart known) (running c));
      few_variables = c.self.invariant.few_variables;
      tallied = c.stand.ensures.tallied;
      room = omega (arith, c.self.invariant.room, size, c.stand.ensures.capacity);
      names_room = subst (λ (k : ℕ). HaveRoom w (k + s.spare) (vec_capacity s.names) (vec_capacity c.keep_log.new.logs)) (sym size)
          (record { rows = c.self.invariant.names_room.rows; logs = λ many. omega (arith, c.self.invariant.names_room.logs many, c.keep_log.ensures.capacity) });
    }

pub returns : goal.returns
returns c =
    table_is c.args.self.now _ (set c.args.self.now.tasks c.args.task.0 (Parked (unvalued c.args.log))) _ _
    (now_shown c ∙ ap (λ (b : TableView). set b.tasks c.args.task.0 (Parked (unvalued c.args.log))) c.self.view_is)
    (ap (λ (b : TableView). b.variables) c.self.view_is)
    (ap (λ (b : TableView). b.spare) c.self.view_is)
