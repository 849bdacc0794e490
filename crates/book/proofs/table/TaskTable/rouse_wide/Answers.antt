use Rattle.std.proofs.Common.{◌≡◌, ◌<◌, ◌+◌, ℕ, false, List, [], Some, length, set, get_or, sym, ◌∙◌, ap, subst, arith, vec_capacity}
use Rattle.std.proofs.lemmas.List.{length-set}
use Rattle.std.proofs.lemmas.Option.{same_Some, slice_get_within}
use Rattle.attempt.specs.Asking.{Known}
use Rattle.book.specs.declared.task.Slot.{Slot}
use Rattle.book.specs.declared.task.Slot.TheVariants as standing
use Rattle.book.specs.Tasks.{Ready, Parked}
use Rattle.book.specs.Standings.{Kept, kept_log, shown_from, HaveRows, HaveRoom}
use Rattle.book.specs.Table.{TableView, flagged}
use Rattle.book.specs.TableInside.{tasks_of, kept_of, places}
use Rattle.book.proofs.Rows.{RowWritten, log_of_list, shown_awake, rows_awake, rows_kept, flagged_unvalued}
use Rattle.book.proofs.Parking.{Waiting, waiting, read_at, same_count, many_of, as_many, log_within, log_put, known_log, waiting_within}
use Rattle.book.proofs.Sets.{few_slots, in_a_set, sets_rouse, placed_stand, at_place, roomy, ready_room, table_is}
use Rattle.book.proofs.table.TaskTable.rouse_wide.Goals as goal
use Rattle.book.proofs.table.TaskTable.rouse_wide.Goals.{After-insert}

pub index-requires : goal.index-requires
index-requires c =
    let s = c.self.inside in
    let w = waiting s c.args.self.now c.args.task.0 c.self.view_is c.requires.parked in
    omega (arith, slice_get_within s.standings.items c.args.task.0 (standing.Parked w.count) w.stands, s.standings.ok.0)

pub unreachable-requires : goal.unreachable-requires
unreachable-requires c =
    let s = c.self.inside in
    let t = c.args.task.0 in
    let w = waiting s c.args.self.now t c.self.view_is c.requires.parked in
    c.in_default.not-Parked w.count (same_Some _ _ (sym (read_at s t w c.index.result.now c.index.ensures) ∙ w.stands))

pub forget-requires-clause-within : goal.forget-requires-clause-within
forget-requires-clause-within c =
    let s = c.self.inside in
    let t = c.args.task.0 in
    let w = waiting s c.args.self.now t c.self.view_is c.requires.parked in
    log_within s t w c.self.invariant (many_of s c.args.self.now c.self.view_is c.requires.wide)

pub forget-requires-clause-known : goal.forget-requires-clause-known
forget-requires-clause-known c =
    let s = c.self.inside in
    let t = c.args.task.0 in
    let w = waiting s c.args.self.now t c.self.view_is c.requires.parked in
    in_a_set s.variables (length s.sleepers.items) (get_or s.logs.items t []) c.self.invariant.sets.one_each (known_log s t w c.self.invariant (many_of s c.args.self.now c.self.view_is c.requires.wide))

pub forget-requires-clause-room : goal.forget-requires-clause-room
forget-requires-clause-room c =
    let s = c.self.inside in
    let t = c.args.task.0 in
    let w = waiting s c.args.self.now t c.self.view_is c.requires.parked in
    roomy (places (tasks_of s) s.spare) s.ready s.sleepers.items t c.self.invariant.sets (waiting_within s t w)

pub stand-requires-clause-few : goal.stand-requires-clause-few
stand-requires-clause-few c = few_slots c.self.inside c.self.invariant

pub stand-requires-clause-was : goal.stand-requires-clause-was
stand-requires-clause-was c =
    let s = c.self.inside in
    let t = c.args.task.0 in
    let w = waiting s c.args.self.now t c.self.view_is c.requires.parked in
    let count = same_count s t w c.index.result.now c.in-Parked.count (read_at s t w c.index.result.now c.index.ensures) c.in-Parked.is in
    w.stands ∙ ap (λ (n : ℕ). Some (standing.Parked n)) (sym count)

pub insert-requires : goal.insert-requires
insert-requires c =
    let s = c.self.inside in
    let t = c.args.task.0 in
    let w = waiting s c.args.self.now t c.self.view_is c.requires.parked in
    ready_room (places (tasks_of s) s.spare) s.ready s.sleepers.items t c.self.invariant.sets (waiting_within s t w)

abbrev h : (c : After-insert) → Waiting c.self.inside c.args.task.0
h c = waiting c.self.inside c.args.self.now c.args.task.0 c.self.view_is c.requires.parked

abbrev log : (c : After-insert) → Known
log c = kept_log c.self.inside.variables (kept_of c.self.inside) c.args.task.0 (h c).count

abbrev now_kept : After-insert → Kept
now_kept c = record { bytes = c.self.inside.names.items; logs = c.forget.new.logs.items }

wide : (c : After-insert) → 256 < c.self.inside.variables
wide c = many_of c.self.inside c.args.self.now c.self.view_is c.requires.wide

put_here : (c : After-insert) → RowWritten c.self.inside.variables c.args.task.0 (now_kept c) (kept_of c.self.inside)
put_here c =
    let s = c.self.inside in
    let low = log_within s c.args.task.0 (h c) c.self.invariant (wide c) in
    subst (λ (ls : List Known). RowWritten s.variables c.args.task.0 (let k : Kept = record { bytes = s.names.items; logs = ls } in k) (kept_of s)) (sym c.forget.ensures.logs) (log_put s c.args.task.0 [] (wide c) low)

now_shown : (c : After-insert) → shown_from c.self.inside.variables (now_kept c) 0 c.stand.new.standings.items ≡ set (tasks_of c.self.inside) c.args.task.0 Ready
now_shown c =
    let s = c.self.inside in
    let t = c.args.task.0 in
    ap (shown_from s.variables (now_kept c) 0) c.stand.ensures.items
    ∙ shown_awake s.variables t (now_kept c) (kept_of s) s.standings.items (standing.Parked (h c).count) standing.Ready (put_here c) c.self.invariant.rows (h c).stands (λ n e. cc)

pub invariant_of-self : goal.invariant_of-self
invariant_of-self c =
    let s = c.self.inside in
    let w = s.variables in
    let t = c.args.task.0 in
    let told = get_or s.logs.items t [] in
    let size = ap length c.stand.ensures.items ∙ length-set s.standings.items t standing.Ready in
    let logs = ap length c.forget.ensures.logs ∙ length-set s.logs.items t [] in
    record {
      sets = placed_stand (tasks_of s) _ s.spare t (Parked (log c)) Ready c.insert.new.self c.forget.new.sleepers.items (h c).shown_is (now_shown c)
          (sets_rouse (places (tasks_of s) s.spare) s.ready c.insert.new.self s.sleepers.items c.forget.new.sleepers.items t (log c) c.self.invariant.sets (at_place (tasks_of s) s.spare t (Parked (log c)) (h c).shown_is) c.insert.ensures c.forget.ensures.size
          (λ x. c.forget.ensures.each x ∙ (flagged_unvalued false told t x (get_or s.sleepers.items x []) ∙ ap (λ (l : Known). flagged false l t x (get_or s.sleepers.items x [])) (sym (log_of_list w (kept_of s) t (h c).count (wide c))))));
      rows = subst (λ (ss : List Slot). HaveRows w (now_kept c) ss) (sym c.stand.ensures.items)
          (rows_kept w (now_kept c) (kept_of s) (set s.standings.items t standing.Ready) (as_many (length s.names.items)) (omega (arith, logs))
          (rows_awake w t (kept_of s) s.standings.items (standing.Parked (h c).count) standing.Ready c.self.invariant.rows (h c).stands (λ n e. cc)));
      few_variables = c.self.invariant.few_variables;
      tallied = c.stand.ensures.tallied;
      room = omega (arith, c.self.invariant.room, size, c.stand.ensures.capacity);
      names_room = subst (λ (k : ℕ). HaveRoom w (k + s.spare) (vec_capacity s.names) (vec_capacity c.forget.new.logs)) (sym size)
          (record { rows = c.self.invariant.names_room.rows; logs = λ many. omega (arith, c.self.invariant.names_room.logs many, c.forget.ensures.capacity) });
    }

pub returns : goal.returns
returns c =
    table_is c.args.self.now _ (set c.args.self.now.tasks c.args.task.0 Ready) _ _
    (now_shown c ∙ ap (λ (b : TableView). set b.tasks c.args.task.0 Ready) c.self.view_is)
    (ap (λ (b : TableView). b.variables) c.self.view_is)
    (ap (λ (b : TableView). b.spare) c.self.view_is)
