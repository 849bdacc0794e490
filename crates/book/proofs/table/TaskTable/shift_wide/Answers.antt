use Rattle.std.proofs.Common.{map, ◌≡◌, ◌<◌, ◌+◌, ℕ, Bool, true, false, List, [], Some, length, set, get_or, refl, sym, ◌∙◌, ap, subst, arith, vec_capacity}
use Rattle.std.specs.List.{slice_get}
use Rattle.std.proofs.lemmas.List.{length-set}
use Rattle.std.proofs.lemmas.Option.{same_Some, slice_get_within, get_or_from_slice_get}
use Rattle.attempt.specs.Asking.{Known}
use Rattle.attempt.specs.Order.{AllKnown}
use Rattle.book.specs.declared.task.Slot.{Slot}
use Rattle.book.specs.declared.task.Slot.TheVariants as standing
use Rattle.book.specs.declared.table.TaskTable.TheInside.{Inside}
use Rattle.book.specs.Tasks.{Task, Running, Parked}
use Rattle.book.specs.Counting.{IsTally}
use Rattle.book.specs.Standings.{Kept, kept_log, bare, shown_from, HaveRows, HaveRoom}
use Rattle.book.specs.Table.{TableView, IsParked, unvalued, flagged}
use Rattle.book.specs.TableInside.{AreSets, IsSorted, table_of, tasks_of, kept_of, places}
use Rattle.book.proofs.Tallies.{tally_traded}
use Rattle.book.proofs.Rows.{log_of_list, stands_running, flagged_unvalued}
use Rattle.book.proofs.Parking.{Waiting, waiting, read_at, same_count, flagged_length, sets_shifted, many_of, log_within, log_read, known_log, waiting_within, moved_logs, shown_moved, rows_moved}
use Rattle.book.proofs.Sets.{in_a_set, at_place, roomy, table_is}
use Rattle.book.proofs.table.TaskTable.shift_wide.Goals as goal
use Rattle.book.proofs.table.TaskTable.shift_wide.Goals.{After-trade}

pub index-requires : goal.index-requires
index-requires c =
    let s = c.self.inside in
    let w = waiting s c.args.self.now c.args.from c.self.view_is c.requires.parked in
    omega (arith, slice_get_within s.standings.items c.args.from (standing.Parked w.count) w.stands, s.standings.ok.0)

pub unreachable-requires : goal.unreachable-requires
unreachable-requires c =
    let s = c.self.inside in
    let w = waiting s c.args.self.now c.args.from c.self.view_is c.requires.parked in
    c.in_default.not-Parked w.count (same_Some _ _ (sym (read_at s c.args.from w c.index.result.now c.index.ensures) ∙ w.stands))

pub index-requires-2 : goal.index-requires-2
index-requires-2 c =
    let s = c.self.inside in
    let w = waiting s c.args.self.now c.args.from c.self.view_is c.requires.parked in
    omega (arith, log_within s c.args.from w c.self.invariant (many_of s c.args.self.now c.self.view_is c.requires.wide), s.logs.ok.0)

pub index-requires-3 : goal.index-requires-3
index-requires-3 c =
    let s = c.self.inside in
    let w = waiting s c.args.self.now c.args.from c.self.view_is c.requires.parked in
    omega (arith, log_within s c.args.from w c.self.invariant (many_of s c.args.self.now c.self.view_is c.requires.wide), s.logs.ok.0)

-- the log that is read is the task's
told_is : (s : Inside) (v : TableView) (from : ℕ) → table_of s ≡ v → (k : IsSorted s) → 256 < v.variables → IsParked (slice_get v.tasks from) → (there told : Known) → there ≡ get_or s.logs.items from there → told ≡ there → told ≡ get_or s.logs.items from []
told_is s v from view k wide parked there told e same =
    let w = waiting s v from view parked in
    same ∙ log_read s.logs.items from there (log_within s from w k (many_of s v view wide)) e

-- and its variables have their sets
known_told : (s : Inside) (v : TableView) (from : ℕ) → table_of s ≡ v → (k : IsSorted s) → 256 < v.variables → IsParked (slice_get v.tasks from) → (told : Known) → told ≡ get_or s.logs.items from [] → AllKnown s.variables told
known_told s v from view k wide parked told e =
    subst (λ (l : Known). AllKnown s.variables l) (sym e) (known_log s from (waiting s v from view parked) k (many_of s v view wide))

pub leave_log-requires-clause-known : goal.leave_log-requires-clause-known
leave_log-requires-clause-known c =
    let s = c.self.inside in
    let told = told_is s c.args.self.now c.args.from c.self.view_is c.self.invariant c.requires.wide c.requires.parked c.index-2.result.now c.as_slice.result.now c.index-2.ensures c.as_slice.ensures.value in
    in_a_set s.variables (length s.sleepers.items) c.as_slice.result.now c.self.invariant.sets.one_each
    (known_told s c.args.self.now c.args.from c.self.view_is c.self.invariant c.requires.wide c.requires.parked c.as_slice.result.now told)

pub leave_log-requires-clause-room : goal.leave_log-requires-clause-room
leave_log-requires-clause-room c =
    let s = c.self.inside in
    let w = waiting s c.args.self.now c.args.from c.self.view_is c.requires.parked in
    roomy (places (tasks_of s) s.spare) s.ready s.sleepers.items c.args.from c.self.invariant.sets (waiting_within s c.args.from w)

pub enter-requires-clause-known : goal.enter-requires-clause-known
enter-requires-clause-known c =
    let s = c.self.inside in
    let told = told_is s c.args.self.now c.args.from c.self.view_is c.self.invariant c.requires.wide c.requires.parked c.index-3.result.now c.as_slice-2.result.now c.index-3.ensures c.as_slice-2.ensures.value in
    in_a_set s.variables (length c.leave_log.new.sleepers.items) c.as_slice-2.result.now (c.leave_log.ensures.size ∙ c.self.invariant.sets.one_each)
    (known_told s c.args.self.now c.args.from c.self.view_is c.self.invariant c.requires.wide c.requires.parked c.as_slice-2.result.now told)

pub enter-requires-clause-room : goal.enter-requires-clause-room
enter-requires-clause-room c x low =
    let s = c.self.inside in
    let w = waiting s c.args.self.now c.args.from c.self.view_is c.requires.parked in
    let before : x < length s.sleepers.items = omega (arith, low, c.leave_log.ensures.size) in
    let room = roomy (places (tasks_of s) s.spare) s.ready s.sleepers.items c.args.to c.self.invariant.sets (omega (arith, waiting_within s c.args.from w, c.requires.below)) x before in
    omega (arith, room, ap length (c.leave_log.ensures.each x), flagged_length false c.as_slice.result.now c.args.from x (get_or s.sleepers.items x []))

pub move_log-requires-clause-from : goal.move_log-requires-clause-from
move_log-requires-clause-from c =
    let s = c.self.inside in
    let w = waiting s c.args.self.now c.args.from c.self.view_is c.requires.parked in
    log_within s c.args.from w c.self.invariant (many_of s c.args.self.now c.self.view_is c.requires.wide)

pub move_log-requires-clause-to : goal.move_log-requires-clause-to
move_log-requires-clause-to c =
    let s = c.self.inside in
    let w = waiting s c.args.self.now c.args.from c.self.view_is c.requires.parked in
    omega (arith, log_within s c.args.from w c.self.invariant (many_of s c.args.self.now c.self.view_is c.requires.wide), c.requires.below)

pub trade-requires-clause-from : goal.trade-requires-clause-from
trade-requires-clause-from c =
    let s = c.self.inside in
    let w = waiting s c.args.self.now c.args.from c.self.view_is c.requires.parked in
    let count = same_count s c.args.from w c.index.result.now c.in-Parked.count (read_at s c.args.from w c.index.result.now c.index.ensures) c.in-Parked.is in
    w.stands ∙ ap (λ (n : ℕ). Some (standing.Parked n)) (sym count)

pub trade-requires-clause-to : goal.trade-requires-clause-to
trade-requires-clause-to c =
    let s = c.self.inside in
    stands_running s.variables (kept_of s) s.standings.items c.args.to (ap (λ (b : TableView). slice_get b.tasks c.args.to) c.self.view_is ∙ c.requires.free)

abbrev h : (c : After-trade) → Waiting c.self.inside c.args.from
h c = waiting c.self.inside c.args.self.now c.args.from c.self.view_is c.requires.parked

wide : (c : After-trade) → 256 < c.self.inside.variables
wide c = many_of c.self.inside c.args.self.now c.self.view_is c.requires.wide

free : (c : After-trade) → slice_get c.self.inside.standings.items c.args.to ≡ Some standing.Running
free c =
    let s = c.self.inside in
    stands_running s.variables (kept_of s) s.standings.items c.args.to (ap (λ (b : TableView). slice_get b.tasks c.args.to) c.self.view_is ∙ c.requires.free)

free_at : (c : After-trade) → slice_get (tasks_of c.self.inside) c.args.to ≡ Some Running
free_at c = ap (λ (b : TableView). slice_get b.tasks c.args.to) c.self.view_is ∙ c.requires.free

abbrev told : (c : After-trade) → Known
told c = get_or c.self.inside.logs.items c.args.from []

abbrev log : (c : After-trade) → Known
log c = kept_log c.self.inside.variables (kept_of c.self.inside) c.args.from (h c).count

log_is : (c : After-trade) → log c ≡ unvalued (told c)
log_is c = log_of_list c.self.inside.variables (kept_of c.self.inside) c.args.from (h c).count (wide c)

abbrev now_kept : After-trade → Kept
now_kept c = record { bytes = c.self.inside.names.items; logs = c.move_log.new.logs.items }

kept_is : (c : After-trade) → moved_logs c.self.inside c.args.from c.args.to [] (told c) ≡ now_kept c
kept_is c =
    let s = c.self.inside in
    ap (λ (ls : List Known). let k : Kept = record { bytes = s.names.items; logs = ls } in k) (sym c.move_log.ensures.logs)

stood : (c : After-trade) → c.trade.new.standings.items ≡ set (set c.self.inside.standings.items c.args.from standing.Running) c.args.to (standing.Parked (h c).count)
stood c =
    let s = c.self.inside in
    let count = same_count s c.args.from (h c) c.index.result.now c.in-Parked.count (read_at s c.args.from (h c) c.index.result.now c.index.ensures) c.in-Parked.is in
    c.trade.ensures.items ∙ ap (λ (n : ℕ). set (set s.standings.items c.args.from standing.Running) c.args.to (standing.Parked n)) count

now_shown : (c : After-trade) → shown_from c.self.inside.variables (now_kept c) 0 c.trade.new.standings.items ≡ set (set (tasks_of c.self.inside) c.args.from Running) c.args.to (Parked (log c))
now_shown c =
    let s = c.self.inside in
    ap (shown_from s.variables (now_kept c) 0) (stood c)
    ∙ (ap (λ (k : Kept). shown_from s.variables k 0 (set (set s.standings.items c.args.from standing.Running) c.args.to (standing.Parked (h c).count))) (sym (kept_is c))
    ∙ shown_moved s c.args.from c.args.to (h c) [] (told c) c.self.invariant (wide c) (free c) c.requires.below refl)

left_is : (c : After-trade) → c.as_slice.result.now ≡ told c
left_is c = told_is c.self.inside c.args.self.now c.args.from c.self.view_is c.self.invariant c.requires.wide c.requires.parked c.index-2.result.now c.as_slice.result.now c.index-2.ensures c.as_slice.ensures.value

entered_is : (c : After-trade) → c.as_slice-2.result.now ≡ told c
entered_is c = told_is c.self.inside c.args.self.now c.args.from c.self.view_is c.self.invariant c.requires.wide c.requires.parked c.index-3.result.now c.as_slice-2.result.now c.index-3.ensures c.as_slice-2.ensures.value

flag_of : (flag : Bool) (t x : ℕ) (set : List Bool) (read told log : Known) → read ≡ told → log ≡ unvalued told → flagged flag read t x set ≡ flagged flag log t x set
flag_of flag t x set read told log same is =
    ap (λ (l : Known). flagged flag l t x set) same ∙ (flagged_unvalued flag told t x set ∙ ap (λ (l : Known). flagged flag l t x set) (sym is))

pub invariant_of-self : goal.invariant_of-self
invariant_of-self c =
    let s = c.self.inside in
    let w = s.variables in
    let k = c.self.invariant in
    let known = k.sets.known c.args.from (log c) (at_place (tasks_of s) s.spare c.args.from (Parked (log c)) (h c).shown_is) in
    let size = ap length (stood c) ∙ (length-set (set s.standings.items c.args.from standing.Running) c.args.to (standing.Parked (h c).count) ∙ length-set s.standings.items c.args.from standing.Running) in
    record {
      sets = subst (λ (ts : List Task). AreSets w (places ts s.spare) s.ready c.enter.new.sleepers.items) (sym (now_shown c))
          (sets_shifted (tasks_of s) s.spare s.ready s.sleepers.items c.leave_log.new.sleepers.items c.enter.new.sleepers.items c.args.from c.args.to (log c) k.sets (h c).shown_is (free_at c) c.requires.below known
          c.leave_log.ensures.size (λ x. c.leave_log.ensures.each x ∙ flag_of false c.args.from x (get_or s.sleepers.items x []) c.as_slice.result.now (told c) (log c) (left_is c) (log_is c))
          c.enter.ensures.size (λ x. c.enter.ensures.each x ∙ flag_of true c.args.to x (get_or c.leave_log.new.sleepers.items x []) c.as_slice-2.result.now (told c) (log c) (entered_is c) (log_is c)));
      rows = subst (λ (xs : List Slot). HaveRows w (now_kept c) xs) (sym (stood c))
          (subst (λ (x : Kept). HaveRows w x (set (set s.standings.items c.args.from standing.Running) c.args.to (standing.Parked (h c).count))) (kept_is c)
          (rows_moved s c.args.from c.args.to (h c) [] (told c) k (wide c) (free c) c.requires.below));
      few_variables = k.few_variables;
      tallied = subst (λ (xs : List Slot). IsTally (map bare xs) s.tally) (sym (stood c))
          (tally_traded s.standings.items c.args.from c.args.to (h c).count s.tally (h c).stands (free c) c.requires.below k.tallied);
      room = omega (arith, k.room, size, c.trade.ensures.capacity);
      names_room = subst (λ (n : ℕ). HaveRoom w (n + s.spare) (vec_capacity s.names) (vec_capacity c.move_log.new.logs)) (sym size)
          (record { rows = k.names_room.rows; logs = λ many. omega (arith, k.names_room.logs many, c.move_log.ensures.capacity) });
    }

pub returns : goal.returns
returns c =
    let s = c.self.inside in
    let v = c.args.self.now in
    let read : get_or v.tasks c.args.from Running ≡ Parked (log c) = get_or_from_slice_get v.tasks c.args.from (Parked (log c)) Running (ap (λ (b : TableView). slice_get b.tasks c.args.from) (sym c.self.view_is) ∙ (h c).shown_is) in
    table_is v _ (set (set v.tasks c.args.from Running) c.args.to (get_or v.tasks c.args.from Running)) _ _
    (now_shown c
    ∙ (ap (λ (b : TableView). set (set b.tasks c.args.from Running) c.args.to (Parked (log c))) c.self.view_is
    ∙ ap (set (set v.tasks c.args.from Running) c.args.to) (sym read)))
    (ap (λ (b : TableView). b.variables) c.self.view_is)
    (ap (λ (b : TableView). b.spare) c.self.view_is)
