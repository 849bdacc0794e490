use Rattle.std.proofs.Common.{map, ◌≡◌, ◌<◌, ◌≤◌, ◌+◌, ◌*◌, ℕ, true, false, List, [], Some, length, set, get_or, refl, sym, ◌∙◌, ap, subst, arith, vec_capacity}
use Rattle.std.specs.List.{slice_get}
use Rattle.std.proofs.lemmas.List.{length-set}
use Rattle.std.proofs.lemmas.Nat.{row_fits}
use Rattle.std.proofs.lemmas.Option.{same_Some, slice_get_within, get_or_from_slice_get}
use Rattle.attempt.specs.Asking.{Known}
use Rattle.attempt.specs.Order.{AllKnown}
use Rattle.book.specs.declared.task.Slot.{Slot}
use Rattle.book.specs.declared.task.Slot.TheVariants as standing
use Rattle.book.specs.declared.table.TaskTable.TheInside.{Inside}
use Rattle.book.specs.Tasks.{Task, Running, Parked}
use Rattle.book.specs.Counting.{IsTally}
use Rattle.book.proofs.Tallies.{tally_traded}
use Rattle.book.specs.Standings.{Kept, kept_log, bare, shown_from, row, naming, HaveRows, HaveRoom}
use Rattle.book.specs.Table.{TableView, IsParked, flagged, low_bits}
use Rattle.book.specs.TableInside.{AreSets, IsSorted, table_of, tasks_of, places, kept_of}
use Rattle.book.proofs.Rows.{log_of_row, RowWritten, row_written, stands_running}
use Rattle.book.proofs.Sets.{at_place, roomy, table_is, named_set}
use Rattle.book.proofs.Parking.{few_of, as_many, Waiting, waiting, read_at, same_count, flagged_length, sets_shifted, shown_shifted, rows_shifted}
use Rattle.book.proofs.table.TaskTable.shift_row.Goals as goal
use Rattle.book.proofs.table.TaskTable.shift_row.Goals.{After-trade}

abbrev h : (c : After-trade) → Waiting c.self.inside c.args.from
h c = waiting c.self.inside c.args.self.now c.args.from c.self.view_is c.requires.parked

pub index-requires : goal.index-requires
index-requires c =
    let s = c.self.inside in
    let w = waiting s c.args.self.now c.args.from c.self.view_is c.requires.parked in
    omega (arith, slice_get_within s.standings.items c.args.from (standing.Parked w.count) w.stands, s.standings.ok.0)

pub unreachable-requires : goal.unreachable-requires
unreachable-requires c =
    let s = c.self.inside in
    let w = waiting s c.args.self.now c.args.from c.self.view_is c.requires.parked in
    c.in_default.not-Parked w.count (same_Some _ _ (sym (read_at s c.args.from w c.index.result.now c.index.ensures) ∙ w.stands))

-- the count and the width
count_is : (s : Inside) (v : TableView) (t : ℕ) (view : table_of s ≡ v) (parked : IsParked (slice_get v.tasks t)) (read : Slot) (n : ℕ) → read ≡ get_or s.standings.items t read → read ≡ standing.Parked n → n ≡ (waiting s v t view parked).count
count_is s v t view parked read n e is =
    let w = waiting s v t view parked in
    same_count s t w read n (read_at s t w read e) is

pub move_row-requires-clause-fits : goal.move_row-requires-clause-fits
move_row-requires-clause-fits c =
    let s = c.self.inside in
    let w = waiting s c.args.self.now c.args.from c.self.view_is c.requires.parked in
    let count = count_is s c.args.self.now c.args.from c.self.view_is c.requires.parked c.index.result.now c.in-Parked.count c.index.ensures c.in-Parked.is in
    omega (arith, c.self.invariant.rows.fits c.args.from w.count w.stands, count)

pub move_row-requires-clause-whole : goal.move_row-requires-clause-whole
move_row-requires-clause-whole c =
    let s = c.self.inside in
    let w = waiting s c.args.self.now c.args.from c.self.view_is c.requires.parked in
    c.self.invariant.rows.whole (few_of s c.args.self.now c.self.view_is c.requires.narrow) c.args.from w.count w.stands

pub row_of-row-requires : goal.row_of-row-requires
row_of-row-requires c =
    let s = c.self.inside in
    let w = waiting s c.args.self.now c.args.from c.self.view_is c.requires.parked in
    let k = s.variables in
    let count = count_is s c.args.self.now c.args.from c.self.view_is c.requires.parked c.index.result.now c.in-Parked.count c.index.ensures c.in-Parked.is in
    let few = c.self.invariant.rows.fits c.args.from w.count w.stands in
    (omega (arith, row_fits c.args.to k c.args.from k (omega (arith, c.requires.below)) (omega arith), few, count, c.self.invariant.rows.whole (few_of s c.args.self.now c.self.view_is c.requires.narrow) c.args.from w.count w.stands, ap length c.deref.ensures.value, c.move_row.ensures.size))

-- the row that is read is that of the task
row_read : (s : Inside) (v : TableView) (t to : ℕ) (view : table_of s ≡ v) (parked : IsParked (slice_get v.tasks t)) (read : Slot) (n : ℕ) (now names : List ℕ) → s.variables ≤ 256 → read ≡ get_or s.standings.items t read → read ≡ standing.Parked n → names ≡ row now (to * s.variables) n → row now (to * s.variables) n ≡ row s.names.items (t * s.variables) n
    → naming names ≡ kept_log s.variables (kept_of s) t (waiting s v t view parked).count
row_read s v t to view parked read n now names low e is here moved =
    ap naming (here ∙ (moved ∙ ap (row s.names.items (t * s.variables)) (count_is s v t view parked read n e is)))
    ∙ sym (log_of_row s.variables (kept_of s) t (waiting s v t view parked).count low)

narrow : (c : After-trade) → c.self.inside.variables ≤ 256
narrow c = few_of c.self.inside c.args.self.now c.self.view_is c.requires.narrow

row_is : (c : After-trade) → naming c.row_of-row.result.now ≡ kept_log c.self.inside.variables (kept_of c.self.inside) c.args.from (h c).count
row_is c =
    row_read c.self.inside c.args.self.now c.args.from c.args.to c.self.view_is c.requires.parked c.index.result.now c.in-Parked.count c.move_row.new.names.items c.row_of-row.result.now (narrow c) c.index.ensures c.in-Parked.is
    (c.row_of-row.ensures ∙ ap (λ (ns : List ℕ). row ns (c.args.to * c.self.inside.variables) c.in-Parked.count) c.deref.ensures.value) c.move_row.ensures.row

abbrev log : (c : After-trade) → Known
log c = kept_log c.self.inside.variables (kept_of c.self.inside) c.args.from (h c).count

known_row : (s : Inside) (t : ℕ) (w : Waiting s t) → IsSorted s → AllKnown s.variables (kept_log s.variables (kept_of s) t w.count)
known_row s t w k =
    let l = kept_log s.variables (kept_of s) t w.count in
    k.sets.known t l (at_place (tasks_of s) s.spare t (Parked l) w.shown_is)

known : (c : After-trade) → AllKnown c.self.inside.variables (log c)
known c = known_row c.self.inside c.args.from (h c) c.self.invariant

-- its names have their sets
known_sets : (s : Inside) (t : ℕ) (w : Waiting s t) → IsSorted s → (names : List ℕ) → naming names ≡ kept_log s.variables (kept_of s) t w.count → (sets : ℕ) → sets ≡ length s.sleepers.items → (i : ℕ) → i < length names → low_bits (get_or names i 0) < sets
known_sets s t w k names e sets same =
    named_set s.variables sets names (same ∙ k.sets.one_each) (subst (λ (l : Known). AllKnown s.variables l) (sym e) (known_row s t w k))

pub leave-requires-clause-known : goal.leave-requires-clause-known
leave-requires-clause-known c =
    let s = c.self.inside in
    let w = waiting s c.args.self.now c.args.from c.self.view_is c.requires.parked in
    known_sets s c.args.from w c.self.invariant c.row_of-row.result.now (row_read s c.args.self.now c.args.from c.args.to c.self.view_is c.requires.parked c.index.result.now c.in-Parked.count c.move_row.new.names.items c.row_of-row.result.now (few_of s c.args.self.now c.self.view_is c.requires.narrow) c.index.ensures c.in-Parked.is
    (c.row_of-row.ensures ∙ ap (λ (ns : List ℕ). row ns (c.args.to * s.variables) c.in-Parked.count) c.deref.ensures.value) c.move_row.ensures.row) (length s.sleepers.items) refl

within_places : (s : Inside) (t : ℕ) (w : Waiting s t) → t < length (places (tasks_of s) s.spare)
within_places s t w =
    let l = kept_log s.variables (kept_of s) t w.count in
    slice_get_within (places (tasks_of s) s.spare) t (Parked l) (at_place (tasks_of s) s.spare t (Parked l) w.shown_is)

pub leave-requires-clause-room : goal.leave-requires-clause-room
leave-requires-clause-room c =
    let s = c.self.inside in
    let w = waiting s c.args.self.now c.args.from c.self.view_is c.requires.parked in
    roomy (places (tasks_of s) s.spare) s.ready s.sleepers.items c.args.from c.self.invariant.sets (within_places s c.args.from w)

pub enter_row-requires-clause-known : goal.enter_row-requires-clause-known
enter_row-requires-clause-known c =
    let s = c.self.inside in
    let w = waiting s c.args.self.now c.args.from c.self.view_is c.requires.parked in
    known_sets s c.args.from w c.self.invariant c.row_of-row.result.now (row_read s c.args.self.now c.args.from c.args.to c.self.view_is c.requires.parked c.index.result.now c.in-Parked.count c.move_row.new.names.items c.row_of-row.result.now (few_of s c.args.self.now c.self.view_is c.requires.narrow) c.index.ensures c.in-Parked.is
    (c.row_of-row.ensures ∙ ap (λ (ns : List ℕ). row ns (c.args.to * s.variables) c.in-Parked.count) c.deref.ensures.value) c.move_row.ensures.row) (length c.leave.new.sleepers.items) c.leave.ensures.size

pub enter_row-requires-clause-room : goal.enter_row-requires-clause-room
enter_row-requires-clause-room c x low =
    let s = c.self.inside in
    let w = waiting s c.args.self.now c.args.from c.self.view_is c.requires.parked in
    let before : x < length s.sleepers.items = omega (arith, low, c.leave.ensures.size) in
    let room = roomy (places (tasks_of s) s.spare) s.ready s.sleepers.items c.args.to c.self.invariant.sets (omega (arith, within_places s c.args.from w, c.requires.below)) x before in
    omega (arith, room, ap length (c.leave.ensures.each x), flagged_length false (naming c.row_of-row.result.now) c.args.from x (get_or s.sleepers.items x []))

pub trade-requires-clause-from : goal.trade-requires-clause-from
trade-requires-clause-from c =
    let s = c.self.inside in
    let w = waiting s c.args.self.now c.args.from c.self.view_is c.requires.parked in
    let count = count_is s c.args.self.now c.args.from c.self.view_is c.requires.parked c.index.result.now c.in-Parked.count c.index.ensures c.in-Parked.is in
    w.stands ∙ ap (λ (n : ℕ). Some (standing.Parked n)) (sym count)

pub trade-requires-clause-to : goal.trade-requires-clause-to
trade-requires-clause-to c =
    let s = c.self.inside in
    stands_running s.variables (kept_of s) s.standings.items c.args.to (ap (λ (b : TableView). slice_get b.tasks c.args.to) c.self.view_is ∙ c.requires.free)

abbrev now_kept : After-trade → Kept
now_kept c = record { bytes = c.move_row.new.names.items; logs = c.self.inside.logs.items }

-- what was written
written : (c : After-trade) → RowWritten c.self.inside.variables c.args.to (now_kept c) (kept_of c.self.inside)
written c =
    let s = c.self.inside in
    let k = s.variables in
    let whole = c.self.invariant.rows.whole (narrow c) c.args.from (h c).count (h c).stands in
    row_written k c.args.to (now_kept c) (kept_of s) (narrow c)
    (omega (arith, row_fits c.args.to k c.args.from k (omega (arith, c.requires.below)) (omega arith), whole, c.move_row.ensures.size))
    (omega (arith, c.move_row.ensures.size)) (as_many (length s.logs.items)) (λ j low less. c.move_row.ensures.before j less) (λ j low more. c.move_row.ensures.after j more)

stood : (c : After-trade) → c.trade.new.standings.items ≡ set (set c.self.inside.standings.items c.args.from standing.Running) c.args.to (standing.Parked (h c).count)
stood c =
    let s = c.self.inside in
    let count = count_is s c.args.self.now c.args.from c.self.view_is c.requires.parked c.index.result.now c.in-Parked.count c.index.ensures c.in-Parked.is in
    c.trade.ensures.items ∙ ap (λ (n : ℕ). set (set s.standings.items c.args.from standing.Running) c.args.to (standing.Parked n)) count

free_at : (c : After-trade) → slice_get (tasks_of c.self.inside) c.args.to ≡ Some Running
free_at c = ap (λ (b : TableView). slice_get b.tasks c.args.to) c.self.view_is ∙ c.requires.free

free : (c : After-trade) → slice_get c.self.inside.standings.items c.args.to ≡ Some standing.Running
free c = let s = c.self.inside in stands_running s.variables (kept_of s) s.standings.items c.args.to (free_at c)

moved : (c : After-trade) → kept_log c.self.inside.variables (now_kept c) c.args.to (h c).count ≡ kept_log c.self.inside.variables (kept_of c.self.inside) c.args.from (h c).count
moved c =
    let s = c.self.inside in
    let count = count_is s c.args.self.now c.args.from c.self.view_is c.requires.parked c.index.result.now c.in-Parked.count c.index.ensures c.in-Parked.is in
    let rows = subst (λ (n : ℕ). row c.move_row.new.names.items (c.args.to * s.variables) n ≡ row s.names.items (c.args.from * s.variables) n) count c.move_row.ensures.row in
    log_of_row s.variables (now_kept c) c.args.to (h c).count (narrow c) ∙ (ap naming rows ∙ sym (log_of_row s.variables (kept_of s) c.args.from (h c).count (narrow c)))

now_shown : (c : After-trade) → shown_from c.self.inside.variables (now_kept c) 0 c.trade.new.standings.items ≡ set (set (tasks_of c.self.inside) c.args.from Running) c.args.to (Parked (log c))
now_shown c =
    let s = c.self.inside in
    let w = s.variables in
    ap (shown_from w (now_kept c) 0) (stood c)
    ∙ shown_shifted w c.args.from c.args.to (h c).count (now_kept c) (kept_of s) s.standings.items (written c) c.self.invariant.rows (h c).stands (free c) c.requires.below (moved c)

pub invariant_of-self : goal.invariant_of-self
invariant_of-self c =
    let s = c.self.inside in
    let w = s.variables in
    let size = ap length (stood c) ∙ (length-set (set s.standings.items c.args.from standing.Running) c.args.to (standing.Parked (h c).count) ∙ length-set s.standings.items c.args.from standing.Running) in
    let named = row_is c in
    record {
      sets = subst (λ (ts : List Task). AreSets s.variables (places ts s.spare) s.ready c.enter_row.new.sleepers.items) (sym (now_shown c))
          (sets_shifted (tasks_of s) s.spare s.ready s.sleepers.items c.leave.new.sleepers.items c.enter_row.new.sleepers.items c.args.from c.args.to (log c) c.self.invariant.sets (h c).shown_is (free_at c) c.requires.below (known c)
          c.leave.ensures.size (λ x. c.leave.ensures.each x ∙ ap (λ (l : Known). flagged false l c.args.from x (get_or s.sleepers.items x [])) named)
          c.enter_row.ensures.size (λ x. c.enter_row.ensures.each x ∙ ap (λ (l : Known). flagged true l c.args.to x (get_or c.leave.new.sleepers.items x [])) named));
      rows = subst (λ (xs : List Slot). HaveRows s.variables (now_kept c) xs) (sym (stood c))
          (rows_shifted w c.args.from c.args.to (h c).count (now_kept c) (kept_of s) s.standings.items (written c) c.self.invariant.rows (h c).stands (free c) c.requires.below);
      few_variables = c.self.invariant.few_variables;
      tallied = subst (λ (xs : List Slot). IsTally (map bare xs) s.tally) (sym (stood c))
          (tally_traded s.standings.items c.args.from c.args.to (h c).count s.tally (h c).stands (free c) c.requires.below c.self.invariant.tallied);
      room = omega (arith, c.self.invariant.room, size, c.trade.ensures.capacity);
      names_room = subst (λ (k : ℕ). HaveRoom s.variables (k + s.spare) (vec_capacity c.move_row.new.names) (vec_capacity s.logs)) (sym size)
          (record { rows = λ low. omega (arith, c.self.invariant.names_room.rows low, c.move_row.ensures.capacity); logs = c.self.invariant.names_room.logs });
    }

pub returns : goal.returns
returns c =
    let s = c.self.inside in
    let v = c.args.self.now in
    let read : get_or v.tasks c.args.from Running ≡ Parked (log c) = get_or_from_slice_get v.tasks c.args.from (Parked (log c)) Running (ap (λ (b : TableView). slice_get b.tasks c.args.from) (sym c.self.view_is) ∙ (h c).shown_is) in
    table_is v _ (set (set v.tasks c.args.from Running) c.args.to (get_or v.tasks c.args.from Running)) _ _
    (now_shown c
    ∙ (ap (λ (b : TableView). set (set b.tasks c.args.from Running) c.args.to (Parked (log c))) c.self.view_is
    ∙ ap (set (set v.tasks c.args.from Running) c.args.to) (sym read)))
    (ap (λ (b : TableView). b.variables) c.self.view_is)
    (ap (λ (b : TableView). b.spare) c.self.view_is)
