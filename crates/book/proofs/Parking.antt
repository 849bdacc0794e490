-- A parked task, as a table keeps it, and how it comes to another place.
use Rattle.std.proofs.Common.{◌≡◌, ◌≢◌, ℕ, zero, suc, ◌<◌, ◌≤◌, Bool, true, false, List, [], ◌∷◌, Some, length, set, get_or, refl, sym, ◌∙◌, ap, subst, arith}
use Rattle.std.specs.List.{slice_get}
use Rattle.std.proofs.lemmas.Bool.{cond_both}
use Rattle.std.proofs.lemmas.List.{length-set, get_or-set_other, get_or-set_same}
use Rattle.std.proofs.lemmas.Option.{same_Some, slice_get_within, slice_get_read, get_or_from_slice_get}
use Rattle.attempt.specs.Asking.{Known}
use Rattle.attempt.specs.Order.{AllKnown}
use Rattle.book.specs.declared.task.Slot.{Slot}
use Rattle.book.specs.declared.task.Slot.TheVariants as standing
use Rattle.book.specs.declared.table.TaskTable.TheInside.{Inside}
use Rattle.book.specs.Tasks.{Task}
use Rattle.book.specs.Tasks.{Running, Parked}
use Rattle.book.specs.Standings.{Kept, kept_log, shown, shown_from, HaveRows}
use Rattle.book.specs.Table.{TableView, unvalued, IsParked, flagged, names_low, is_ready, waits_low}
use Rattle.book.specs.TableInside.{AreSets, IsSorted, table_of, tasks_of, places, kept_of}
use Rattle.book.proofs.Lists.{get_set_other, set_same}
use Rattle.book.proofs.Rows.{log_of_list, log_written, known_valued, RowWritten, shown_at, shown_set, shown_parked, shown_awake, stands_parked, rows_kept, rows_awake, rows_parked, written_same, length_shown}
use Rattle.book.proofs.Sets.{sets_placed, sets_park, flag_stays, places_set, at_place}

-- a parked task, and what is kept of it
pub record Waiting (s : Inside) (t : ℕ) : Type 0 where
  pub count : ℕ
  pub stands : slice_get s.standings.items t ≡ Some (standing.Parked count)
  pub shown_is : slice_get (tasks_of s) t ≡ Some (Parked (kept_log s.variables (kept_of s) t count))

pub waiting : (s : Inside) (v : TableView) (t : ℕ) → table_of s ≡ v → IsParked (slice_get v.tasks t) → Waiting s t
waiting s v t view parked =
    let at : slice_get (tasks_of s) t ≡ Some (Parked parked.0) = ap (λ (b : TableView). slice_get b.tasks t) view ∙ parked.1 in
    let p = stands_parked s.variables (kept_of s) s.standings.items t parked.0 at in
    record { count = p.0; stands = p.1; shown_is = at ∙ ap (λ (l : Known). Some (Parked l)) p.2 }

pub read_at : (s : Inside) (t : ℕ) (h : Waiting s t) (read : Slot) → read ≡ get_or s.standings.items t read → slice_get s.standings.items t ≡ Some read
read_at s t h read e = slice_get_read s.standings.items (length s.standings.items) t read refl (slice_get_within s.standings.items t (standing.Parked h.count) h.stands) e

-- the count that is read is that of the task
pub same_count : (s : Inside) (t : ℕ) (h : Waiting s t) (found : Slot) (n : ℕ) → slice_get s.standings.items t ≡ Some found → found ≡ standing.Parked n → n ≡ h.count
same_count s t h found n at is =
    let e : standing.Parked n ≡ standing.Parked h.count = same_Some _ _ (ap Some (sym is) ∙ (sym at ∙ h.stands)) in
    cc

pub flagged_length : (b : Bool) (log : Known) (t x : ℕ) (s : List Bool) → length (flagged b log t x s) ≡ length s
flagged_length b log t x s = cond_both (names_low x log) (set s t b) s (λ (r : List Bool). length r ≡ length s) (λ e. length-set s t b) (λ e. refl)

-- a parked task leaves its place
sets_left : {v : ℕ} (ts : List Task) (ready : List Bool) (sleepers now_sleepers : List (List Bool)) (t : ℕ) (log : Known) → AreSets v ts ready sleepers → slice_get ts t ≡ Some (Parked log) → length now_sleepers ≡ length sleepers → ((x : ℕ) → get_or now_sleepers x [] ≡ flagged false log t x (get_or sleepers x [])) → AreSets v (set ts t Running) ready now_sleepers
sets_left ts ready sleepers now_sleepers t log h at size each =
    sets_placed ts ready ready sleepers now_sleepers t (Parked log) Running h at (flag_stays is_ready ts ready t (Parked log) false h.ready at refl) size
    (λ x low.
    let s = get_or sleepers x [] in
    each x
    ∙ cond_both (names_low x log) (set s t false) s (λ (r : List Bool). r ≡ set s t false)
    (λ e. refl)
    (λ e. flag_stays (waits_low x) ts s t (Parked log) false (h.asleep x low) at e))
    (λ other e. absurd (cc))

-- a parked task comes to a lower place, at which nobody stands
pub sets_shifted : {v : ℕ} (ts : List Task) (n : ℕ) (ready : List Bool) (was between now : List (List Bool)) (from to : ℕ) (log : Known) → AreSets v (places ts n) ready was → slice_get ts from ≡ Some (Parked log) → slice_get ts to ≡ Some Running → to < from → AllKnown v log
    → length between ≡ length was → ((x : ℕ) → get_or between x [] ≡ flagged false log from x (get_or was x []))
    → length now ≡ length between → ((x : ℕ) → get_or now x [] ≡ flagged true log to x (get_or between x []))
    → AreSets v (places (set (set ts from Running) to (Parked log)) n) ready now
sets_shifted {v} ts n ready was between now from to log h at free less known size each size2 each2 =
    let left = set (places ts n) from Running in
    let a : AreSets v left ready between = sets_left (places ts n) ready was between from log h (at_place ts n from (Parked log) at) size each in
    let other : to ≢ from = λ e. omega (arith, e, less) in
    let there : slice_get left to ≡ Some Running = get_set_other (places ts n) from to Running other ∙ at_place ts n to Running free in
    let b : AreSets v (set left to (Parked log)) ready now = sets_park left ready between now to log a there size2 each2 known in
    let low : to < length (set ts from Running) = omega (arith, length-set ts from Running, slice_get_within ts to Running free) in
    subst (λ (us : List Task). AreSets v us ready now)
    (ap (λ (us : List Task). set us to (Parked log)) (places_set ts n from Running (slice_get_within ts from (Parked log) at)) ∙ places_set (set ts from Running) n to (Parked log) low) b

-- its standing is written there, beside what is kept of it
pub shown_shifted : (w from to n : ℕ) (now was : Kept) (ss : List Slot) → RowWritten w to now was → HaveRows w was ss → slice_get ss from ≡ Some (standing.Parked n) → slice_get ss to ≡ Some standing.Running → to < from → kept_log w now to n ≡ kept_log w was from n
    → shown_from w now 0 (set (set ss from standing.Running) to (standing.Parked n)) ≡ set (set (shown_from w was 0 ss) from Running) to (Parked (kept_log w was from n))
shown_shifted w from to n now was ss h rows at free less written =
    let other : to ≢ from = λ e. omega (arith, e, less) in
    let there : slice_get (set ss from standing.Running) to ≡ Some standing.Running = get_set_other ss from to standing.Running other ∙ free in
    shown_set w now (set ss from standing.Running) to (standing.Parked n)
    ∙ (ap (λ (ts : List Task). set ts to (Parked (kept_log w now to n))) (written_same w to now was (set ss from standing.Running) h (rows_awake w from was ss (standing.Parked n) standing.Running rows at (λ m e. cc)) there)
    ∙ (ap (λ (ts : List Task). set ts to (Parked (kept_log w now to n))) (shown_set w was ss from standing.Running)
    ∙ ap (λ (l : Known). set (set (shown_from w was 0 ss) from Running) to (Parked l)) written))

pub rows_shifted : (w from to n : ℕ) (now was : Kept) (ss : List Slot) → RowWritten w to now was → HaveRows w was ss → slice_get ss from ≡ Some (standing.Parked n) → slice_get ss to ≡ Some standing.Running → to < from → HaveRows w now (set (set ss from standing.Running) to (standing.Parked n))
rows_shifted w from to n now was ss h rows at free less =
    let other : to ≢ from = λ e. omega (arith, e, less) in
    let there : slice_get (set ss from standing.Running) to ≡ Some standing.Running = get_set_other ss from to standing.Running other ∙ free in
    rows_parked w to n now was (set ss from standing.Running) h (rows_awake w from was ss (standing.Parked n) standing.Running rows at (λ m e. cc)) (rows.fits from n at) there

pub few_of : (s : Inside) (v : TableView) → table_of s ≡ v → v.variables ≤ 256 → s.variables ≤ 256
few_of s v view narrow = omega (arith, narrow, ap (λ (b : TableView). b.variables) view)

pub many_of : (s : Inside) (v : TableView) → table_of s ≡ v → 256 < v.variables → 256 < s.variables
many_of s v view wide = omega (arith, wide, ap (λ (b : TableView). b.variables) view)

-- with many variables there is a log for each parked task
pub log_within : (s : Inside) (t : ℕ) (h : Waiting s t) → IsSorted s → 256 < s.variables → t < length s.logs.items
log_within s t h k wide = k.rows.logged wide t h.count h.stands

pub as_many : (n : ℕ) → n ≤ n
as_many n = omega arith

-- all but a task's log are kept, where another one is put
pub log_put : (s : Inside) (t : ℕ) (l : Known) → 256 < s.variables → t < length s.logs.items → RowWritten s.variables t (let k : Kept = record { bytes = s.names.items; logs = set s.logs.items t l } in k) (kept_of s)
log_put s t l wide low =
    log_written s.variables t _ (kept_of s) wide (as_many (length s.names.items)) (omega (arith, low, length-set s.logs.items t l)) (omega (arith, length-set s.logs.items t l)) (λ u other. get_or-set_other s.logs.items t u l [] other)

pub log_read : (logs : List Known) (t : ℕ) (l : Known) → t < length logs → l ≡ get_or logs t l → l ≡ get_or logs t []
log_read logs t l low e = sym (get_or_from_slice_get logs t l [] (slice_get_read logs (length logs) t l refl low e))

-- and a parked task waits for what its log names
pub known_log : (s : Inside) (t : ℕ) (h : Waiting s t) → IsSorted s → 256 < s.variables → AllKnown s.variables (get_or s.logs.items t [])
known_log s t h k wide =
    let l = kept_log s.variables (kept_of s) t h.count in
    known_valued s.variables (get_or s.logs.items t [])
    (subst (λ (x : Known). AllKnown s.variables x) (log_of_list s.variables (kept_of s) t h.count wide) (k.sets.known t l (at_place (tasks_of s) s.spare t (Parked l) h.shown_is)))

pub waiting_within : (s : Inside) (t : ℕ) (h : Waiting s t) → t < length (places (tasks_of s) s.spare)
waiting_within s t h =
    let l = kept_log s.variables (kept_of s) t h.count in
    slice_get_within (places (tasks_of s) s.spare) t (Parked l) (at_place (tasks_of s) s.spare t (Parked l) h.shown_is)

-- a task that is read where it stands
pub found_at : (s : Inside) (v : TableView) (t : ℕ) (read : Slot) → table_of s ≡ v → t < length v.tasks → read ≡ get_or s.standings.items t read → slice_get v.tasks t ≡ Some (shown s.variables (kept_of s) t read)
found_at s v t read view low e =
    let within : t < length s.standings.items = omega (arith, low, ap (λ (b : TableView). length b.tasks) view, length_shown s.variables (kept_of s) s.standings.items) in
    ap (λ (b : TableView). slice_get b.tasks t) (sym view) ∙ shown_at s.variables (kept_of s) s.standings.items t read (slice_get_read s.standings.items (length s.standings.items) t read refl within e)

twice : (ts : List Task) (k : ℕ) (x t : Task) → set (set ts k x) k t ≡ set ts k t
twice [] k x t = refl
twice (u ∷ ts) zero x t = refl
twice (u ∷ ts) (suc k) x t = ap (λ (r : List Task). u ∷ r) (twice ts k x t)

pub set_back : (ts : List Task) (k : ℕ) (x t : Task) → slice_get ts k ≡ Some t → set (set ts k x) k t ≡ ts
set_back ts k x t e = twice ts k x t ∙ set_same ts k t e

-- the logs, where that of one task is moved to another's place
abbrev pub moved_logs : Inside → ℕ → ℕ → Known → Known → Kept
moved_logs s from to gone log = record { bytes = s.names.items; logs = set (set s.logs.items from gone) to log }

abbrev left_log : Inside → ℕ → Known → Kept
left_log s from gone = record { bytes = s.names.items; logs = set s.logs.items from gone }

put_there : (s : Inside) (from to : ℕ) (gone log : Known) → 256 < s.variables → to < length s.logs.items → RowWritten s.variables to (moved_logs s from to gone log) (left_log s from gone)
put_there s from to gone log wide low =
    let size = length-set (set s.logs.items from gone) to log in
    log_written s.variables to (moved_logs s from to gone log) (left_log s from gone) wide (as_many (length s.names.items)) (omega (arith, low, size, length-set s.logs.items from gone)) (omega (arith, size)) (λ u other. get_or-set_other (set s.logs.items from gone) to u log [] other)

rows_left : (s : Inside) (from : ℕ) (h : Waiting s from) (gone : Known) → IsSorted s → HaveRows s.variables (left_log s from gone) (set s.standings.items from standing.Running)
rows_left s from h gone k =
    rows_kept s.variables (left_log s from gone) (kept_of s) (set s.standings.items from standing.Running) (as_many (length s.names.items)) (omega (arith, length-set s.logs.items from gone))
    (rows_awake s.variables from (kept_of s) s.standings.items (standing.Parked h.count) standing.Running k.rows h.stands (λ m e. cc))

free_there : (s : Inside) (from to : ℕ) → to < from → slice_get s.standings.items to ≡ Some standing.Running → slice_get (set s.standings.items from standing.Running) to ≡ Some standing.Running
free_there s from to less free = get_set_other s.standings.items from to standing.Running (λ e. omega (arith, e, less)) ∙ free

-- a parked task with its log in another's place
pub shown_moved : (s : Inside) (from to : ℕ) (h : Waiting s from) (gone log : Known) → IsSorted s → 256 < s.variables → slice_get s.standings.items to ≡ Some standing.Running → to < from → log ≡ get_or s.logs.items from []
    → shown_from s.variables (moved_logs s from to gone log) 0 (set (set s.standings.items from standing.Running) to (standing.Parked h.count))
    ≡ set (set (tasks_of s) from Running) to (Parked (kept_log s.variables (kept_of s) from h.count))
shown_moved s from to h gone log k wide free less same =
    let w = s.variables in
    let n = h.count in
    let there = log_within s from h k wide in
    let low : to < length (set s.logs.items from gone) = omega (arith, there, less, length-set s.logs.items from gone) in
    let told : kept_log w (moved_logs s from to gone log) to n ≡ kept_log w (kept_of s) from n =
    log_of_list w (moved_logs s from to gone log) to n wide
    ∙ (ap unvalued (get_or-set_same (set s.logs.items from gone) to log [] low ∙ same) ∙ sym (log_of_list w (kept_of s) from n wide)) in
    shown_parked w to n (moved_logs s from to gone log) (left_log s from gone) (set s.standings.items from standing.Running) (kept_log w (kept_of s) from n) (put_there s from to gone log wide (omega (arith, there, less))) (rows_left s from h gone k) (free_there s from to less free) told
    ∙ ap (λ (ts : List Task). set ts to (Parked (kept_log w (kept_of s) from n)))
    (shown_awake w from (left_log s from gone) (kept_of s) s.standings.items (standing.Parked n) standing.Running (log_put s from gone wide there) k.rows h.stands (λ m e. cc))

pub rows_moved : (s : Inside) (from to : ℕ) (h : Waiting s from) (gone log : Known) → IsSorted s → 256 < s.variables → slice_get s.standings.items to ≡ Some standing.Running → to < from
    → HaveRows s.variables (moved_logs s from to gone log) (set (set s.standings.items from standing.Running) to (standing.Parked h.count))
rows_moved s from to h gone log k wide free less =
    rows_parked s.variables to h.count (moved_logs s from to gone log) (left_log s from gone) (set s.standings.items from standing.Running) (put_there s from to gone log wide (omega (arith, log_within s from h k wide, less))) (rows_left s from h gone k) (k.rows.fits from h.count h.stands) (free_there s from to less free)
