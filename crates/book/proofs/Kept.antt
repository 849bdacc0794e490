-- What the fields keep through a change of one task, at a checkpoint, and at the opening.
use Rattle.std.proofs.Common.{◌≡◌, Vec, Global, ◌+◌, ◌-◌, ◌++◌, length-append, ℕ, zero, suc, replicate, ◌<◌, ◌≤◌, List, [], ◌∷◌, length, map, Option, Some, None, set, refl, sym, ◌∙◌, ap, subst, arith, vec_capacity}
use Rattle.std.specs.List.{slice_get, All}
use Rattle.std.proofs.lemmas.List.{length-set, length-map, length-replicate}
use Rattle.std.proofs.lemmas.List.Elements.{All-nil, All-replicate}
use Rattle.txn_programs.specs.declared.ast.TaskId.{TaskId}
use Rattle.txn_programs.specs.declared.report.Entry.{Entry}
use Rattle.txn_programs.specs.declared.limits.TheConstants.{MAX_TASKS, MAX_VALUES}
use Rattle.txn_programs.specs.Meaning.{State}
use Rattle.txn_programs.specs.Scope.{ProgramKnown}
use Rattle.txn_programs.specs.Listing.{Listing, tasks, task_program, call_program}
use Rattle.txn_programs.specs.Standing.{Upholds}
use Rattle.txn_programs.specs.Replay.{Snapshot, opening}
use Rattle.book.specs.Tasks.{Task}
use Rattle.book.specs.Tasks.{Ready, Running, Parked}
use Rattle.book.specs.declared.book.Book.TheInside.{Inside}
use Rattle.cells.specs.Cells.{CellsId}
use Rattle.attempt.specs.Frame.{Agrees}
use Rattle.book.specs.View.{BookView, stands, opened, checkpointed}
use Rattle.book.specs.Turns.{readied_one, readied, Taken, TakenFrom}
use Rattle.book.specs.Table.{TableView, IsTaken, IsTakenFrom, placed, with_tasks, with_one_more, unvalued}
use Rattle.book.specs.LawfulBook.{LawfulBook, BookFits, Waits, open_one, open_count}
use Rattle.book.specs.BookInside.{book_of, tasks_of, snapshot_of, with_values, IsKept}
use Rattle.book.proofs.Lists.{map_set, map_get}
use Rattle.book.proofs.Filling.{told_again, ready_without, running_with, all_readied, all_ready, one_more_ready}
use Rattle.attempt.specs.Asking.{Known}
use Rattle.book.specs.declared.stored.Stored.{Stored}
use Rattle.book.specs.declared.since.Since.{Since}
use Rattle.book.specs.Changed.{Follows, AreAlike}
use Rattle.txn_programs.specs.declared.arguments.Call.{Call}
use Rattle.txn.specs.Grown.{grown}
use Rattle.book.specs.Submitted.{submitted}
use Rattle.book.specs.Chapters.{ChapterView}
use Rattle.book.proofs.Submitting.{lawful_submitted, fits_submitted}
use Rattle.book.proofs.Laws.{NotDone, NotParked, open_count-set, lawful_opened, stands_lawful, parks_lawful, checkpoint_lawful}
use Rattle.book.proofs.Readying.{readied_lawful, readied_fits}

-- one task stands otherwise, and is as open as before
pub fits_stand : (b : BookView) (task : TaskId) (was is : Task) → BookFits b → slice_get b.tasks task.0 ≡ Some was → open_one was ≡ open_one is → BookFits (stands b task is)
fits_stand b task was is h at same =
    let size : length (set b.tasks task.0 is) ≡ length b.tasks = length-set b.tasks task.0 is in
    record {
      tasks = size ∙ h.tasks;
      few = omega (arith, h.few, size);
      values = h.values;
      versions = h.versions;
      base_values = h.base_values;
      base_versions = h.base_versions;
      recent = h.recent;
      base_recent = h.base_recent;
      few_values = h.few_values;
      known = h.known;
      programs = λ t l. h.programs t (omega (arith, l, size));
      counted = omega (arith, h.counted, size, same, open_count-set b.tasks task.0 was is at);
    }

open_count-ready : (n : ℕ) → open_count (replicate n Ready) ≡ n
open_count-ready zero = refl
open_count-ready (suc n) = omega (arith, open_count-ready n)

-- each task's program names only variables of the listing
abbrev pub AllKnow : Listing → Type 0
AllKnow l = (t : ℕ) → t < length (tasks l) → ProgramKnown (length l.initial) (task_program l (record { 0 = t }))

fits_opened : (l : Listing) (cells : CellsId) (spare : ℕ) → length (tasks l) ≤ MAX_TASKS → length l.initial ≤ MAX_VALUES → AllKnow l → BookFits (opened l cells spare)
fits_opened l cells spare few few_values known =
    let size : length (replicate (length (tasks l)) Ready) ≡ length (tasks l) = length-replicate (length (tasks l)) Ready in
    let zeros : length (replicate (length l.initial) 0) ≡ length l.initial = length-replicate {A = ℕ} (length l.initial) 0 in
    let none : All (λ (v : ℕ). v ≤ 0) (replicate (length l.initial) 0) = All-replicate (λ (v : ℕ). v ≤ 0) (length l.initial) 0 (omega arith) in
    record {
      tasks = size;
      few = omega (arith, few, size);
      values = refl;
      versions = zeros;
      base_values = refl;
      base_versions = zeros;
      recent = none;
      base_recent = none;
      few_values = few_values;
      known = All-nil (λ (e : Entry). e.tx.0 < length l.transactions);
      programs = λ t less. known t (omega (arith, less, size));
      counted = omega (arith, open_count-ready (length (tasks l)), size);
    }

pub opening_is : (l : Listing) (s : Snapshot) → s.number ≡ 0 → s.state ≡ l.initial → s.versions ≡ replicate (length l.initial) 0 → s ≡ opening l
opening_is l s a b c =
    ap (λ (n : ℕ). let r : Snapshot = record { number = n; state = s.state; versions = s.versions } in r) a
    ∙ (ap (λ (m : State). let r : Snapshot = record { number = 0; state = m; versions = s.versions } in r) b
    ∙ ap (λ (v : List ℕ). let r : Snapshot = record { number = 0; state = l.initial; versions = v } in r) c)

-- the base becomes the present
pub fits_checkpoint : (b : BookView) → BookFits b → BookFits (checkpointed b)
fits_checkpoint b h =
    record {
      tasks = h.tasks;
      few = h.few;
      few_values = h.few_values;
      values = h.values;
      versions = h.versions;
      base_values = h.values;
      base_versions = h.versions;
      recent = h.recent;
      base_recent = h.recent;
      known = All-nil (λ (e : Entry). e.tx.0 < length b.catalogue.transactions);
      programs = h.programs;
      counted = h.counted;
    }

-- what the fields of a new book of this listing are
pub record IsNew (l : Listing) (b : Inside) : Type 0 where
  pub own : b.publisher.cells ≡ b.cells
  pub unused : b.publisher.history ≡ l.initial ∷ []
  pub base : snapshot_of b.base ≡ opening l
  pub present : snapshot_of b.present ≡ opening l
  pub journal : b.journal.items ≡ []
  pub listing : b.chapter.listing ≡ l
  pub room : b.room ≡ length (tasks l) + b.spare
  pub tasks : b.table.tasks ≡ replicate (length (tasks l)) Ready
  pub before : b.before ≡ 0

-- one task of the table stands otherwise, and so does that of the book
pub view_placed : (b : Inside) (task : TaskId) (is : Task) → book_of (record b { table = placed b.table task is }) ≡ stands (book_of b) task (with_values b.present.values.items is)
view_placed b task is =
    let v = book_of b in
    ap (λ (ts : List Task). let r : BookView = record v { tasks = ts } in r) (map_set (with_values b.present.values.items) b.table.tasks task.0 is)

pub new_is : (l : Listing) (b : Inside) → IsNew l b → book_of b ≡ opened l b.cells b.spare
new_is l b n =
    let made : Listing → CellsId → List State → Snapshot → List Entry → Snapshot → List Task → BookView = λ m c h x j y t. record { catalogue = m; cells = b.cells; published_to = c; history = h; base = x; journal = j; present = y; tasks = t; spare = b.spare; room = b.room; before = b.before } in
    let ended : ℕ → ℕ → BookView = λ r k. record (made l b.cells (l.initial ∷ []) (opening l) [] (opening l) (replicate (length (tasks l)) Ready)) { room = r; before = k } in
    ap (λ (m : Listing). made m b.publisher.cells b.publisher.history (snapshot_of b.base) b.journal.items (snapshot_of b.present) (tasks_of b)) n.listing
    ∙ (ap (λ (c : CellsId). made l c b.publisher.history (snapshot_of b.base) b.journal.items (snapshot_of b.present) (tasks_of b)) n.own
    ∙ (ap (λ (h : List State). made l b.cells h (snapshot_of b.base) b.journal.items (snapshot_of b.present) (tasks_of b)) n.unused
    ∙ (ap (λ (x : Snapshot). made l b.cells (l.initial ∷ []) x b.journal.items (snapshot_of b.present) (tasks_of b)) n.base
    ∙ (ap (λ (j : List Entry). made l b.cells (l.initial ∷ []) (opening l) j (snapshot_of b.present) (tasks_of b)) n.journal
    ∙ (ap (λ (y : Snapshot). made l b.cells (l.initial ∷ []) (opening l) [] y (tasks_of b)) n.present
    ∙ (ap (λ (t : List Task). made l b.cells (l.initial ∷ []) (opening l) [] (opening l) t) (ap (map (with_values b.present.values.items)) n.tasks ∙ all_ready b.present.values.items (length (tasks l)))
    ∙ (ap (λ (r : ℕ). ended r b.before) n.room ∙ ap (ended (length (tasks l) + b.spare)) n.before)))))))

pub kept_opened : (l : Listing) (b : Inside) → IsNew l b → length (tasks l) + b.spare ≤ MAX_TASKS → length l.initial ≤ MAX_VALUES → AllKnow l → Upholds l l.initial → b.room ≤ vec_capacity b.journal → b.room ≤ b.chapter.room → b.table.spare ≡ b.spare → b.table.variables ≡ length l.initial → Follows b.base b.present b.since → IsKept b
kept_opened l b n few few_values known stands room submit_room spare variables since =
    let is = new_is l b n in
    let size : length b.table.tasks ≡ length (tasks l) = ap length n.tasks ∙ length-replicate (length (tasks l)) Ready in
    record {
      lawful = subst LawfulBook (sym is) (lawful_opened l b.cells b.spare stands);
      fits = subst BookFits (sym is) (fits_opened l b.cells b.spare (omega (arith, few)) few_values known);
      room = room;
      submit_room = submit_room;
      whole = omega (arith, size, spare, n.room);
      spared = omega (arith, spare);
      few = omega (arith, few, n.room);
      clock = omega (arith, few, size, n.before);
      variables = omega (arith, variables, ap (λ (m : Listing). length m.initial) n.listing);
      since = since;
    }

-- one task stands otherwise; it was not done and is neither done nor parked
pub kept_stand : (b : Inside) (table : TableView) (task : TaskId) (was is : Task) → IsKept b → table ≡ placed b.table task is → slice_get b.table.tasks task.0 ≡ Some was → NotDone (with_values b.present.values.items was) → NotDone (with_values b.present.values.items is) → NotParked (with_values b.present.values.items is)
    → open_one (with_values b.present.values.items was) ≡ open_one (with_values b.present.values.items is) → IsKept (record b { table = table })
kept_stand b table task was is k e at was_open is_open is_awake same =
    let v = book_of b in
    let m = b.present.values.items in
    let there = map_get (with_values m) b.table.tasks task.0 was at in
    let view = view_placed b task is in
    subst (λ (x : TableView). IsKept (record b { table = x })) (sym e)
    (record {
      lawful = subst LawfulBook (sym view) (stands_lawful v task (with_values m was) (with_values m is) k.lawful there was_open is_open is_awake);
      fits = subst BookFits (sym view) (fits_stand v task (with_values m was) (with_values m is) k.fits there same);
      room = k.room;
      submit_room = k.submit_room;
      whole = omega (arith, k.whole, length-set b.table.tasks task.0 is);
      spared = k.spared;
      few = k.few;
      clock = omega (arith, k.clock, length-set b.table.tasks task.0 is);
      variables = k.variables;
      since = k.since;
    })

-- the lowest ready task is taken, if there is one
pub kept_taken : (b : Inside) (table : TableView) (o : Option TaskId) → IsKept b → IsTaken b.table o table → IsKept (record b { table = table })
kept_taken b table None k h = subst (λ (x : TableView). IsKept (record b { table = x })) (sym h.1) k
kept_taken b table (Some task) k h = kept_stand b table task Ready Running k h.2 h.0 (λ n e. cc) (λ n e. cc) (λ log e. cc) refl

pub taken_view : (b : Inside) (table : TableView) (o : Option TaskId) → IsTaken b.table o table → Taken (book_of b) o (book_of (record b { table = table }))
taken_view b table None h =
    (λ n e. h.0 n (ready_without b.present.values.items b.table.tasks n e), ap (λ (x : TableView). book_of (record b { table = x })) h.1)
taken_view b table (Some task) h = (
  map_get (with_values b.present.values.items) b.table.tasks task.0 Ready h.0,
  λ n less e. h.1 n less (ready_without b.present.values.items b.table.tasks n e),
  ap (λ (x : TableView). book_of (record b { table = x })) h.2 ∙ view_placed b task Running,
)

-- the same of a first ready task from a number on
pub kept_taken_from : (b : Inside) (table : TableView) (number : ℕ) (o : Option TaskId) → IsKept b → IsTakenFrom number b.table o table → IsKept (record b { table = table })
kept_taken_from b table number None k h = subst (λ (x : TableView). IsKept (record b { table = x })) (sym h.1) k
kept_taken_from b table number (Some task) k h = kept_stand b table task Ready Running k h.1 h.0.here (λ n e. cc) (λ n e. cc) (λ log e. cc) refl

pub taken_from_view : (b : Inside) (table : TableView) (number : ℕ) (o : Option TaskId) → IsTakenFrom number b.table o table → TakenFrom number (book_of b) o (book_of (record b { table = table }))
taken_from_view b table number None h =
    (λ n e. h.0 n (ready_without b.present.values.items b.table.tasks n e), ap (λ (x : TableView). book_of (record b { table = x })) h.1)
taken_from_view b table number (Some task) h = (
  record {
    here = map_get (with_values b.present.values.items) b.table.tasks task.0 Ready h.0.here;
    behind = λ at n from less e. h.0.behind at n from less (ready_without b.present.values.items b.table.tasks n e);
    round = λ less n o e. h.0.round less n o (ready_without b.present.values.items b.table.tasks n e);
  },
  ap (λ (x : TableView). book_of (record b { table = x })) h.1 ∙ view_placed b task Running,
)

-- a parked task's log is told by the present values
pub view_parked : (b : Inside) (task : TaskId) (log : Known) → Agrees log b.present.values.items → book_of (record b { table = placed b.table task (Parked (unvalued log)) }) ≡ stands (book_of b) task (Parked log)
view_parked b task log agrees =
    view_placed b task (Parked (unvalued log)) ∙ ap (λ (l : Known). stands (book_of b) task (Parked l)) (told_again b.present.values.items log agrees)

-- a running task waits
pub kept_park : (b : Inside) (table : TableView) (task : TaskId) (log : Known) → IsKept b → table ≡ placed b.table task (Parked (unvalued log)) → slice_get b.table.tasks task.0 ≡ Some Running → Waits b.chapter.listing b.present.values.items task log → IsKept (record b { table = table })
kept_park b table task log k e at waits =
    let v = book_of b in
    let m = b.present.values.items in
    let there = running_with m b.table.tasks task.0 at in
    let view = view_parked b task log waits.agrees in
    subst (λ (x : TableView). IsKept (record b { table = x })) (sym e)
    (record {
      lawful = subst LawfulBook (sym view) (parks_lawful v task log k.lawful there waits);
      fits = subst BookFits (sym view) (fits_stand v task Running (Parked log) k.fits there refl);
      room = k.room;
      submit_room = k.submit_room;
      whole = omega (arith, k.whole, length-set b.table.tasks task.0 (Parked (unvalued log)));
      spared = k.spared;
      few = k.few;
      clock = omega (arith, k.clock, length-set b.table.tasks task.0 (Parked (unvalued log)));
      variables = k.variables;
      since = k.since;
    })

pub view_readied : (b : Inside) → book_of (record b { table = with_tasks b.table (map readied_one b.table.tasks) }) ≡ readied (book_of b)
view_readied b =
    let v = book_of b in
    ap (λ (ts : List Task). let r : BookView = record v { tasks = ts } in r) (all_readied b.present.values.items b.table.tasks)

-- each running task is ready
pub kept_readied : (b : Inside) (table : TableView) → IsKept b → table ≡ with_tasks b.table (map readied_one b.table.tasks) → IsKept (record b { table = table })
kept_readied b table k e =
    let v = book_of b in
    let view = view_readied b in
    subst (λ (x : TableView). IsKept (record b { table = x })) (sym e)
    (record {
      lawful = subst LawfulBook (sym view) (readied_lawful v k.lawful);
      fits = subst BookFits (sym view) (readied_fits v k.fits);
      room = k.room;
      submit_room = k.submit_room;
      whole = omega (arith, k.whole, length-map b.table.tasks readied_one);
      spared = k.spared;
      few = k.few;
      clock = omega (arith, k.clock, length-map b.table.tasks readied_one);
      variables = k.variables;
      since = k.since;
    })

-- the base becomes the present
pub kept_checkpoint : (b : Inside) (base : Stored) (since : Since) (journal : Vec Entry Global) → IsKept b → Follows base b.present since → snapshot_of base ≡ snapshot_of b.present → journal.items ≡ [] → vec_capacity b.journal ≤ vec_capacity journal → IsKept (record b { base = base; since = since; journal = journal })
kept_checkpoint b base since journal k follows e none capacity =
    let v = book_of b in
    let made : Snapshot → List Entry → BookView = λ x j. record v { base = x; journal = j } in
    let view : made (snapshot_of base) journal.items ≡ checkpointed v = ap (λ (x : Snapshot). made x journal.items) e ∙ ap (λ (j : List Entry). made (snapshot_of b.present) j) none in
    record {
      lawful = subst LawfulBook (sym view) (checkpoint_lawful v k.lawful);
      fits = subst BookFits (sym view) (fits_checkpoint v k.fits);
      room = omega (arith, k.room, capacity);
      submit_room = k.submit_room;
      whole = k.whole;
      spared = k.spared;
      few = k.few;
      clock = k.clock;
      variables = k.variables;
      since = follows;
    }

-- as many values and versions in the base as in the present
pub alike : (b : Inside) → IsKept b → AreAlike b.base b.present
alike b k =
    record {
      values = k.fits.base_values ∙ sym k.fits.values;
      base_versions = k.fits.base_versions ∙ sym k.fits.values;
      versions = k.fits.versions ∙ sym k.fits.values;
    }

pub same_parts : (base present : Stored) → base.number ≡ present.number → base.values.items ≡ present.values.items → base.versions.items ≡ present.versions.items → snapshot_of base ≡ snapshot_of present
same_parts base present a b c =
    ap (λ (n : ℕ). let r : Snapshot = record { number = n; state = base.values.items; versions = base.versions.items } in r) a
    ∙ (ap (λ (m : State). let r : Snapshot = record { number = present.number; state = m; versions = base.versions.items } in r) b
    ∙ ap (λ (v : List ℕ). let r : Snapshot = record { number = present.number; state = present.values.items; versions = v } in r) c)

-- a task is submitted
pub view_submitted : (b : Inside) (chapter : ChapterView) (table : TableView) (c : Call) → table ≡ with_one_more b.table → chapter.listing ≡ grown b.chapter.listing (c ∷ []) → book_of (record b { chapter = chapter; table = table; spare = b.spare - 1 }) ≡ submitted (book_of b) c
view_submitted b chapter table c e more =
    let v = book_of b in
    let m = b.present.values.items in
    let made : Listing → List Task → BookView = λ l ts. record v { catalogue = l; tasks = ts; spare = b.spare - 1 } in
    ap (λ (x : TableView). made chapter.listing (map (with_values m) x.tasks)) e
    ∙ (ap (λ (l : Listing). made l (map (with_values m) (b.table.tasks ++ Ready ∷ []))) more
    ∙ ap (made (grown b.chapter.listing (c ∷ []))) (one_more_ready m b.table.tasks))

pub kept_submitted : (b : Inside) (chapter : ChapterView) (table : TableView) (c : Call) → IsKept b → table ≡ with_one_more b.table → 0 < b.spare → chapter.listing ≡ grown b.chapter.listing (c ∷ []) → chapter.room ≡ b.chapter.room → ProgramKnown (length b.chapter.listing.initial) (call_program b.chapter.listing c.tx c.arguments) → IsKept (record b { chapter = chapter; table = table; spare = b.spare - 1 })
kept_submitted b chapter table c k e spare more same program =
    let v = book_of b in
    let view = view_submitted b chapter table c e more in
    let size : length table.tasks ≡ length b.table.tasks + 1 = ap (λ (x : TableView). length x.tasks) e ∙ length-append b.table.tasks (Ready ∷ []) in
    let left : table.spare ≡ b.table.spare - 1 = ap (λ (x : TableView). x.spare) e in
    let wide = ap (λ (l : Listing). length l.initial) more in
    record {
      lawful = subst LawfulBook (sym view) (lawful_submitted v c k.lawful k.fits.tasks);
      fits = subst BookFits (sym view) (fits_submitted v c k.fits (omega (arith, k.whole, k.spared, k.few, spare, length-map b.table.tasks (with_values b.present.values.items))) program);
      room = k.room;
      submit_room = omega (arith, k.submit_room, same);
      whole = omega (arith, k.whole, size, left, k.spared, spare);
      spared = omega (arith, k.spared, left);
      few = k.few;
      clock = omega (arith, k.clock, size, spare);
      variables = omega (arith, ap (λ (x : TableView). x.variables) e, k.variables, wide);
      since = k.since;
    }
