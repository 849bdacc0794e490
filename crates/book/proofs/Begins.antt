-- A chapter begins: what the fields of a book say and keep then.
use Rattle.std.proofs.Common.{◌≡◌, Vec, Global, ℕ, ◌+◌, ◌-◌, ◌≤◌, List, [], length, map, sym, ◌∙◌, ap, subst, arith, vec_capacity}
use Rattle.std.specs.Prelude.{min}
use Rattle.std.proofs.lemmas.List.{length-map}
use Rattle.txn_programs.specs.declared.report.Entry.{Entry}
use Rattle.txn_programs.specs.Meaning.{State}
use Rattle.txn_programs.specs.Listing.{Listing}
use Rattle.txn_programs.specs.Replay.{Snapshot, opening}
use Rattle.book.specs.Tasks.{Task}
use Rattle.book.specs.declared.stored.Stored.{Stored}
use Rattle.book.specs.declared.since.Since.{Since}
use Rattle.book.specs.Changed.{Follows, IsAnew}
use Rattle.book.specs.declared.book.Book.TheInside.{Inside}
use Rattle.book.specs.Table.{TableView}
use Rattle.book.specs.View.{BookView}
use Rattle.book.specs.LawfulBook.{LawfulBook, BookFits}
use Rattle.book.specs.BookInside.{book_of, snapshot_of, with_values, IsKept}
use Rattle.book.specs.Carrying.{carried, carried_on}
use Rattle.book.specs.Chapters.{ChapterView, chapter_of, next_catalogue, entered_in_all, most_entries}
use Rattle.book.proofs.Kept.{opening_is}
use Rattle.book.proofs.Beginning.{chapter_lawful, chapter_fits, carried_valued, carried_open, carried_shorter}

-- the parts of a new chapter
pub record Begins (b : Inside) (chapter : ChapterView) (table : TableView) (base present : Stored) (since : Since) (journal : Vec Entry Global) (before spare : ℕ) : Type 0 where
  pub listing : chapter.listing ≡ next_catalogue (book_of b)
  pub room : chapter.room ≡ b.chapter.room
  pub carried_is : table ≡ carried_on b.table
  pub base_is : IsAnew base b.present
  pub present_is : IsAnew present b.present
  pub follows : Follows base present since
  pub journal_is : journal.items ≡ []
  pub capacity : vec_capacity b.journal ≤ vec_capacity journal
  pub before_is : before ≡ b.before + b.present.number
  pub spare_is : spare ≡ min b.room (most_entries - (b.before + b.present.number)) - length (carried b.table.tasks)

same_carried : (m : State) (ts : List Task) → length (carried (map (with_values m) ts)) ≡ length (carried ts)
same_carried m ts = ap length (sym (carried_valued m ts)) ∙ length-map (carried ts) (with_values m)

pub begins_view : (b : Inside) (chapter : ChapterView) (table : TableView) (base present : Stored) (since : Since) (journal : Vec Entry Global) (before spare : ℕ) → Begins b chapter table base present since journal before spare
    → book_of (record b { chapter = chapter; table = table; base = base; present = present; since = since; journal = journal; before = before; spare = spare }) ≡ chapter_of (book_of b)
begins_view b chapter table base present since journal before spare h =
    let v = book_of b in
    let m = b.present.values.items in
    let l = next_catalogue v in
    let made : Listing → Snapshot → List Entry → Snapshot → List Task → ℕ → ℕ → BookView = λ c x j y ts k n. record v { catalogue = c; base = x; journal = j; present = y; tasks = ts; before = k; spare = n } in
    let ts = map (with_values present.values.items) table.tasks in
    let us = carried (map (with_values m) b.table.tasks) in
    let told : ts ≡ us = ap (λ (s : State). map (with_values s) table.tasks) h.present_is.values ∙ (ap (λ (x : TableView). map (with_values m) x.tasks) h.carried_is ∙ carried_valued m b.table.tasks) in
    let left : spare ≡ min b.room (most_entries - entered_in_all v) - length us = h.spare_is ∙ ap (λ (n : ℕ). min b.room (most_entries - entered_in_all v) - n) (sym (same_carried m b.table.tasks)) in
    ap (λ (c : Listing). made c (snapshot_of base) journal.items (snapshot_of present) ts before spare) h.listing
    ∙ (ap (λ (x : Snapshot). made l x journal.items (snapshot_of present) ts before spare) (opening_is l (snapshot_of base) h.base_is.number h.base_is.values h.base_is.versions)
    ∙ (ap (λ (j : List Entry). made l (opening l) j (snapshot_of present) ts before spare) h.journal_is
    ∙ (ap (λ (y : Snapshot). made l (opening l) [] y ts before spare) (opening_is l (snapshot_of present) h.present_is.number h.present_is.values h.present_is.versions)
    ∙ (ap (λ (xs : List Task). made l (opening l) [] (opening l) xs before spare) told
    ∙ (ap (λ (k : ℕ). made l (opening l) [] (opening l) us k spare) h.before_is ∙ ap (made l (opening l) [] (opening l) us (entered_in_all v)) left)))))

-- each task that comes over has a number of the clock
pub over_counted : (b : Inside) → IsKept b → (b.before + b.present.number) + length (carried b.table.tasks) ≤ b.before + length b.table.tasks
over_counted b k =
    let m = b.present.values.items in
    omega (arith, k.fits.counted, carried_open (map (with_values m) b.table.tasks), same_carried m b.table.tasks, length-map b.table.tasks (with_values m))

pub kept_begins : (b : Inside) (chapter : ChapterView) (table : TableView) (base present : Stored) (since : Since) (journal : Vec Entry Global) (before spare : ℕ) → Begins b chapter table base present since journal before spare
    → IsKept b → IsKept (record b { chapter = chapter; table = table; base = base; present = present; since = since; journal = journal; before = before; spare = spare })
kept_begins b chapter table base present since journal before spare h k =
    let v = book_of b in
    let view = begins_view b chapter table base present since journal before spare h in
    let ts = b.table.tasks in
    let size : length table.tasks ≡ length (carried ts) = ap (λ (x : TableView). length x.tasks) h.carried_is in
    let left : table.spare ≡ b.table.spare + (length ts - length (carried ts)) = ap (λ (x : TableView). x.spare) h.carried_is in
    let wide : length chapter.listing.initial ≡ length b.chapter.listing.initial = ap (λ (l : Listing). length l.initial) h.listing ∙ k.fits.values in
    let shorter = carried_shorter ts in
    let counted = over_counted b k in
    record {
      lawful = subst LawfulBook (sym view) (chapter_lawful v k.lawful k.fits);
      fits = subst BookFits (sym view) (chapter_fits v k.lawful k.fits);
      room = omega (arith, k.room, h.capacity);
      submit_room = omega (arith, k.submit_room, h.room);
      whole = omega (arith, size, left, k.whole, shorter);
      spared = omega (arith, h.spare_is, size, left, k.whole, shorter);
      few = k.few;
      clock = omega (arith, h.before_is, h.spare_is, size, counted, k.clock);
      variables = ap (λ (x : TableView). x.variables) h.carried_is ∙ (k.variables ∙ sym wide);
      since = h.follows;
    }

-- what came over fits
pub over_fits : (b : Inside) → IsKept b → length (carried b.table.tasks) ≤ min b.room (most_entries - (b.before + b.present.number))
over_fits b k = omega (arith, over_counted b k, k.clock, k.whole, carried_shorter b.table.tasks)
