use Rattle.std.proofs.Common.{◌≡◌, ◌+◌, ℕ, refl, ◌∙◌, arith, ap, true, length}
use Rattle.std.proofs.lemmas.List.{length-replicate}
use Rattle.std.proofs.lemmas.Option.{slice_get-get_or}
use Rattle.txn_programs.specs.Listing.{Listing, values, tasks, task_tx, task_arguments}
use Rattle.txn_programs.specs.Names.{names_hold}
use Rattle.txn_programs.proofs.Lawful.{known_task}
use Rattle.attempt.proofs.Calls.{call_known}
use Rattle.book.specs.Tasks.{Ready}
use Rattle.book.specs.BookInside.{snapshot_of}
use Rattle.book.specs.declared.book.Book.TheInside.{Inside}
use Rattle.book.proofs.Kept.{IsNew, opening_is, kept_opened, new_is, AllKnow}
use Rattle.book.proofs.book.Book.of_parts.Goals as goal
use Rattle.book.proofs.book.Book.of_parts.Goals.{After-len}

all_know : (l : Listing) → values l ≡ length l.initial → names_hold l ≡ true → AllKnow l
all_know l valued names t less =
    call_known l (task_tx l (record { 0 = t })) (task_arguments l (record { 0 = t })) names valued (known_task l t (task_tx l (record { 0 = t })) names (slice_get-get_or (tasks l) t (record { 0 = 0 }) less))

abbrev inside : (c : After-len) → Inside
inside c =
    record {
      chapter = c.args.chapter;
      cells = c.args.cells;
      publisher = c.args.publisher;
      base = c.args.base;
      journal = c.args.journal;
      present = c.args.present;
      since = c.args.since;
      written = c.args.written;
      table = c.args.table;
      room = c.len.result + c.args.spare;
      spare = c.args.spare;
      before = 0;
    }

size : (c : After-len) → c.len.result ≡ length (tasks c.args.chapter.listing)
size c = c.len.ensures ∙ (ap length c.requires.tasks ∙ length-replicate (length (tasks c.args.chapter.listing)) Ready)

is : (c : After-len) → IsNew c.args.chapter.listing (inside c)
is c =
    let l = c.args.chapter.listing in
    let r = c.requires in
    record {
      own = r.own;
      unused = r.unused;
      base = opening_is l (snapshot_of c.args.base) r.base.number r.base.values r.base.versions;
      present = opening_is l (snapshot_of c.args.present) r.present.number r.present.values r.present.versions;
      journal = r.journal;
      listing = refl;
      room = ap (λ (k : ℕ). k + c.args.spare) (size c);
      tasks = r.tasks;
      before = refl;
    }

pub invariant_of-result : goal.invariant_of-result
invariant_of-result c =
    let l = c.args.chapter.listing in
    let r = c.requires in
    let k = size c in
    kept_opened l (inside c) (is c) r.few r.few_values (all_know l c.rules.ensures.valued c.rules.ensures.names) c.rules.ensures.upheld (omega (arith, r.journal_room, k)) (omega (arith, r.room, k)) r.spare r.variables r.since

pub returns : goal.returns
returns c = new_is c.args.chapter.listing (inside c) (is c)
