-- A book in which a run in place was undone.
use Rattle.std.proofs.Common.{◌≡◌, ◌≢◌, ◌∙◌, ◌+◌, ℕ, List, Result, Ok, Err, IfOk, OnErr, map, ap, sym, subst}
use Rattle.txn_programs.specs.declared.ast.TaskId.{TaskId}
use Rattle.txn_programs.specs.declared.ast.Outcome.{Outcome}
use Rattle.txn_programs.specs.declared.ast.Outcome.TheVariants.{Retries}
use Rattle.txn_programs.specs.Meaning.{State}
use Rattle.attempt.specs.Asking.{Known}
use Rattle.book.specs.declared.book.Book.TheInside.{Inside}
use Rattle.book.specs.declared.stored.Stored.{Stored}
use Rattle.book.specs.declared.task.NotPlain.{NotPlain}
use Rattle.book.specs.declared.written.Written.{Written}
use Rattle.book.specs.BookInside.{book_of, with_values, IsKept}
use Rattle.book.specs.Changed.{AreListed}
use Rattle.book.specs.Chapters.{ChapterView}
use Rattle.book.specs.LawfulBook.{LawfulBook, BookFits}
use Rattle.book.specs.Turns.{CommitsAs, TaskEndsPlainly}
use Rattle.book.specs.View.{BookView, IsRunning, committed}
use Rattle.book.proofs.Draining.{committed_catalogue}

-- the book with this present
abbrev pub view_at : Inside → ℕ → State → List ℕ → BookView
view_at b n m vs = record (book_of b) { present = record { number = n; state = m; versions = vs }; tasks = map (with_values m) b.table.tasks }

-- what was undone in place, and what was written down of it, is not seen
module _ (b : Inside) (k : ChapterView) (p : Stored) (w : Written) (chapter : k ≡ b.chapter) (number : p.number ≡ b.present.number) (values : p.values.items ≡ b.present.values.items) (versions : p.versions.items ≡ b.present.versions.items) where
  at_values : view_at b p.number p.values.items p.versions.items ≡ book_of b
  at_values =
      ap (λ (n : ℕ). view_at b n p.values.items p.versions.items) number
      ∙ (ap (λ (m : State). view_at b b.present.number m p.versions.items) values
      ∙ ap (λ (vs : List ℕ). view_at b b.present.number b.present.values.items vs) versions)

  pub same_view : book_of (record b { chapter = k; present = p; written = w }) ≡ book_of b
  same_view = ap (λ (x : ChapterView). book_of (record b { chapter = x; present = p; written = w })) chapter ∙ at_values

  at_chapter : IsKept b → IsKept (record b { present = p; written = w })
  at_chapter h =
      record {
        lawful = subst LawfulBook (sym at_values) h.lawful;
        fits = subst BookFits (sym at_values) h.fits;
        room = h.room;
        submit_room = h.submit_room;
        whole = h.whole;
        spared = h.spared;
        few = h.few;
        clock = h.clock;
        variables = h.variables;
        since = λ listed.
            subst (λ (m : State). AreListed b.base m p.versions.items b.since) (sym values)
            (subst (λ (vs : List ℕ). AreListed b.base b.present.values.items vs b.since) (sym versions) (h.since listed));
      }

  pub same_kept : IsKept b → IsKept (record b { chapter = k; present = p; written = w })
  same_kept h = subst (λ (x : ChapterView). IsKept (record b { chapter = x; present = p; written = w })) (sym chapter) (at_chapter h)

-- seen from outside
pub ends_here : (b : Inside) (v : BookView) (task : TaskId) (how : Outcome) (w : Known) → book_of b ≡ v → TaskEndsPlainly (book_of b) task how w → TaskEndsPlainly v task how w
ends_here b v task how w view h = subst (λ (x : BookView). TaskEndsPlainly x task how w) view h

-- a commit of what was written, behind which the room is kept
pub commits_as : (old b c new : BookView) (task : TaskId) (how : Outcome) (w : Known) (n : ℕ) → IsRunning old task → b ≡ old → TaskEndsPlainly old task how w → how ≢ Retries → n ≡ b.present.number + 1 → c ≡ committed b task → new ≡ c → CommitsAs old task how n new
commits_as old b c new task how w n runs same h ends number is kept =
    record {
      served = (
        runs,
        (λ e. ends (h.outcome_is ∙ e)),
        number ∙ ap (λ (x : BookView). x.present.number + 1) same,
        kept ∙ (is ∙ ap (λ (x : BookView). committed x task) same),
      );
      outcome_is = h.outcome_is;
    }

-- neither a commit nor no turn changes the catalogue
pub turned_catalogue : (old new : BookView) (task : TaskId) (r : Result (Outcome × ℕ) NotPlain) → IfOk r (λ p. CommitsAs old task p.0 p.1 new) → OnErr r (new ≡ old) → new.catalogue ≡ old.catalogue
turned_catalogue old new task (Ok p) h g = ap (λ (b : BookView). b.catalogue) h.served.3 ∙ committed_catalogue old task
turned_catalogue old new task (Err why) h g = ap (λ (b : BookView). b.catalogue) g
