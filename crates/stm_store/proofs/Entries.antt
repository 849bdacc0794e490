-- What is told of a task that is entered is its entry's.
use Rattle.std.proofs.Common.{◌≡◌, ◌≢◌, ◌⊎◌, inl, inr, ◌∙◌, ℕ, zero, suc, ◌+◌, List, [], ◌∷◌, ◌++◌, Some, length, refl, sym, ap, subst}
use Rattle.std.specs.List.{slice_get}
use Rattle.std.proofs.lemmas.Option.{same_Some}
use Rattle.txn_programs.specs.declared.ast.TaskId.{TaskId}
use Rattle.txn_programs.specs.declared.ast.Outcome.{Outcome}
use Rattle.txn_programs.specs.declared.ast.Outcome.TheVariants.{Retries}
use Rattle.txn_programs.specs.declared.report.Entry.{Entry}
use Rattle.txn_programs.specs.Meaning.{outcome}
use Rattle.txn_programs.specs.Listing.{Listing, task_program}
use Rattle.txn_programs.specs.Replay.{Snapshot, Replays, applied}
use Rattle.attempt.specs.declared.next.Stand.TheVariants.{Over}
use Rattle.book.specs.Tasks.{Running, Done}
use Rattle.book.specs.declared.task.Serial.TheVariants as serial
use Rattle.book.specs.View.{BookView, IsRunning, committed, entry_of}
use Rattle.book.specs.Turns.{kept_short}
use Rattle.book.specs.Recorded.{HasEntry}
use Rattle.book.specs.LawfulBook.{LawfulBook}
use Rattle.book.proofs.Recording.{entry_done}
use Rattle.stm_store.specs.Entering.{IsEntered, Enters}
use Rattle.stm_store.specs.declared.answers.Entered.{Entered}

pub get_append_at : {A : Type 0} (xs : List A) (y : A) → slice_get (xs ++ y ∷ []) (length xs) ≡ Some y
get_append_at [] y = refl
get_append_at (x ∷ xs) y = get_append_at xs y

get_append_last : {A : Type 0} (xs : List A) (y : A) (k : ℕ) (x : A) → slice_get (xs ++ y ∷ []) k ≡ Some x → (slice_get xs k ≡ Some x) ⊎ (y ≡ x)
get_append_last [] y zero x h = inr cc
get_append_last [] y (suc k) x h = absurd (cc)
get_append_last (z ∷ xs) y zero x h = inl h
get_append_last (z ∷ xs) y (suc k) x h = get_append_last xs y k x h

committed_journal : (b : BookView) (task : TaskId) → (committed b task).journal ≡ b.journal ++ entry_of b task ∷ []
unfolding committed
committed_journal b task = refl

-- a task that commits has an entry
pub entered_new : (old new : BookView) (task : TaskId) → new ≡ committed old task → IsEntered new task
entered_new old new task is =
    let entry = entry_of old task in
    let journal : new.journal ≡ old.journal ++ entry ∷ [] = ap (λ (b : BookView). b.journal) is ∙ committed_journal old task in (
      entry.outcome,
      record {
        place = length old.journal;
        entry = entry;
        stands = ap (λ (es : List Entry). slice_get es (length old.journal)) journal ∙ get_append_at old.journal entry;
        of = refl;
        outcome_is = refl;
      },
    )

-- what the journal then records of it is that entry's outcome
recorded_is : (old new : BookView) (task : TaskId) (o : Outcome) → IsRunning old task → LawfulBook old → new ≡ committed old task → HasEntry new task o → o ≡ (entry_of old task).outcome
recorded_is old new task o runs lawful is e =
    let entry = entry_of old task in
    let journal : new.journal ≡ old.journal ++ entry ∷ [] = ap (λ (b : BookView). b.journal) is ∙ committed_journal old task in
    elim (get_append_last old.journal entry e.place e.entry (ap (λ (es : List Entry). slice_get es e.place) (sym journal) ∙ e.stands)) [
      | inl before ↦
          let d = entry_done old lawful e.place e.entry before in
          let bad : Running ≡ Done (old.base.number + e.place + 1) = same_Some _ _ (sym runs ∙ (ap (slice_get old.tasks) (sym e.of) ∙ d)) in
          absurd (cc)
      | inr now ↦ sym e.outcome_is ∙ ap (λ (x : Entry). x.outcome) (sym now)
    ]

-- the last entry of a journal is no retry
last_ends : (l : Listing) (a b : Snapshot) (es : List Entry) (e : Entry) → Replays l a (es ++ e ∷ []) b → e.outcome ≢ Retries
last_ends l a b [] e r = r.0.ends
last_ends l a b (x ∷ es) e r = last_ends l (applied l x a) b es e r.1

committed_ends : (b : BookView) (task : TaskId) → LawfulBook (committed b task) → outcome (task_program b.catalogue task) b.present.state ≢ Retries
unfolding committed
committed_ends b task lawful = last_ends b.catalogue b.base (committed b task).present b.journal (entry_of b task) lawful.replays

-- the book of a task that committed, and what was told of it
pub enters_told : (every : ℕ) (old b new : BookView) (task : TaskId) (n : ℕ) (e : Entered) → IsRunning old task → n ≡ old.present.number + 1 → b ≡ committed old task → e.number ≡ n → e.outcome ≡ (entry_of old task).outcome → LawfulBook old → LawfulBook b → new ≡ kept_short every (serial.Committed n) b → Enters every old task e new
enters_told every old b new task n e runs number is told same lawful lawful_b short =
    let lawful_after : LawfulBook (committed old task) = subst LawfulBook is lawful_b in
    record {
      running = runs;
      ends = committed_ends old task lawful_after;
      tells = record { number = told ∙ number; outcome = same };
      kept = short ∙ ap (kept_short every (serial.Committed n)) is;
      lawful = lawful;
      lawful_after = lawful_after;
    }

-- the book of a task that committed, and what the journal records of it
pub enters : (every : ℕ) (old b new : BookView) (task : TaskId) (n : ℕ) (e : Entered) → IsRunning old task → n ≡ old.present.number + 1 → b ≡ committed old task → e.number ≡ n → HasEntry b task e.outcome → LawfulBook old → LawfulBook b → new ≡ kept_short every (serial.Committed n) b → Enters every old task e new
enters every old b new task n e runs number is told entry lawful lawful_b short =
    enters_told every old b new task n e runs number is told (recorded_is old b task e.outcome runs lawful is entry) lawful lawful_b short

-- an attempt ends in one way
pub same_end : (o p : Outcome) → Over o ≡ Over p → o ≡ p
same_end o p e = cc
