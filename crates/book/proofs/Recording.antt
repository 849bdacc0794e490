-- Tasks that are done, and their entries; and tasks that wait.
use Rattle.std.proofs.Common.{◌≡◌, ◌≢◌, inl, inr, ℕ, ◌+◌, ◌-◌, ◌<◌, ◌≤◌, Bool, true, false, MatchBool, List, ◌++◌, length, map, Some, get_or, refl, sym, ◌∙◌, ap, subst, arith}
use Rattle.std.specs.List.{slice_get}
use Rattle.std.proofs.lemmas.Option.{same_Some, slice_get_within, slice_get_read}
use Rattle.std.proofs.lemmas.List.{set-set}
use Rattle.txn_programs.specs.declared.ast.TaskId.{TaskId}
use Rattle.txn_programs.specs.declared.report.Entry.{Entry}
use Rattle.txn_programs.specs.Meaning.{State}
use Rattle.txn_programs.specs.Replay.{opening}
use Rattle.attempt.specs.Asking.{Known}
use Rattle.book.specs.Tasks.{Task}
use Rattle.book.specs.Tasks.{Ready, Running, Parked, Done, GivenUp}
use Rattle.book.specs.declared.task.Slot.{Slot}
use Rattle.book.specs.declared.task.Slot.TheVariants as standing
use Rattle.book.specs.Standings.{shown, shown_from, Kept}
use Rattle.book.specs.Table.{TableView, IsWaiting, placed, with_tasks}
use Rattle.book.specs.BookInside.{with_values, told_of, book_of, IsKept}
use Rattle.book.specs.declared.book.Book.TheInside.{Inside}
use Rattle.book.specs.View.{BookView, stands}
use Rattle.book.specs.Recorded.{HasEntry}
use Rattle.txn_programs.specs.declared.ast.Outcome.{Outcome}
use Rattle.book.proofs.Kept.{kept_stand, view_placed}
use Rattle.book.specs.LawfulBook.{LawfulBook}
use Rattle.book.proofs.Laws.{replays_number}
use Rattle.book.proofs.Lists.{get_map, map_get, get_append, get_append_right}
use Rattle.book.proofs.Filling.{ready_without}
use Rattle.book.proofs.Rows.{at_shown}

done_standing : (w : ℕ) (names : Kept) (k : ℕ) (s : Slot) (n : ℕ) → shown w names k s ≡ Done n → s ≡ standing.Done n
done_standing w names k standing.Ready n e = absurd (cc)
done_standing w names k standing.Running n e = absurd (cc)
done_standing w names k (standing.Parked m) n e = absurd (cc)
done_standing w names k (standing.Done m) n e = cc
done_standing w names k standing.GivenUp n e = absurd (cc)

-- a done task stands so
pub stands_done : (w : ℕ) (names : Kept) (ss : List Slot) (t n : ℕ) → slice_get (shown_from w names 0 ss) t ≡ Some (Done n) → slice_get ss t ≡ Some (standing.Done n)
stands_done w names ss t n e = let g = at_shown w names ss t (Done n) e in g.1 ∙ ap Some (done_standing w names t g.0 n g.2)

valued_done : (m : State) (t : Task) (n : ℕ) → with_values m t ≡ Done n → t ≡ Done n
valued_done m Ready n e = absurd (cc)
valued_done m Running n e = absurd (cc)
valued_done m (Parked log) n e = absurd (cc)
valued_done m (Done k) n e = e
valued_done m GivenUp n e = absurd (cc)

pub done_without : (m : State) (ts : List Task) (k n : ℕ) → slice_get (map (with_values m) ts) k ≡ Some (Done n) → slice_get ts k ≡ Some (Done n)
done_without m ts k n h = let g = get_map (with_values m) ts k (Done n) h in g.1 ∙ ap Some (valued_done m g.0 n g.2)

valued_parked : (m : State) (t : Task) (log : Known) → with_values m t ≡ Parked log → (l : Known) × (t ≡ Parked l)
valued_parked m Ready log e = absurd (cc)
valued_parked m Running log e = absurd (cc)
valued_parked m (Parked l) log e = (l, refl)
valued_parked m (Done n) log e = absurd (cc)
valued_parked m GivenUp log e = absurd (cc)

-- whether a task waits does not depend on values
pub waiting_with : (m : State) (ts : List Task) (k : ℕ) → IsWaiting (slice_get ts k) → IsWaiting (slice_get (map (with_values m) ts) k)
waiting_with m ts k (inl e) = inl (map_get (with_values m) ts k Ready e)
waiting_with m ts k (inr p) = inr (told_of m p.0, map_get (with_values m) ts k (Parked p.0) p.1)

pub waiting_without : (m : State) (ts : List Task) (k : ℕ) → IsWaiting (slice_get (map (with_values m) ts) k) → IsWaiting (slice_get ts k)
waiting_without m ts k (inl e) = inl (ready_without m ts k e)
waiting_without m ts k (inr p) =
    let g = get_map (with_values m) ts k (Parked p.0) p.1 in
    let v = valued_parked m g.0 p.0 g.2 in
    inr (v.0, g.1 ∙ ap Some v.1)

pub placed_twice : (b : TableView) (task : TaskId) (x y : Task) → placed (placed b task x) task y ≡ placed b task y
placed_twice b task x y = ap (with_tasks b) (set-set b.tasks task.0 x y)

past_count : (b : BookView) (h : LawfulBook b) → b.base.number ≡ length h.past
past_count b h = omega (arith, replays_number b.catalogue (opening b.catalogue) b.base h.past h.reached)

-- whoever has an entry in the journal is done with its number
pub entry_done : (b : BookView) → LawfulBook b → (place : ℕ) (e : Entry) → slice_get b.journal place ≡ Some e → slice_get b.tasks e.task.0 ≡ Some (Done (b.base.number + place + 1))
entry_done b h place e at =
    let all = h.past ++ b.journal in
    let there : slice_get all (length h.past + place) ≡ Some e = get_append_right h.past b.journal place ∙ at in
    let d = h.done.of_entry (length h.past + place) e.task.0 (map_get (λ (x : Entry). x.task.0) all (length h.past + place) e there) in
    let n : length h.past + place + 1 ≡ b.base.number + place + 1 = omega (arith, past_count b h) in
    d ∙ ap (λ (k : ℕ). Some (Done k)) n

-- the entry of a done task, where it is still in the journal
pub record Found (b : BookView) (t n : ℕ) : Type 0 where
  pub entry : Entry
  pub stands : slice_get b.journal (n - b.base.number - 1) ≡ Some entry
  pub of : entry.task.0 ≡ t

pub done_entry : (b : BookView) → LawfulBook b → (t n : ℕ) → slice_get b.tasks t ≡ Some (Done n) → b.base.number < n → Found b t n
done_entry b h t n at past =
    let d = h.done.of_task t n at in
    let g = get_map (λ (x : Entry). x.task.0) (h.past ++ b.journal) d.0 t d.2 in
    elim (get_append h.past b.journal d.0 g.0 g.1) [
      | inl old ↦ absurd (omega (arith, slice_get_within h.past d.0 g.0 old, past_count b h, d.1, past))
      | inr new ↦
          let place : new.0 ≡ n - b.base.number - 1 = omega (arith, new.1, past_count b h, d.1, past) in
          record { entry = g.0; stands = ap (slice_get b.journal) (sym place) ∙ new.2; of = g.2 }
    ]

-- a task that is not done, or was done before the base, has no entry in the journal
pub no_entry : (b : Inside) (v : BookView) (task : TaskId) → book_of b ≡ v → LawfulBook (book_of b) → ((n : ℕ) → slice_get b.table.tasks task.0 ≡ Some (Done n) → n ≤ b.base.number) → (place : ℕ) (e : Entry) → slice_get v.journal place ≡ Some e → e.task.0 ≢ task.0
no_entry b v task view h old place e at same =
    let d = entry_done (book_of b) h place e (ap (λ (x : BookView). slice_get x.journal place) view ∙ at) in
    let there = done_without b.present.values.items b.table.tasks e.task.0 (b.base.number + place + 1) d in
    omega (arith, old (b.base.number + place + 1) (ap (slice_get b.table.tasks) (sym same) ∙ there))

-- what is read of the journal is the task's entry
module _ (b : Inside) (v : BookView) (task : TaskId) (n : ℕ) (view : book_of b ≡ v) (h : LawfulBook (book_of b)) (done : slice_get b.table.tasks task.0 ≡ Some (Done n)) (past : b.base.number < n) where
  found : Found (book_of b) task.0 n
  found = done_entry (book_of b) h task.0 n (map_get (with_values b.present.values.items) b.table.tasks task.0 (Done n) done) past

  pub entry_within : n - b.base.number - 1 < length b.journal.items
  entry_within = slice_get_within b.journal.items (n - b.base.number - 1) found.entry found.stands

  pub entry_read : (e : Entry) (o : Outcome) → e ≡ get_or b.journal.items (n - b.base.number - 1) e → e.outcome ≡ o → HasEntry v task o
  entry_read e o read is =
      let at : slice_get b.journal.items (n - b.base.number - 1) ≡ Some e = slice_get_read b.journal.items (length b.journal.items) (n - b.base.number - 1) e refl entry_within read in
      let same : found.entry ≡ e = same_Some _ _ (sym found.stands ∙ at) in
      record {
        place = n - b.base.number - 1;
        entry = e;
        stands = ap (λ (x : BookView). slice_get x.journal (n - b.base.number - 1)) (sym view) ∙ at;
        of = ap (λ (x : Entry). x.task.0) (sym same) ∙ found.of;
        outcome_is = is;
      }

-- a ready or a parked task is given up
pub kept_withdrawn : (b : Inside) (table : TableView) (task : TaskId) (r : Bool) → IsKept b → MatchBool r (IsWaiting (slice_get b.table.tasks task.0) × (table ≡ placed b.table task GivenUp)) ((IsWaiting (slice_get b.table.tasks task.0) → ⊥) × (table ≡ b.table)) → IsKept (record b { table = table })
kept_withdrawn b table task true k h =
    elim h.0 [
      | inl e ↦ kept_stand b table task Ready GivenUp k h.1 e (λ n x. cc) (λ n x. cc) (λ log x. cc) refl
      | inr p ↦ kept_stand b table task (Parked p.0) GivenUp k h.1 p.1 (λ n x. cc) (λ n x. cc) (λ log x. cc) refl
    ]
kept_withdrawn b table task false k h = subst (λ (x : TableView). IsKept (record b { table = x })) (sym h.1) k

pub withdrawn_view : (b : Inside) (v : BookView) (table : TableView) (task : TaskId) (r : Bool) → book_of b ≡ v → MatchBool r (IsWaiting (slice_get b.table.tasks task.0) × (table ≡ placed b.table task GivenUp)) ((IsWaiting (slice_get b.table.tasks task.0) → ⊥) × (table ≡ b.table))
    → MatchBool r (IsWaiting (slice_get v.tasks task.0) × (book_of (record b { table = table }) ≡ stands v task GivenUp)) ((IsWaiting (slice_get v.tasks task.0) → ⊥) × (book_of (record b { table = table }) ≡ v))
withdrawn_view b v table task true view h = (
  subst (λ (x : BookView). IsWaiting (slice_get x.tasks task.0)) view (waiting_with b.present.values.items b.table.tasks task.0 h.0),
  ap (λ (x : TableView). book_of (record b { table = x })) h.1 ∙ (view_placed b task GivenUp ∙ ap (λ (x : BookView). stands x task GivenUp) view),
)
withdrawn_view b v table task false view h = (
  λ w. h.0 (waiting_without b.present.values.items b.table.tasks task.0 (subst (λ (x : BookView). IsWaiting (slice_get x.tasks task.0)) (sym view) w)),
  ap (λ (x : TableView). book_of (record b { table = x })) h.1 ∙ view,
)
