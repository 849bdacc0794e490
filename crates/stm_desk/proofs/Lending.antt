-- What is handed out by one turn and by several.
use Rattle.std.proofs.Common.{◌≡◌, ◌≢◌, ◌∙◌, inl, inr, ℕ, zero, suc, ◌+◌, Bool, List, [], ◌∷◌, ◌++◌, Option, Some, Ok, length, set, refl, sym, ap, subst}
use Rattle.std.specs.List.{slice_get}
use Rattle.std.proofs.lemmas.List.{append-nil, append_assoc}
use Rattle.txn_programs.specs.declared.ast.TaskId.{TaskId}
use Rattle.txn_programs.specs.Listing.{task_program}
use Rattle.txn_programs.specs.Meaning.{after}
use Rattle.book.specs.Tasks.{Task, Done, GivenUp, Parked, Ready, Running}
use Rattle.book.specs.Turns.{is_due}
use Rattle.book.specs.View.{BookView, committed, woken}
use Rattle.book.specs.declared.task.Serial.TheVariants as serial
use Rattle.book.proofs.Draining.{taken_running}
use Rattle.stm_store.specs.Asking.{IsPresentJob, TakesJob}
use Rattle.stm_store.specs.Keeping.{KeepsTasks}
use Rattle.stm_store.specs.declared.answers.End.{End}
use Rattle.stm_store.specs.declared.answers.End.TheVariants as end
use Rattle.stm_store.specs.declared.job.Job.{Job}
use Rattle.stm_store.specs.declared.store.Store.{Store}
use Rattle.stm_desk.specs.declared.work.Work.{Work}
use Rattle.stm_desk.specs.Running.{HandsNothingOut, HandsOut, HasJob, IsLong, LendsOut, RunsAt}
use Rattle.stm_desk.proofs.Becoming.{Goes, goes_running, present_on, short_tasks}
use Rattle.stm_desk.proofs.Calling.{map_get}
use Rattle.stm_desk.proofs.Flags.{AsEnds, get_append_left, get_set_other}
use Rattle.stm_desk.proofs.Handing.{get_both, get_right}
use Rattle.stm_desk.proofs.Settling.{take_runs}

none_there : (P : Type 0) (k : ℕ) (j : Job) → slice_get [] k ≡ Some j → P
none_there P k j e = absurd (cc e)

-- where no task stands otherwise than before
pub lends_nothing : (old new : Work) → new.due.items ≡ old.due.items → new.store.book ≡ old.store.book → LendsOut old new
lends_nothing old new due book =
    record {
      hands_out = record {
        more = [];
        due = due ∙ sym (append-nil old.due.items);
        each = λ k r. inl (subst (λ (b : BookView). slice_get b.tasks k ≡ Some Running) book r);
        long = λ k j e. none_there (IsLong old.long.items j.tx) k j e;
        running = λ k j e. none_there (IsPresentJob new.store j × RunsAt new.store j.task.0) k j e;
        once = λ i j a b p q same. none_there (i ≡ j) i a p;
      };
      runs_on = λ k r. subst (λ (b : BookView). slice_get b.tasks k ≡ Some Running) (sym book) r;
      fresh = λ k j e r. none_there ⊥ k j e;
    }

-- where none runs that did not, and nothing is handed out
pub nothing_handed : (old new : Work) → HandsNothingOut old new → HandsOut old new
nothing_handed old new h =
    record {
      more = [];
      due = h.due ∙ sym (append-nil old.due.items);
      each = λ k r. inl (h.runs k r);
      long = λ k j e. none_there (IsLong old.long.items j.tx) k j e;
      running = λ k j e. none_there (IsPresentJob new.store j × RunsAt new.store j.task.0) k j e;
      once = λ i j a b p q same. none_there (i ≡ j) i a p;
    }

in_first : (s : Store) (xs ys : List Job) (k : ℕ) → HasJob s xs k → HasJob s (xs ++ ys) k
in_first s xs ys k h = record { place = h.place; job = h.job; at_place = get_append_left xs ys h.place h.job h.at_place; of = h.of; present = h.present }

in_second : (s : Store) (xs ys : List Job) (k : ℕ) → HasJob s ys k → HasJob s (xs ++ ys) k
in_second s xs ys k h = record { place = length xs + h.place; job = h.job; at_place = get_right xs ys h.place h.job h.at_place; of = h.of; present = h.present }

on_kept : (s t : Store) (xs : List Job) (k : ℕ) → KeepsTasks s t → HasJob s xs k → HasJob t xs k
on_kept s t xs k kept h = record { place = h.place; job = h.job; at_place = h.at_place; of = h.of; present = present_on s t h.job kept h.present }

-- over several
hands_both_out : (a b c : Work) → KeepsTasks b.store c.store → b.long.items ≡ a.long.items → LendsOut a b → LendsOut b c → HandsOut a c
hands_both_out a b c kept same lent then =
    let p = lent.hands_out in
    let q = then.hands_out in
    record {
      more = p.more ++ q.more;
      due = q.due ∙ (ap (λ (js : List Job). js ++ q.more) p.due ∙ append_assoc a.due.items p.more q.more);
      each = λ k r. elim (q.each k r) [
        | inl was ↦ elim (p.each k was) [
          | inl before ↦ inl before
          | inr has ↦ inr (in_first c.store p.more q.more k (on_kept b.store c.store p.more k kept has))
        ]
        | inr has ↦ inr (in_second c.store p.more q.more k has)
      ];
      long = λ k j e. elim (get_both p.more q.more k j e) [
        | inl first ↦ p.long k j first
        | inr second ↦ subst (λ (xs : List Bool). IsLong xs j.tx) same (q.long second.0 j second.2)
      ];
      running = λ k j e. elim (get_both p.more q.more k j e) [
        | inl first ↦ (present_on b.store c.store j kept (p.running k j first).0, then.runs_on j.task.0 (p.running k j first).1)
        | inr second ↦ q.running second.0 j second.2
      ];
      once = λ i j x y at_i at_j one. elim (get_both p.more q.more i x at_i) [
        | inl first ↦ elim (get_both p.more q.more j y at_j) [
          | inl other ↦ p.once i j x y first other one
          | inr other ↦ absurd (then.fresh other.0 y other.2 (subst (λ (n : ℕ). RunsAt b.store n) one (p.running i x first).1))
        ]
        | inr second ↦ elim (get_both p.more q.more j y at_j) [
          | inl other ↦ absurd (then.fresh second.0 x second.2 (subst (λ (n : ℕ). RunsAt b.store n) (sym one) (p.running j y other).1))
          | inr other ↦ second.1 ∙ (ap (λ (n : ℕ). length p.more + n) (q.once second.0 other.0 x y second.2 other.2 one) ∙ sym other.1)
        ]
      ];
    }

pub lends_both : (a b c : Work) → KeepsTasks b.store c.store → b.long.items ≡ a.long.items → LendsOut a b → LendsOut b c → LendsOut a c
unfolding hands_both_out
lends_both a b c kept same p q =
    record {
      hands_out = hands_both_out a b c kept same p q;
      runs_on = λ k r. q.runs_on k (p.runs_on k r);
      fresh = λ k j e r. elim (get_both p.hands_out.more q.hands_out.more k j e) [
        | inl first ↦ p.fresh k j first r
        | inr second ↦ q.fresh second.0 j second.2 (p.runs_on j.task.0 r)
      ];
    }

-- a task that was taken was ready, and runs; what ran runs on
was_ready : (old mid : Store) (job : Job) → TakesJob old (Ok job) mid → RunsAt old job.task.0 → ⊥
was_ready old mid job taken r = differ (slice_get old.book.tasks job.task.0) taken.0.0 r
  where
    differ : (o : Option Task) → o ≡ Some Ready → o ≡ Some Running → ⊥
    differ o p q = absurd (cc (p, q))

take_runs_on : (old mid : Store) (job : Job) (k : ℕ) → TakesJob old (Ok job) mid → RunsAt old k → RunsAt mid k
take_runs_on old mid job k taken r =
    let apart : k ≢ job.task.0 = λ same. was_ready old mid job taken (subst (λ (n : ℕ). RunsAt old n) same r) in
    subst (λ (b : BookView). slice_get b.tasks k ≡ Some Running) (sym taken.0.2) (get_set_other old.book.tasks job.task.0 k Running apart ∙ r)

only_one : (j i : Job) (k : ℕ) → slice_get (j ∷ []) k ≡ Some i → j ≡ i
only_one j i zero e = cc
only_one j i (suc k) e = absurd (cc)

only_place : (j i : Job) (k : ℕ) → slice_get (j ∷ []) k ≡ Some i → k ≡ 0
only_place j i zero e = refl
only_place j i (suc k) e = absurd (cc)

-- it is handed out, where somebody waits for it
pub take_lends : (old new : Work) (job : Job) → KeepsTasks old.store new.store → TakesJob old.store (Ok job) new.store → new.due.items ≡ old.due.items ++ job ∷ [] → IsLong old.long.items job.tx → LendsOut old new
take_lends old new job kept taken due long =
    let present = present_on old.store new.store job kept taken.1 in
    record {
      hands_out = record {
        more = job ∷ [];
        due = due;
        each = λ k r. elim (take_runs old.store new.store job k taken r) [
          | inl was ↦ inl was
          | inr same ↦ inr (record { place = 0; job = job; at_place = refl; of = sym same; present = present })
        ];
        long = λ k j e. subst (λ (i : Job). IsLong old.long.items i.tx) (only_one job j k e) long;
        running = λ k j e. subst (λ (i : Job). IsPresentJob new.store i × RunsAt new.store i.task.0) (only_one job j k e) (present, taken_running old.store.book new.store.book job.task taken.0);
        once = λ i j x y at_i at_j one. only_place job x i at_i ∙ sym (only_place job y j at_j);
      };
      runs_on = λ k r. take_runs_on old.store new.store job k taken r;
      fresh = λ k j e r. was_ready old.store new.store job taken (subst (λ (i : Job). RunsAt old.store i.task.0) (sym (only_one job j k e)) r);
    }

-- what ran besides a task that had its turn runs on
committed_on : (b : BookView) (task : TaskId) (k : ℕ) → k ≢ task.0 → slice_get b.tasks k ≡ Some Running → slice_get (committed b task).tasks k ≡ Some Running
unfolding committed
committed_on b task k apart r =
    map_get (woken b.present.state (after (task_program b.catalogue task) b.present.state)) (set b.tasks task.0 (Done (b.present.number + 1))) k Running
    (get_set_other b.tasks task.0 k (Done (b.present.number + 1)) apart ∙ r)

ends_on : (every : ℕ) (b new : BookView) (task : TaskId) (how : End) (k : ℕ) → AsEnds every b task how new → k ≢ task.0 → slice_get b.tasks k ≡ Some Running → slice_get new.tasks k ≡ Some Running
ends_on every b new task (end.Entered e) k h apart r =
    ap (λ (ts : List Task). slice_get ts k) (ap (λ (x : BookView). x.tasks) h.kept ∙ short_tasks (is_due every (serial.Committed e.number) (committed b task)) (committed b task)) ∙ committed_on b task k apart r
ends_on every b new task end.Parked k h apart r =
    ap (λ (x : BookView). slice_get x.tasks k) h.1 ∙ (get_set_other b.tasks task.0 k (Parked h.0) apart ∙ r)
ends_on every b new task end.Abandoned k h apart r =
    ap (λ (x : BookView). slice_get x.tasks k) h ∙ (get_set_other b.tasks task.0 k GivenUp apart ∙ r)

-- the lowest ready task had its turn
pub turned_lends : (old new : Work) (mid : Store) (job : Job) (how : End) → new.due.items ≡ old.due.items → TakesJob old.store (Ok job) mid → Goes mid new.store job how → LendsOut old new
turned_lends old new mid job how due taken g =
    record {
      hands_out = record {
        more = [];
        due = due ∙ sym (append-nil old.due.items);
        each = λ k r.
            let was = goes_running mid new.store job how k g r in
            elim (take_runs old.store mid job k taken was.0) [
              | inl before ↦ inl before
              | inr same ↦ absurd (was.1 same)
            ];
        long = λ k j e. none_there (IsLong old.long.items j.tx) k j e;
        running = λ k j e. none_there (IsPresentJob new.store j × RunsAt new.store j.task.0) k j e;
        once = λ i j a b p q same. none_there (i ≡ j) i a p;
      };
      runs_on = λ k r.
          let apart : k ≢ job.task.0 = λ same. was_ready old.store mid job taken (subst (λ (n : ℕ). RunsAt old.store n) same r) in
          ends_on mid.every mid.book new.store.book job.task how k g.ends apart (take_runs_on old.store mid job k taken r);
      fresh = λ k j e r. none_there ⊥ k j e;
    }
