-- The tasks that are left are put by, one after another.
use Rattle.std.proofs.Common.{◌≡◌, ◌≢◌, ◌⊎◌, ℕ, zero, suc, ◌+◌, ◌<◌, List, [], ◌∷◌, length, map, set, Some, refl, sym, ◌∙◌, ap, subst, inl, inr, ⊎_elim, arith, true, false, Bool}
use Rattle.std.specs.Prelude.{All, MatchBool, slice_get}
use Rattle.std.proofs.lemmas.List.{length-set}
use Rattle.std.proofs.lemmas.List.Elements.{All-nil, All-cons}
use Rattle.std.proofs.lemmas.Option.{same_Some, slice_get_within}
use Rattle.std.proofs.lemmas.Bool.{cases_eq}
use Rattle.txn_programs.specs.declared.ast.TxId.{TxId}
use Rattle.txn_programs.specs.declared.ast.TaskId.{TaskId}
use Rattle.txn_programs.specs.declared.ast.Outcome.TheVariants.{Retries}
use Rattle.txn_programs.specs.Listing.{Listing, task_tx, task_program, program_as}
use Rattle.txn_programs.specs.Meaning.{outcome}
use Rattle.attempt.specs.Asking.{Known}
use Rattle.book.specs.Tasks.{Task, Ready, Running, Parked, Done, GivenUp}
use Rattle.book.specs.View.{BookView, stands}
use Rattle.book.specs.Turns.{is_given_up, listed}
use Rattle.txn_programs.specs.Replay.{Snapshot}
use Rattle.txn_programs.specs.Told.{Told, now_of}
use Rattle.txn_programs.specs.LawfulReport.{LawfulReport}
use Rattle.book.specs.Turns.{IsIdle, ReportIs}
use Rattle.book.specs.LawfulBook.{LawfulBook, BookFits}
use Rattle.book.specs.Recorded.{told_as}
use Rattle.book.specs.declared.standing.Standing.TheVariants as standing
use Rattle.book.proofs.Accounts.{report_lawful}
use Rattle.explore_law.specs.declared.instance.InstanceId.{InstanceId}
use Rattle.explore_law.specs.Instances.{instance_at}
use Rattle.explore_runner.specs.Giving.{HasGiven, entered_by}
use Rattle.explore_runner.specs.Stopping.{StopsAfter}
use Rattle.explore_runner.specs.PuttingBy.{Stays, IsBy, WouldTurn, PutsBy, ArePutBy}

abbrev number : ℕ → TaskId
number n = record { 0 = n }

stays_same : (b : BookView) → Stays b b
stays_same b = record { catalogue = refl; base = refl; journal = refl; present = refl; count = refl }

stays_on : (a b c : BookView) → Stays a b → Stays b c → Stays a c
stays_on a b c g h =
    record {
      catalogue = h.catalogue ∙ g.catalogue;
      base = h.base ∙ g.base;
      journal = h.journal ∙ g.journal;
      present = h.present ∙ g.present;
      count = h.count ∙ g.count;
    }

-- what is so of two books that differ in their tasks alone
would_still : (a b : BookView) (t : ℕ) → Stays a b → WouldTurn b t → WouldTurn a t
would_still a b t h would retries =
    would (ap (λ (l : Listing). outcome (task_program l (number t)) b.present.state) h.catalogue ∙ (ap (λ s. outcome (task_program a.catalogue (number t)) s.state) h.present ∙ retries))

pub put_none : (b : BookView) → ArePutBy b 0 b
put_none b = record { stays = stays_same b; by = λ t low. absurd (omega (arith, low)); given_up = λ t e. inl e }

pub put_more : (old b c : BookView) (n : ℕ) (task : TaskId) → task.0 ≡ n → ArePutBy old n b → PutsBy b task c → ArePutBy old (n + 1) c
put_more old b c n task is h p =
    record {
      stays = stays_on old b c h.stays p.stays;
      by = λ t low.
          ⊎_elim (λ (same : t ≡ task.0). subst (IsBy c) (sym same) p.by)
          (λ (apart : t ≡ task.0 → ⊥).
          let before = h.by t (omega (arith, low, is, apart)) in
          let there = p.others t apart in
          (λ e. before.0 (sym there ∙ e), λ e. before.1 (sym there ∙ e)))
          (cases_eq t task.0);
      given_up = λ t e.
          ⊎_elim
          (λ (same : t ≡ task.0).
          let G : ℕ → Type 0 = λ u. (slice_get old.tasks u ≡ Some GivenUp) ⊎ WouldTurn old u in
          subst G (sym same)
          (⊎_elim (λ (g : slice_get b.tasks task.0 ≡ Some GivenUp). h.given_up task.0 g) (λ (w : WouldTurn b task.0). inr (would_still old b task.0 h.stays w))
          (p.given_up (ap (slice_get c.tasks) (sym same) ∙ e))))
          (λ (apart : t ≡ task.0 → ⊥). h.given_up t (sym (p.others t apart) ∙ e))
          (cases_eq t task.0);
    }

get_set_same : {X : Type 0} (xs : List X) (i : ℕ) (v : X) → i < length xs → slice_get (set xs i v) i ≡ Some v
get_set_same [] i v low = absurd (omega (arith, low))
get_set_same (x ∷ xs) zero v low = refl
get_set_same (x ∷ xs) (suc i) v low = get_set_same xs i v (omega (arith, low))

get_set_other : {X : Type 0} (xs : List X) (i k : ℕ) (v : X) → (k ≡ i → ⊥) → slice_get (set xs i v) k ≡ slice_get xs k
get_set_other [] i k v h = refl
get_set_other (x ∷ xs) zero zero v h = absurd (h refl)
get_set_other (x ∷ xs) zero (suc k) v h = refl
get_set_other (x ∷ xs) (suc i) zero v h = refl
get_set_other (x ∷ xs) (suc i) (suc k) v h = get_set_other xs i k v (λ e. h (ap suc e))

stays_standing : (b : BookView) (task : TaskId) (how : Task) → Stays b (stands b task how)
stays_standing b task how = record { catalogue = refl; base = refl; journal = refl; present = refl; count = length-set b.tasks task.0 how }

-- the task is no longer ready, and no other changed
pub record IsClaimed (old : BookView) (task : TaskId) (b : BookView) : Type 0 where
  pub stays : Stays old b
  pub others : (t : ℕ) → t ≢ task.0 → slice_get b.tasks t ≡ slice_get old.tasks t
  pub ready : slice_get b.tasks task.0 ≢ Some Ready
  pub given_up : slice_get b.tasks task.0 ≡ Some GivenUp → slice_get old.tasks task.0 ≡ Some GivenUp

pub claimed : (old b : BookView) (task : TaskId) (r : Bool) → task.0 < length old.tasks
    → MatchBool r ((slice_get old.tasks task.0 ≡ Some Ready) × (b ≡ stands old task Running)) ((slice_get old.tasks task.0 ≡ Some Ready → ⊥) × (b ≡ old)) → IsClaimed old task b
claimed old b task true low h =
    subst (IsClaimed old task) (sym h.1)
    (record {
      stays = stays_standing old task Running;
      others = λ t apart. get_set_other old.tasks task.0 t Running apart;
      ready = λ e. let bad : Running ≡ Ready = same_Some Running Ready (sym (get_set_same old.tasks task.0 Running low) ∙ e) in cc;
      given_up = λ e. absurd (let bad : Running ≡ GivenUp = same_Some Running GivenUp (sym (get_set_same old.tasks task.0 Running low) ∙ e) in cc);
    })
claimed old b task false low h =
    subst (IsClaimed old task) (sym h.1) (record { stays = stays_same old; others = λ t apart. refl; ready = h.0; given_up = λ e. e })

-- it was no longer running
pub put_before : (old b : BookView) (task : TaskId) → IsClaimed old task b → slice_get b.tasks task.0 ≢ Some Running → PutsBy old task b
put_before old b task h idle = record { stays = h.stays; others = h.others; by = (h.ready, idle); given_up = λ e. inl (h.given_up e) }

-- it is put by once it is claimed
pub put_then : (old b c : BookView) (task : TaskId) → IsClaimed old task b → PutsBy b task c → PutsBy old task c
put_then old b c task h p =
    record {
      stays = stays_on old b c h.stays p.stays;
      others = λ t apart. p.others t apart ∙ h.others t apart;
      by = p.by;
      given_up = λ e. ⊎_elim (λ (g : slice_get b.tasks task.0 ≡ Some GivenUp). inl (h.given_up g)) (λ (w : WouldTurn b task.0). inr (would_still old b task.0 h.stays w)) (p.given_up e);
    }

-- it stands otherwise
put_standing : (b c : BookView) (task : TaskId) (how : Task) → task.0 < length b.tasks → c ≡ stands b task how → (how ≡ Ready → ⊥) → (how ≡ Running → ⊥)
    → (how ≡ GivenUp → WouldTurn b task.0) → PutsBy b task c
put_standing b c task how low is ready running given =
    subst (PutsBy b task) (sym is)
    (record {
      stays = stays_standing b task how;
      others = λ t apart. get_set_other b.tasks task.0 t how apart;
      by = (λ e. ready (same_Some how Ready (sym (get_set_same b.tasks task.0 how low) ∙ e)), λ e. running (same_Some how Running (sym (get_set_same b.tasks task.0 how low) ∙ e)));
      given_up = λ e. inr (given (same_Some how GivenUp (sym (get_set_same b.tasks task.0 how low) ∙ e)));
    })

pub put_parked : (b c : BookView) (task : TaskId) (log : Known) → task.0 < length b.tasks → c ≡ stands b task (Parked log) → PutsBy b task c
put_parked b c task log low is = put_standing b c task (Parked log) low is (λ e. cc) (λ e. cc) (λ e. absurd (cc))

pub put_given_up : (b c : BookView) (task : TaskId) → task.0 < length b.tasks → c ≡ stands b task GivenUp → WouldTurn b task.0 → PutsBy b task c
put_given_up b c task low is would = put_standing b c task GivenUp low is (λ e. cc) (λ e. cc) (λ e. would)

-- so of each task that is listed as given up
abbrev So : Listing → (TaskId × TxId → Type 0) → ℕ → Type 0
So l P m = P (number m, task_tx l (number m))

behind : (l : Listing) (n : ℕ) (ts : List Task) (t : Task) (P : TaskId × TxId → Type 0) → ((k : ℕ) → slice_get (t ∷ ts) k ≡ Some GivenUp → So l P (n + k)) → (k : ℕ) → slice_get ts k ≡ Some GivenUp → So l P ((n + 1) + k)
behind l n ts t P h k e =
    let same : n + suc k ≡ (n + 1) + k = omega arith in
    subst (So l P) same (h (suc k) e)

pub given_up_listed : (l : Listing) (n : ℕ) (ts : List Task) (P : TaskId × TxId → Type 0) → ((k : ℕ) → slice_get ts k ≡ Some GivenUp → So l P (n + k)) → All P (listed is_given_up l n ts)
given_up_listed l n [] P h = All-nil P
given_up_listed l n (Ready ∷ ts) P h = given_up_listed l (n + 1) ts P (behind l n ts Ready P h)
given_up_listed l n (Running ∷ ts) P h = given_up_listed l (n + 1) ts P (behind l n ts Running P h)
given_up_listed l n (Parked log ∷ ts) P h = given_up_listed l (n + 1) ts P (behind l n ts (Parked log) P h)
given_up_listed l n (Done m ∷ ts) P h = given_up_listed l (n + 1) ts P (behind l n ts (Done m) P h)
given_up_listed l n (GivenUp ∷ ts) P h =
    let same : n + 0 ≡ n = omega arith in
    All-cons P (number n, task_tx l (number n)) (listed is_given_up l (n + 1) ts) (subst (So l P) same (h 0 refl))
    (given_up_listed l (n + 1) ts P (behind l n ts GivenUp P h))

-- a task that is told to be running is
pub told_running : (ts : List Task) (k : ℕ) → slice_get (map told_as ts) k ≡ Some standing.Running → slice_get ts k ≡ Some Running
told_running [] k e = absurd (cc)
told_running (t ∷ ts) (suc k) e = told_running ts k e
told_running (t ∷ ts) zero e = ap Some (by t (same_Some (told_as t) standing.Running e))
  where
    by : (t : Task) → told_as t ≡ standing.Running → t ≡ Running
    by Ready e = absurd (cc)
    by Running e = refl
    by (Parked log) e = absurd (cc)
    by (Done n) e = absurd (cc)
    by GivenUp e = absurd (cc)

-- one that ran is given up
pub gave_up : (b c : BookView) (task : TaskId) (r : Bool) → slice_get b.tasks task.0 ≡ Some Running
    → MatchBool r ((slice_get b.tasks task.0 ≡ Some Running) × (c ≡ stands b task GivenUp)) ((slice_get b.tasks task.0 ≡ Some Running → ⊥) × (c ≡ b)) → c ≡ stands b task GivenUp
gave_up b c task true runs h = h.1
gave_up b c task false runs h = absurd (h.0 runs)

-- the report of a book in which each task is put by
module _ (l : Listing) (turns : List InstanceId) (a b : BookView) (given : HasGiven l turns a)
    (put : ArePutBy a (length a.tasks) b) (lawful : LawfulBook b) (fits : BookFits b) (r : Told) (is : ReportIs b r) where
  idle : IsIdle b
  idle =
      record {
        ready = λ t e. let low = slice_get_within b.tasks t Ready e in (put.by t (omega (arith, low, put.stays.count))).0 e;
        running = λ t e. let low = slice_get_within b.tasks t Running e in (put.by t (omega (arith, low, put.stays.count))).1 e;
      }

  abbrev Would : TaskId × TxId → Type 0
  Would p = outcome (program_as l p.0 p.1) (now_of r).state ≢ Retries

  would : (k : ℕ) → slice_get b.tasks k ≡ Some GivenUp → Would (number (0 + k), task_tx b.catalogue (number (0 + k)))
  would k e retries =
      let same : k ≡ 0 + k = omega arith in
      let path : outcome (task_program a.catalogue (number k)) a.present.state ≡ outcome (program_as l (number (0 + k)) (task_tx b.catalogue (number (0 + k)))) (now_of r).state =
      ap (λ (x : Listing). outcome (program_as x (number k) (task_tx a.catalogue (number k))) a.present.state) given.catalogue
      ∙ (ap (λ (x : Listing). outcome (program_as l (number k) (task_tx x (number k))) a.present.state) (sym put.stays.catalogue)
      ∙ (ap (λ (m : ℕ). outcome (program_as l (number m) (task_tx b.catalogue (number m))) a.present.state) same
      ∙ ap (λ (s : Snapshot). outcome (program_as l (number (0 + k)) (task_tx b.catalogue (number (0 + k)))) s.state) (sym (is.current ∙ put.stays.present)))) in
      ⊎_elim (λ (g : slice_get a.tasks k ≡ Some GivenUp). given.kept k g) (λ (w : WouldTurn a k). w (path ∙ retries)) (put.given_up k e)

  pub stops : StopsAfter l turns r
  stops =
      record {
        lawful = subst (λ (x : Listing). LawfulReport x r) (put.stays.catalogue ∙ given.catalogue) (report_lawful b r lawful fits idle is);
        opens = ap (λ (s : Snapshot). s.number) (is.base ∙ (put.stays.base ∙ given.base));
        entered = ap (entered_by l) (is.entries ∙ put.stays.journal) ∙ given.entered;
        given_up = subst (All Would) (sym is.memory) (given_up_listed b.catalogue 0 b.tasks Would would);
      }
