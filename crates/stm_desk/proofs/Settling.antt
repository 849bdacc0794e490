-- What a desk keeps where a task had its turn.
use Rattle.std.proofs.Common.{◌≡◌, ◌≢◌, ◌∙◌, ◌⊎◌, inl, inr, ℕ, zero, suc, Bool, List, [], ◌∷◌, ◌++◌, Option, Some, None, Result, Ok, Err, OnErr, OnOk, length, map, set, refl, sym, ap, subst}
use Rattle.std.specs.List.{slice_get}
use Rattle.std.proofs.lemmas.Bool.{cases_eq}
use Rattle.std.proofs.lemmas.List.{append-nil}
use Rattle.std.proofs.lemmas.Option.{same_Some}
use Rattle.std.proofs.Math.Logic.{∥∥₁_elim, ∥∥₁_map, ∥∥₁_prop}
use Rattle.txn_programs.specs.declared.arguments.Call.{Call}
use Rattle.txn_programs.specs.declared.memory.Memory.{Memory}
use Rattle.txn_programs.specs.Listing.{Listing}
use Rattle.attempt.specs.Room.{TakesMemory}
use Rattle.book.specs.Carrying.{stays}
use Rattle.book.specs.Tasks.{Task, Done, GivenUp, Parked, Ready, Running}
use Rattle.book.specs.Turns.{readied, readied_one}
use Rattle.book.specs.View.{BookView}
use Rattle.stm_store.specs.Asking.{GivesUp, TakesJob}
use Rattle.stm_store.specs.Keeping.{KeepsTasks}
use Rattle.stm_store.specs.Tickets.{AreTickets, HasTicket, TicketsView}
use Rattle.stm_store.specs.declared.answers.End.{End}
use Rattle.stm_store.specs.declared.answers.End.TheVariants as end
use Rattle.stm_store.specs.declared.answers.Entered.{Entered}
use Rattle.stm_store.specs.declared.answers.Refused.TheVariants as refused
use Rattle.stm_store.specs.declared.job.Job.{Job}
use Rattle.stm_store.specs.declared.job.Ticket.{Ticket}
use Rattle.stm_store.specs.declared.store.Store.{Store}
use Rattle.stm_desk.specs.declared.answers.Became.{Became}
use Rattle.stm_desk.specs.declared.answers.Became.TheVariants as became
use Rattle.stm_desk.specs.declared.waiters.Waiters.{Waiters}
use Rattle.stm_desk.specs.declared.waiters.Waiting.{Waiting}
use Rattle.stm_desk.specs.declared.work.Work.{Work}
use Rattle.stm_desk.specs.Asking.{IsStill, answer_of, call_of}
use Rattle.stm_desk.specs.Open.{open_tasks}
use Rattle.stm_desk.specs.History.{Begins, History}
use Rattle.stm_desk.specs.Keeping.{Accounts}
use Rattle.stm_desk.specs.Running.{AreAwaited, AwaitedBut, HandsNothingOut, NobodyWaits, RunsAt, noted_by}
use Rattle.stm_desk.specs.Settling.{IsNoted, Noted, Settles}
use Rattle.stm_desk.specs.Waiting.{HandsOn, IsSeated, OthersStay, waiting_at}
use Rattle.stm_desk.proofs.Becoming.{Goes, IsAlike, alike_over, alike_was_over, goes_abandons, goes_enters, goes_parks, goes_running, same_held, stood}
use Rattle.stm_desk.proofs.Calling.{get_more}
use Rattle.stm_desk.proofs.Flags.{get_set_other}
use Rattle.stm_desk.proofs.Handing.{hands_nothing, hands_told}
use Rattle.stm_desk.proofs.Legal.{accounts_become, accounts_stay, counted_more}
use Rattle.stm_desk.proofs.Seats.{AreSeated, AreTold, seated_alike, seated_but, told_entered, told_memory}

-- what is kept of a history and of those who wait, whatever becomes of tasks
pub record AreKept (first : Store) (closed : Bool) (s : Store) (n : Noted) : Type 0 where
  pub counted : n.1 ≡ length n.0
  pub accounts : ∥ Accounts first s n.0 ∥₁
  pub seated : AreSeated s n.2
  pub told : ∥ AreTold first.catalogue.now closed n.0 n.2.told.items ∥₁

entered_keeps : (first : Store) (closed : Bool) (old new : Store) (job : Job) (e : Entered) (n m : Noted) → Goes old new job (end.Entered e) → IsNoted n job.ticket (became.Entered (call_of job) e.outcome) (Ok (answer_of job e n.1)) m → AreKept first closed old n → AreKept first closed new m
entered_keeps first closed old new job e n m g is k =
    let b = goes_enters old new job e g in
    let what : Became = became.Entered (call_of job) e.outcome in
    record {
      counted = counted_more n.1 m.1 n.0 m.0 (job.ticket, what) k.counted is.places is.history;
      accounts = ∥∥₁_map k.accounts (λ (a : Accounts first old n.0). subst (λ (h : History). Accounts first new h) (sym is.history) (accounts_become first old new n.0 job.ticket what a b));
      seated = seated_but old new n.2 m.2 job.ticket b.stays is.gone is.others k.seated;
      told = told_entered first.catalogue.now closed old n.2 job n.0 m.0 (call_of job) (answer_of job e n.1) m.2.told.items g.tickets g.is_job k.seated refl k.counted refl is.history is.told k.told;
    }

abandoned_keeps : (first : Store) (closed : Bool) (old new : Store) (job : Job) (n m : Noted) → Goes old new job end.Abandoned → TakesMemory old.catalogue.now job.tx → IsNoted n job.ticket became.Left (Err refused.Memory) m → AreKept first closed old n → AreKept first closed new m
abandoned_keeps first closed old new job n m g takes is k =
    let b = goes_abandons old new job g in
    record {
      counted = counted_more n.1 m.1 n.0 m.0 (job.ticket, became.Left) k.counted is.places is.history;
      accounts = ∥∥₁_map k.accounts (λ (a : Accounts first old n.0). subst (λ (h : History). Accounts first new h) (sym is.history) (accounts_become first old new n.0 job.ticket became.Left a b));
      seated = seated_but old new n.2 m.2 job.ticket b.stays is.gone is.others k.seated;
      told = ∥∥₁_elim k.accounts ∥∥₁_prop (λ (a : Accounts first old n.0).
          told_memory first.catalogue.now closed old n.2 job n.0 m.0 m.2.told.items g.tickets g.is_job k.seated (subst (λ (l : Listing). TakesMemory l job.tx) a.catalogue takes) is.history is.told k.told);
    }

-- where the same tasks are open
pub alike_keeps : (first : Store) (closed : Bool) (old new : Store) (n : Noted) → IsAlike old new → AreKept first closed old n → AreKept first closed new n
alike_keeps first closed old new n a k =
    record {
      counted = k.counted;
      accounts = ∥∥₁_map k.accounts (accounts_stay first old new n.0 a.kept.store.catalogue a.present (λ t. alike_over old new t a) (λ t. alike_was_over old new t a));
      seated = seated_alike old new n.2 a k.seated;
      told = k.told;
    }

pub settles_keeps : (first : Store) (closed : Bool) (old new : Store) (job : Job) (how : End) (n m : Noted) → Goes old new job how → (how ≡ end.Abandoned → TakesMemory old.catalogue.now job.tx) → Settles n job how m → AreKept first closed old n → AreKept first closed new m
settles_keeps first closed old new job (end.Entered e) n m g takes is k = entered_keeps first closed old new job e n m g is k
settles_keeps first closed old new job end.Abandoned n m g takes is k = abandoned_keeps first closed old new job n m g (takes refl) is k
settles_keeps first closed old new job end.Parked n m g takes is k =
    subst (λ (x : Noted). AreKept first closed new x) (sym is) (alike_keeps first closed old new n (goes_parks old new job g) k)

-- each waits on or is told
pub settles_hands_on : (job : Job) (how : End) (n m : Noted) → Settles n job how m → HandsOn n.2 m.2
settles_hands_on job (end.Entered e) n m is = hands_told n.2 m.2 job.ticket (Ok (answer_of job e n.1)) is.gone is.others is.told
settles_hands_on job end.Abandoned n m is = hands_told n.2 m.2 job.ticket (Err refused.Memory) is.gone is.others is.told
settles_hands_on job end.Parked n m is = hands_nothing n.2 m.2 (ap (λ (x : Noted). x.2) is)

pub settles_begins : (job : Job) (how : End) (n m : Noted) → Settles n job how m → Begins n.0 m.0
settles_begins job (end.Entered e) n m is = (((job.ticket, became.Entered (call_of job) e.outcome) ∷ []), is.history)
settles_begins job end.Abandoned n m is = (((job.ticket, became.Left) ∷ []), is.history)
settles_begins job end.Parked n m is = ([], ap (λ (x : Noted). x.0) is ∙ sym (append-nil n.0))

-- who waits for another task does so still
settles_others : (job : Job) (how : End) (n m : Noted) → Settles n job how m → OthersStay n.2 m.2 job.ticket
settles_others job (end.Entered e) n m is = is.others
settles_others job end.Abandoned n m is = is.others
settles_others job end.Parked n m is = λ other apart. ap (λ (x : Noted). waiting_at x.2 other) is

-- for each task that runs a call waits
pub settles_awaited : (old new : Store) (job : Job) (how : End) (n m : Noted) → Goes old new job how → Settles n job how m → AwaitedBut old n.2 job.task → AreAwaited new m.2
settles_awaited old new job how n m g is all k t runs held none =
    let was = goes_running old new job how k g runs in
    let here : slice_get old.tickets.held k ≡ Some t = subst (λ (x : TicketsView). slice_get x.held k ≡ Some t) g.kept.tickets held in
    let apart : t ≢ job.ticket.0 = λ same. was.1 (same_held old.tickets k job.task.0 t job.ticket.0 g.tickets here g.is_job.ticket same) in
    all k t was.1 was.0 here (sym (settles_others job how n m is t apart) ∙ none)

-- a task that was taken runs
pub take_runs : (old mid : Store) (job : Job) (k : ℕ) → TakesJob old (Ok job) mid → RunsAt mid k → RunsAt old k ⊎ (k ≡ job.task.0)
take_runs old mid job k taken runs =
    let at : slice_get (set old.book.tasks job.task.0 Running) k ≡ Some Running = subst (λ (b : BookView). slice_get b.tasks k ≡ Some Running) taken.0.2 runs in
    elim (cases_eq k job.task.0) [
      | inl same ↦ inr same
      | inr apart ↦ inl (sym (get_set_other old.book.tasks job.task.0 k Running apart) ∙ at)
    ]

pub take_awaited : (old mid : Store) (w : Waiters) (job : Job) → KeepsTasks old mid → TakesJob old (Ok job) mid → AreAwaited old w → AwaitedBut mid w job.task
take_awaited old mid w job kept taken all k t apart runs held = elim (take_runs old mid job k taken runs) [
  | inl was ↦ all k t was (subst (λ (x : TicketsView). slice_get x.held k ≡ Some t) kept.tickets held)
  | inr same ↦ absurd (apart same)
]

-- and so it is where somebody waits for it
pub handed_awaited : (mid : Store) (w : Waiters) (job : Job) → HasTicket mid.tickets job.task job.ticket → waiting_at w job.ticket.0 ≢ None → AwaitedBut mid w job.task → AreAwaited mid w
handed_awaited mid w job own waits all k t runs held = elim (cases_eq k job.task.0) [
  | inl same ↦
      let is : t ≡ job.ticket.0 = same_Some t job.ticket.0 (sym held ∙ (ap (slice_get mid.tickets.held) same ∙ own)) in
      subst (λ (n : ℕ). waiting_at w n ≢ None) (sym is) waits
  | inr apart ↦ all k t apart runs held
]

-- a withdrawal
pub gives_up_running : (old new : Store) (ticket : Ticket) (k : ℕ) → (h : GivesUp old ticket (Ok tt) new) → RunsAt new k → RunsAt old k × (k ≢ h.0.0)
gives_up_running old new ticket k h runs =
    stood old.book.tasks h.0.0 k GivenUp Running (λ same. cc (same)) (subst (λ (b : BookView). slice_get b.tasks k ≡ Some Running) h.3 runs)

pub gives_up_awaited : (old new : Store) (w v : Waiters) (ticket : Ticket) → KeepsTasks old new → AreTickets old.tickets → GivesUp old ticket (Ok tt) new → OthersStay w v ticket → AreAwaited old w → AreAwaited new v
gives_up_awaited old new w v ticket kept tickets h others all k t runs held none =
    let was = gives_up_running old new ticket k h runs in
    let here : slice_get old.tickets.held k ≡ Some t = subst (λ (x : TicketsView). slice_get x.held k ≡ Some t) kept.tickets held in
    let apart : t ≢ ticket.0 = λ same. was.1 (same_held old.tickets k h.0.0 t ticket.0 tickets here h.1 same) in
    all k t was.0 here (sym (others t apart) ∙ none)

-- the same tasks, and no fewer who wait
pub alike_awaited : (old new : Store) (w v : Waiters) → new.book ≡ old.book → new.tickets ≡ old.tickets → ((t : ℕ) → waiting_at w t ≢ None → waiting_at v t ≢ None) → AreAwaited old w → AreAwaited new v
alike_awaited old new w v book tickets on all k t runs held =
    on t (all k t (subst (λ (b : BookView). slice_get b.tasks k ≡ Some Running) book runs) (subst (λ (x : TicketsView). slice_get x.held k ≡ Some t) tickets held))

pub alike_hands_out : (old new : Work) → new.due.items ≡ old.due.items → new.long.items ≡ old.long.items → new.store.book ≡ old.store.book → HandsNothingOut old new
alike_hands_out old new due long book = record { due = due; long = long; runs = λ k r. subst (λ (b : BookView). slice_get b.tasks k ≡ Some Running) book r }

-- where somebody more waits
pub seated_on : (w v : Waiters) (one : Ticket) (whose : ℕ) (call : Call) → IsSeated w one whose call v → (t : ℕ) → waiting_at w t ≢ None → waiting_at v t ≢ None
seated_on w v one whose call is t some none = elim (cases_eq t one.0) [
  | inl same ↦ not_some (waiting_at v t) is.seat none (ap (waiting_at v) same ∙ is.here)
  | inr apart ↦ some (sym (is.others t apart) ∙ none)
]
  where
    not_some : (o : Option Waiting) (seat : Waiting) → o ≡ None → o ≡ Some seat → ⊥
    not_some o seat p q = absurd (cc (p, q))

pub keeps_nothing : (s : Store) → KeepsTasks s s
keeps_nothing s = record {
  store = record { catalogue = refl; cells = refl; workers = refl; every = refl; chapter = refl };
  listing = refl;
  tickets = refl;
}

pub keeps_both : (a b c : Store) → KeepsTasks a b → KeepsTasks b c → KeepsTasks a c
keeps_both a b c p q = record {
  store = record {
    catalogue = q.store.catalogue ∙ p.store.catalogue;
    cells = q.store.cells ∙ p.store.cells;
    workers = q.store.workers ∙ p.store.workers;
    every = q.store.every ∙ p.store.every;
    chapter = q.store.chapter ∙ p.store.chapter;
  };
  listing = q.listing ∙ p.listing;
  tickets = q.tickets ∙ p.tickets;
}

pub goes_running_all : (old new : Store) (job : Job) (how : End) → Goes old new job how → (k : ℕ) → RunsAt new k → RunsAt old k
goes_running_all old new job how g k r = (goes_running old new job how k g r).0

-- what a desk keeps in the midst of a call
pub kept_of : (w : Work) → AreKept w.first.value w.closed w.store (noted_by w)
kept_of w = record { counted = w.counted; accounts = w.accounts; seated = w.seated; told = w.told }

-- one more of whose call nobody waits
pub nobody_more : (w : Waiters) (skipped : List Job) (job : Job) → NobodyWaits w skipped → waiting_at w job.ticket.0 ≡ None → NobodyWaits w (skipped ++ job ∷ [])
nobody_more w skipped job all none k other at = elim (get_more skipped job k other at) [
  | inl there ↦ all k other there
  | inr last ↦ ap (λ (j : Job). waiting_at w j.ticket.0) (sym last.1) ∙ none
]

-- who sat down, or did not
pub seat_awaited : (r : Result (Unit {0}) Memory) (s : Store) (w v : Waiters) (one : Ticket) (whose : ℕ) (call : Call) → OnOk r (IsSeated w one whose call v) → OnErr r ((t : ℕ) → waiting_at v t ≡ waiting_at w t) → AreAwaited s w → AreAwaited s v
seat_awaited (Ok done) s w v one whose call is same all = alike_awaited s s w v refl refl (seated_on w v one whose call is) all
seat_awaited (Err why) s w v one whose call is same all = alike_awaited s s w v refl refl (λ t some none. some (sym (same t) ∙ none)) all

-- where each running task was made ready
readied_one_stays : (t : Task) → stays (readied_one t) ≡ stays t
readied_one_stays Ready = refl
readied_one_stays Running = refl
readied_one_stays (Parked log) = refl
readied_one_stays (Done n) = refl
readied_one_stays GivenUp = refl

readied_stays : (ts : List Task) → map stays (map readied_one ts) ≡ map stays ts
readied_stays [] = refl
readied_stays (t ∷ ts) = ap (λ (b : Bool). b ∷ map stays (map readied_one ts)) (readied_one_stays t) ∙ ap (λ (bs : List Bool). stays t ∷ bs) (readied_stays ts)

pub readied_alike : (old new : Store) → KeepsTasks old new → new.book ≡ readied old.book → IsAlike old new
readied_alike old new kept is = record { kept = kept; open_now = ap open_tasks is ∙ readied_stays old.book.tasks; present = ap (λ (b : BookView). b.present.state) is }

readied_none : (ts : List Task) (k : ℕ) → slice_get (map readied_one ts) k ≡ Some Running → ⊥
readied_none [] k e = cc (e)
readied_none (Ready ∷ ts) zero e = cc (e)
readied_none (Running ∷ ts) zero e = cc (e)
readied_none (Parked log ∷ ts) zero e = cc (e)
readied_none (Done n ∷ ts) zero e = cc (e)
readied_none (GivenUp ∷ ts) zero e = cc (e)
readied_none (t ∷ ts) (suc k) e = readied_none ts k e

pub readied_still : (old new : Store) → new.book ≡ readied old.book → IsStill new
readied_still old new is k runs = readied_none old.book.tasks k (subst (λ (b : BookView). slice_get b.tasks k ≡ Some Running) is runs)
