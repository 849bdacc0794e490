-- A task of a long call: it is submitted, and claimed at once.
use Rattle.std.proofs.Common.{◌≡◌, ◌≢◌, ◌∙◌, ◌⊎◌, inl, inr, ℕ, zero, suc, ℤ, Bool, true, List, [], ◌∷◌, ◌++◌, Option, Some, None, Result, Ok, Err, length, set, refl, sym, ap, subst}
use Rattle.std.specs.List.{slice_get}
use Rattle.std.proofs.lemmas.Bool.{cases_eq}
use Rattle.std.proofs.lemmas.List.{length-map}
use Rattle.std.proofs.lemmas.Option.{same_Some}
use Rattle.std.proofs.Math.Logic.{∥∥₁_map}
use Rattle.txn_programs.specs.declared.ast.TaskId.{TaskId}
use Rattle.txn_programs.specs.declared.arguments.Call.{Call}
use Rattle.book.specs.Tasks.{Task, GivenUp, Ready, Running}
use Rattle.book.specs.View.{BookView}
use Rattle.book.specs.Carrying.{stays}
use Rattle.book.specs.LawfulBook.{BookFits}
use Rattle.stm_store.specs.Tickets.{AreTickets, HasTicket, TicketsView}
use Rattle.stm_store.specs.Asking.{Claims, GivesUp, IsUnchanged, Submits, IsFull}
use Rattle.stm_store.specs.Keeping.{KeepsStore, KeepsTasks}
use Rattle.stm_store.specs.declared.answers.Refused.{Refused}
use Rattle.stm_store.specs.declared.answers.Refused.TheVariants as refused
use Rattle.stm_store.specs.declared.job.Job.{Job}
use Rattle.stm_store.specs.declared.job.Ticket.{Ticket}
use Rattle.stm_store.specs.declared.store.Store.{Store}
use Rattle.stm_store.proofs.Rising.{one_of}
use Rattle.stm_desk.specs.declared.waiters.Waiters.{Waiters}
use Rattle.stm_desk.specs.declared.work.Work.{Work}
use Rattle.stm_desk.specs.Asking.{IsServed, next_ticket}
use Rattle.stm_desk.specs.Open.{HasOpenCall, open_tasks}
use Rattle.stm_desk.specs.Running.{AreAwaited, RunsAt, RunsFor}
use Rattle.stm_desk.specs.Settling.{Noted}
use Rattle.stm_desk.specs.Waiting.{IsSeated, OthersStay, WaitAsBefore, waiting_at}
use Rattle.stm_desk.proofs.Becoming.{IsAlike, none_alike, present_on, same_call, stood}
use Rattle.stm_desk.proofs.Calling.{IsMore, get_end, get_more, here_now, map_more, more_held, more_open, more_stays, new_tickets}
use Rattle.stm_desk.proofs.Flags.{get_set_other, open_at, open_stands, set_same}
use Rattle.stm_desk.proofs.Legal.{accounts_stay, over_but}
use Rattle.stm_desk.proofs.Seats.{AreTold, seated_more, seated_same, seated_still}
use Rattle.stm_desk.proofs.Settling.{AreKept, gives_up_running, seated_on}

-- What the store tells of a task that was submitted.
pub record IsSubmitted (old new : Store) (call : Call) (ticket : Ticket) : Type 0 where
  pub kept : KeepsStore old new
  pub each : length old.tickets.held ≡ length old.book.tasks
  pub rise : AreTickets old.tickets
  pub fits : BookFits old.book
  pub is : Submits old call.tx call.arguments (Ok ticket) new

abbrev last_of : Store → TaskId
last_of s = record { 0 = length s.book.tasks }

pub submitted_more : (old new : Store) (call : Call) (ticket : Ticket) → IsSubmitted old new call ticket → IsMore old new call (last_of old) ticket true
submitted_more old new call ticket s =
    let n = length old.book.tasks in
    let last : n ≡ length (open_tasks old.book) = sym (length-map old.book.tasks stays) in
    record {
      catalogue = s.kept.catalogue;
      each = s.each;
      rise = s.rise;
      last = refl;
      next = s.is.1;
      room = s.is.0.1;
      tickets = s.is.2;
      open_now = ap open_tasks s.is.3 ∙ (map_more stays old.book.tasks Ready ∙ sym (set_same (open_tasks old.book ++ true ∷ []) n true (get_end (open_tasks old.book) true n last)));
      listing = ap (λ (b : BookView). b.catalogue) s.is.3;
    }

pub submitted_present : (old new : Store) (call : Call) (ticket : Ticket) → IsSubmitted old new call ticket → new.book.present.state ≡ old.book.present.state
submitted_present old new call ticket s = ap (λ (b : BookView). b.present.state) s.is.3

pub submitted_open : (old new : Store) (call : Call) (ticket : Ticket) → IsSubmitted old new call ticket → HasOpenCall new ticket call
submitted_open old new call ticket s = more_open old new call (last_of old) ticket s.fits (submitted_more old new call ticket s)

-- how a task of the new store stood before
stood_before : (old new : Store) (call : Call) (ticket : Ticket) (k : ℕ) (how : Task) → IsSubmitted old new call ticket → slice_get new.book.tasks k ≡ Some how → (slice_get old.book.tasks k ≡ Some how) ⊎ ((k ≡ length old.book.tasks) × (Ready ≡ how))
stood_before old new call ticket k how s at = get_more old.book.tasks Ready k how (subst (λ (b : BookView). slice_get b.tasks k ≡ Some how) s.is.3 at)

-- it is the last one, and ready
last_ready : (old new : Store) (call : Call) (ticket : Ticket) (task : TaskId) → IsSubmitted old new call ticket → HasTicket new.tickets task ticket → (task.0 ≡ length old.book.tasks) × (slice_get new.book.tasks task.0 ≡ Some Ready)
last_ready old new call ticket task s own =
    let m = submitted_more old new call ticket s in
    let same : task.0 ≡ length old.book.tasks = one_of new.tickets.held (new_tickets old new call (last_of old) ticket true m).ascending task.0 (length old.book.tasks) ticket.0 own (here_now old new call (last_of old) ticket true m) in
    (same, ap (λ (b : BookView). slice_get b.tasks task.0) s.is.3 ∙ get_end old.book.tasks Ready task.0 same)

pub claimed_always : (old mid new : Store) (call : Call) (ticket : Ticket) (why : Refused) → IsSubmitted old mid call ticket → Claims mid ticket (Err why) new → ⊥
claimed_always old mid new call ticket refused.Gone s h = h.0 (last_of old) (here_now old mid call (last_of old) ticket true (submitted_more old mid call ticket s))
claimed_always old mid new call ticket refused.NotReady s h = h.2 (last_ready old mid call ticket h.0 s h.1).1
claimed_always old mid new call ticket refused.Unknown s h = h
claimed_always old mid new call ticket refused.NotRunning s h = h
claimed_always old mid new call ticket refused.NotEnded s h = h
claimed_always old mid new call ticket refused.OtherProgram s h = h
claimed_always old mid new call ticket refused.Stale s h = h
claimed_always old mid new call ticket refused.NoRoom s h = h
claimed_always old mid new call ticket refused.Retries s h = h
claimed_always old mid new call ticket refused.Memory s h = h
claimed_always old mid new call ticket refused.Closed s h = h
claimed_always old mid new call ticket refused.TimedOut s h = h

-- What it tells of one that was claimed.
pub record IsClaimed (old mid new : Store) (call : Call) (job : Job) (ticket : Ticket) : Type 0 where
  pub before : IsSubmitted old mid call ticket
  pub kept : KeepsTasks mid new
  pub is : Claims mid ticket (Ok job) new

-- whether it was claimed or not, the same tasks are open
not_claimed : (old new : Store) (ticket : Ticket) (why : Refused) → Claims old ticket (Err why) new → new.book ≡ old.book
not_claimed old new ticket refused.Gone h = h.1
not_claimed old new ticket refused.NotReady h = h.3
not_claimed old new ticket refused.Unknown h = absurd h
not_claimed old new ticket refused.NotRunning h = absurd h
not_claimed old new ticket refused.NotEnded h = absurd h
not_claimed old new ticket refused.OtherProgram h = absurd h
not_claimed old new ticket refused.Stale h = absurd h
not_claimed old new ticket refused.NoRoom h = absurd h
not_claimed old new ticket refused.Retries h = absurd h
not_claimed old new ticket refused.Memory h = absurd h
not_claimed old new ticket refused.Closed h = absurd h
not_claimed old new ticket refused.TimedOut h = absurd h

pub claim_alike : (old new : Store) (ticket : Ticket) (r : Result Job Refused) → KeepsTasks old new → Claims old ticket r new → IsAlike old new
claim_alike old new ticket (Err why) kept h = none_alike old new kept (not_claimed old new ticket why h)
claim_alike old new ticket (Ok job) kept h =
    record {
      kept = kept;
      open_now = ap open_tasks h.3 ∙ (open_stands old.book job.task Running ∙ set_same (open_tasks old.book) job.task.0 true (open_at old.book.tasks job.task.0 Ready h.2 refl));
      present = ap (λ (b : BookView). b.present.state) h.3;
    }

own_ticket : (old mid new : Store) (call : Call) (job : Job) (ticket : Ticket) → IsClaimed old mid new call job ticket → HasTicket mid.tickets job.task ticket
own_ticket old mid new call job ticket c = subst (λ (t : Ticket). HasTicket mid.tickets job.task t) c.is.0 c.is.1.0.ticket

is_last : (old mid new : Store) (call : Call) (job : Job) (ticket : Ticket) → IsClaimed old mid new call job ticket → job.task.0 ≡ length old.book.tasks
is_last old mid new call job ticket c = (last_ready old mid call ticket job.task c.before (own_ticket old mid new call job ticket c)).0

-- no other task stands otherwise than before
stands_as : (old mid new : Store) (call : Call) (job : Job) (ticket : Ticket) (k : ℕ) (how : Task) → IsClaimed old mid new call job ticket → k ≢ job.task.0 → slice_get new.book.tasks k ≡ Some how → slice_get old.book.tasks k ≡ Some how
stands_as old mid new call job ticket k how c apart at =
    let there : slice_get (set mid.book.tasks job.task.0 Running) k ≡ Some how = subst (λ (b : BookView). slice_get b.tasks k ≡ Some how) c.is.3 at in
    elim (stood_before old mid call ticket k how c.before (sym (get_set_other mid.book.tasks job.task.0 k Running apart) ∙ there)) [
      | inl was ↦ was
      | inr last ↦ absurd (apart (last.0 ∙ sym (is_last old mid new call job ticket c)))
    ]

pub claimed_served : (old mid new : Store) (call : Call) (job : Job) (ticket : Ticket) → IsClaimed old mid new call job ticket → IsServed old → IsServed new
claimed_served old mid new call job ticket c served k ready =
    let was = stood mid.book.tasks job.task.0 k Running Ready (λ same. cc (same)) (subst (λ (b : BookView). slice_get b.tasks k ≡ Some Ready) c.is.3 ready) in
    served k (stands_as old mid new call job ticket k Ready c was.1 ready)

pub claimed_runs : (old mid new : Store) (call : Call) (job : Job) (ticket : Ticket) (k : ℕ) → IsClaimed old mid new call job ticket → RunsAt new k → RunsAt old k ⊎ (k ≡ job.task.0)
claimed_runs old mid new call job ticket k c runs = elim (cases_eq k job.task.0) [
  | inl same ↦ inr same
  | inr apart ↦ inl (stands_as old mid new call job ticket k Running c apart runs)
]

pub claimed_awaited : (old mid new : Store) (w v : Waiters) (call : Call) (job : Job) (ticket : Ticket) (whose : ℕ) → IsClaimed old mid new call job ticket → IsSeated w ticket whose call v → AreAwaited old w → AreAwaited new v
claimed_awaited old mid new w v call job ticket whose c seated all k t runs held =
    let here : slice_get mid.tickets.held k ≡ Some t = subst (λ (x : TicketsView). slice_get x.held k ≡ Some t) c.kept.tickets held in
    elim (claimed_runs old mid new call job ticket k c runs) [
      | inl was ↦ seated_on w v ticket whose call seated t (all k t was (more_held old mid k t c.before.is.2 c.before.each was here))
      | inr same ↦
          let is : t ≡ ticket.0 = same_Some t ticket.0 (sym here ∙ (ap (slice_get mid.tickets.held) same ∙ own_ticket old mid new call job ticket c)) in
          λ none. there (waiting_at v ticket.0) (ap (waiting_at v) (sym is) ∙ none) seated.here
    ]
  where
    there : {A : Type 0} (o : Option A) {x : A} → o ≡ None → o ≡ Some x → ⊥
    there o p q = absurd (cc (p, q))

runs_there : (ts : List Task) (i : ℕ) (was how : Task) → slice_get ts i ≡ Some was → slice_get (set ts i how) i ≡ Some how
runs_there [] i was how h = absurd (cc)
runs_there (t ∷ ts) zero was how h = refl
runs_there (t ∷ ts) (suc i) was how h = runs_there ts i was how h

pub claimed_for : (old new : Work) (mid : Store) (call : Call) (job : Job) (ticket : Ticket) (whose : ℕ) → IsClaimed old.store mid new.store call job ticket → IsSeated old.waiters ticket whose call new.waiters → new.history.items ≡ old.history.items → new.due.items ≡ old.due.items → RunsFor old call whose job new
claimed_for old new mid call job ticket whose c seated history due =
    let m = submitted_more old.store mid call ticket c.before in
    let own : job.ticket ≡ ticket = c.is.0 in
    let next : ticket ≡ next_ticket old.store = ap (λ (n : ℕ). let t : Ticket = record { 0 = n } in t) c.before.is.1 in
    let made : HasOpenCall mid job.ticket call = subst (λ (t : Ticket). HasOpenCall mid t call) (sym own) (submitted_open old.store mid call ticket c.before) in
    record {
      ticket = own ∙ next;
      given = ap (λ (t : TicketsView). t.given) (c.kept.tickets ∙ c.before.is.2);
      calls = sym (same_call mid job call (new_tickets old.store mid call (last_of old.store) ticket true m) c.is.1.0 made);
      present = present_on mid new.store job c.kept c.is.1;
      running = ap (λ (b : BookView). slice_get b.tasks job.task.0) c.is.3 ∙ runs_there mid.book.tasks job.task.0 Ready Running c.is.2;
      seated = subst (λ (t : Ticket). IsSeated old.waiters t whose call new.waiters) (sym own) seated;
      history = history;
      due = due;
      others = λ k r. claimed_runs old.store mid new.store call job ticket k c r;
    }

pub none_full : (old new : Store) (call : Call) (why : Refused) → Submits old call.tx call.arguments (Err why) new → IsFull old
none_full old new call refused.NoRoom h = h.0
none_full old new call refused.Gone h = absurd h
none_full old new call refused.NotReady h = absurd h
none_full old new call refused.Unknown h = absurd h
none_full old new call refused.NotRunning h = absurd h
none_full old new call refused.NotEnded h = absurd h
none_full old new call refused.OtherProgram h = absurd h
none_full old new call refused.Stale h = absurd h
none_full old new call refused.Retries h = absurd h
none_full old new call refused.Memory h = absurd h
none_full old new call refused.Closed h = absurd h
none_full old new call refused.TimedOut h = absurd h

pub none_unchanged : (old new : Store) (call : Call) (why : Refused) → Submits old call.tx call.arguments (Err why) new → IsUnchanged old new
none_unchanged old new call refused.NoRoom h = h.1
none_unchanged old new call refused.Gone h = absurd h
none_unchanged old new call refused.NotReady h = absurd h
none_unchanged old new call refused.Unknown h = absurd h
none_unchanged old new call refused.NotRunning h = absurd h
none_unchanged old new call refused.NotEnded h = absurd h
none_unchanged old new call refused.OtherProgram h = absurd h
none_unchanged old new call refused.Stale h = absurd h
none_unchanged old new call refused.Retries h = absurd h
none_unchanged old new call refused.Memory h = absurd h
none_unchanged old new call refused.Closed h = absurd h
none_unchanged old new call refused.TimedOut h = absurd h

-- what is kept of a history and of those who wait
pub submitted_keeps : (first : Store) (closed : Bool) (old new : Store) (call : Call) (ticket : Ticket) (n : Noted) → IsSubmitted old new call ticket → AreKept first closed old n → AreKept first closed new n
submitted_keeps first closed old new call ticket n s k =
    let stays_so = more_stays old new call (last_of old) ticket true (submitted_more old new call ticket s) in
    record {
      counted = k.counted;
      accounts = ∥∥₁_map k.accounts (accounts_stay first old new n.0 stays_so.catalogue (submitted_present old new call ticket s) stays_so.over (over_but old new ticket stays_so (submitted_open old new call ticket s).has));
      seated = seated_still old new n.2 ticket s.rise s.is.1 stays_so k.seated;
      told = k.told;
    }

pub seat_keeps_on : (first : Store) (closed : Bool) (s : Store) (n : Noted) (v : Waiters) (ticket : Ticket) (whose : ℕ) (call : Call) → HasOpenCall s ticket call → IsSeated n.2 ticket whose call v → AreKept first closed s n → AreKept first closed s (n.0, n.1, v)
seat_keeps_on first closed s n v ticket whose call is_open seated k =
    record {
      counted = k.counted;
      accounts = k.accounts;
      seated = seated_more s n.2 v ticket whose call ∣ is_open ∣₁ seated k.seated;
      told = ∥∥₁_map k.told (subst (AreTold first.catalogue.now closed n.0) (sym seated.told));
    }

pub no_seat_keeps_on : (first : Store) (closed : Bool) (s : Store) (n : Noted) (v : Waiters) → ((t : ℕ) → waiting_at v t ≡ waiting_at n.2 t) → v.told.items ≡ n.2.told.items → AreKept first closed s n → AreKept first closed s (n.0, n.1, v)
no_seat_keeps_on first closed s n v same told k =
    record {
      counted = k.counted;
      accounts = k.accounts;
      seated = seated_same s n.2 v same k.seated;
      told = ∥∥₁_map k.told (subst (AreTold first.catalogue.now closed n.0) (sym told));
    }

-- where there was no memory for a seat
pub left_as_before : (w v u : Waiters) (ticket : Ticket) → waiting_at w ticket.0 ≡ None → ((t : ℕ) → waiting_at v t ≡ waiting_at w t) → v.told.items ≡ w.told.items → waiting_at u ticket.0 ≡ None → OthersStay v u ticket → u.told.items ≡ v.told.items → WaitAsBefore w u
left_as_before w v u ticket nobody same told gone others told_too =
    record {
      calls = λ t. elim (cases_eq t ticket.0) [
        | inl here ↦ ap (waiting_at u) here ∙ (gone ∙ (sym nobody ∙ ap (waiting_at w) (sym here)))
        | inr apart ↦ others t apart ∙ same t
      ];
      told = told_too ∙ told;
    }

pub left_served : (old mid new : Store) (call : Call) (ticket : Ticket) → IsSubmitted old mid call ticket → GivesUp mid ticket (Ok tt) new → IsServed old → IsServed new
left_served old mid new call ticket s h served k ready =
    let was = stood mid.book.tasks h.0.0 k GivenUp Ready (λ same. cc (same)) (subst (λ (b : BookView). slice_get b.tasks k ≡ Some Ready) h.3 ready) in
    elim (stood_before old mid call ticket k Ready s was.0) [
      | inl before ↦ served k before
      | inr last ↦ was.1 (last.0 ∙ sym (last_ready old mid call ticket h.0 s h.1).0)
    ]

pub left_awaited : (old mid new : Store) (w v : Waiters) (call : Call) (ticket : Ticket) → IsSubmitted old mid call ticket → KeepsTasks mid new → GivesUp mid ticket (Ok tt) new → WaitAsBefore w v → AreAwaited old w → AreAwaited new v
left_awaited old mid new w v call ticket s kept h same all k t runs held none =
    let was = gives_up_running mid new ticket k h runs in
    let here : slice_get mid.tickets.held k ≡ Some t = subst (λ (x : TicketsView). slice_get x.held k ≡ Some t) kept.tickets held in
    elim (stood_before old mid call ticket k Running s was.0) [
      | inl before ↦ all k t before (more_held old mid k t s.is.2 s.each before here) (sym (same.calls t) ∙ none)
      | inr last ↦ absurd (cc (last.1))
    ]

-- what the store tells of a call that it took
pub is_submitted : (old new : Store) (call : Call) (given : List ℤ) (ticket : Ticket) → given ≡ call.arguments → KeepsStore old new → length old.tickets.held ≡ length old.book.tasks → AreTickets old.tickets → BookFits old.book → Submits old call.tx given (Ok ticket) new → IsSubmitted old new call ticket
is_submitted old new call given ticket same kept each rise fits h =
    record { kept = kept; each = each; rise = rise; fits = fits; is = subst (λ (xs : List ℤ). Submits old call.tx xs (Ok ticket) new) same h }
