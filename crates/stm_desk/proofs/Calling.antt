-- What becomes of the task of a call, which is one more.
use Rattle.std.proofs.Common.{◌≡◌, ◌≢◌, ◌∙◌, ◌⊎◌, inl, inr, ℕ, zero, suc, ◌+◌, ◌<◌, ℤ, Bool, true, false, if◌then◌else◌, List, [], ◌∷◌, ◌++◌, Some, None, length, map, set, refl, sym, ap, subst, arith}
use Rattle.std.specs.List.{slice_get}
use Rattle.std.proofs.lemmas.Bool.{cases_lt}
use Rattle.std.proofs.lemmas.List.{length-map}
use Rattle.std.proofs.lemmas.Option.{get_or_from_slice_get, same_Some, slice_get_within}
use Rattle.txn_programs.specs.declared.ast.TaskId.{TaskId}
use Rattle.txn_programs.specs.declared.ast.TxId.{TxId}
use Rattle.txn_programs.specs.declared.arguments.Call.{Call}
use Rattle.txn_programs.specs.Listing.{Listing, calls, tasks, task_arguments, task_tx}
use Rattle.attempt.specs.Room.{TakesMemory}
use Rattle.txn.specs.Grown.{grown}
use Rattle.txn.proofs.Growing.{calls_grown}
use Rattle.book.specs.View.{BookView, committed, checkpointed}
use Rattle.book.specs.Tasks.{Task, Ready, Running, Parked, GivenUp}
use Rattle.book.specs.Carrying.{stays}
use Rattle.book.specs.Turns.{is_due}
use Rattle.book.specs.LawfulBook.{BookFits}
use Rattle.book.specs.declared.task.Serial.TheVariants as serial
use Rattle.stm_store.specs.Tickets.{TicketsView, AreTickets, HasTicket, most_tickets, with_next}
use Rattle.stm_store.specs.Working.{declaring}
use Rattle.stm_store.specs.Keeping.{KeepsStore}
use Rattle.stm_store.specs.Turning.{Ends, Runs, called_book}
use Rattle.stm_store.specs.declared.job.Ticket.{Ticket}
use Rattle.stm_store.specs.declared.job.Job.{Job}
use Rattle.stm_store.specs.declared.answers.Entered.{Entered}
use Rattle.stm_store.specs.declared.answers.End.{End}
use Rattle.stm_store.specs.declared.answers.End.TheVariants as end
use Rattle.stm_store.specs.declared.store.Store.{Store}
use Rattle.stm_store.proofs.Rising.{one_of, tickets_more}
use Rattle.stm_store.proofs.Submitted.{submitted_given, submitted_runs}
use Rattle.stm_desk.specs.declared.answers.Became.TheVariants as became
use Rattle.stm_desk.specs.declared.waiters.Waiters.{Waiters}
use Rattle.stm_desk.specs.Asking.{IsOneMore, IsServed, next_ticket}
use Rattle.stm_desk.specs.Open.{HasOpen, HasOpenCall, IsOver, IsParkedCall, open_tasks}
use Rattle.stm_desk.specs.Running.{AreAwaited, RunsAt}
use Rattle.stm_desk.specs.Steps.{HasBecome, HasStayed, StaysBut}
use Rattle.stm_desk.specs.Waiting.{waiting_at}
use Rattle.stm_desk.proofs.Flags.{as_ends, closed_set, ends_open, get_append_left, get_set_other, map_set, not_set, stays_open}
use Rattle.stm_desk.proofs.Becoming.{ends_running, entered_lawful, entered_state, memory_same, set_twice, ticket_given}

-- an element of a list with one more
pub get_more : {A : Type 0} (xs : List A) (y : A) (k : ℕ) (x : A) → slice_get (xs ++ y ∷ []) k ≡ Some x → (slice_get xs k ≡ Some x) ⊎ ((k ≡ length xs) × (y ≡ x))
get_more [] y zero x h = inr (refl, cc)
get_more [] y (suc k) x h = absurd (cc)
get_more (z ∷ xs) y zero x h = inl h
get_more (z ∷ xs) y (suc k) x h = elim (get_more xs y k x h) [
  | inl e ↦ inl e
  | inr e ↦ inr (ap suc e.0, e.1)
]

pub get_end : {A : Type 0} (xs : List A) (y : A) (k : ℕ) → k ≡ length xs → slice_get (xs ++ y ∷ []) k ≡ Some y
get_end xs y k at = ap (slice_get (xs ++ y ∷ [])) at ∙ here xs y
  where
    here : {A : Type 0} (xs : List A) (y : A) → slice_get (xs ++ y ∷ []) (length xs) ≡ Some y
    here [] y = refl
    here (x ∷ xs) y = here xs y

pub map_more : {A B : Type 0} (f : A → B) (xs : List A) (y : A) → map f (xs ++ y ∷ []) ≡ map f xs ++ f y ∷ []
map_more f [] y = refl
map_more f (x ∷ xs) y = ap (λ zs. f x ∷ zs) (map_more f xs y)

pub map_get : {A B : Type 0} (f : A → B) (xs : List A) (k : ℕ) (x : A) → slice_get xs k ≡ Some x → slice_get (map f xs) k ≡ Some (f x)
map_get f [] k x e = absurd (cc)
map_get f (y ∷ xs) zero x e = cc
map_get f (y ∷ xs) (suc k) x e = map_get f xs k x e

-- a task's call stays where tasks come behind it
grown_calls : (l : Listing) (call : Call) (k : ℕ) (c : Call) → slice_get (calls l) k ≡ Some c → slice_get (calls (grown l (call ∷ []))) k ≡ Some c
grown_calls l call k c h = ap (λ (all : List Call). slice_get all k) (calls_grown l (call ∷ [])) ∙ get_append_left (calls l) (call ∷ []) k c h

pub call_there : (cs : List Call) (k : ℕ) (tx : TxId) → slice_get (map (λ (c : Call). c.tx) cs) k ≡ Some tx → (c : Call) × (slice_get cs k ≡ Some c)
call_there [] k tx h = absurd (cc)
call_there (c ∷ cs) zero tx h = (c, refl)
call_there (c ∷ cs) (suc k) tx h = call_there cs k tx h

pub grown_runs : (l : Listing) (call : Call) (task : TaskId) (tx : TxId) → slice_get (tasks l) task.0 ≡ Some tx → slice_get (tasks (grown l (call ∷ []))) task.0 ≡ Some tx
grown_runs l call task tx h =
    let c = call_there (calls l) task.0 tx h in
    let there = map_get (λ (k : Call). k.tx) (calls (grown l (call ∷ []))) task.0 c.0 (grown_calls l call task.0 c.0 c.1) in
    there ∙ (sym (map_get (λ (k : Call). k.tx) (calls l) task.0 c.0 c.1) ∙ h)

pub grown_given : (l : Listing) (call : Call) (task : TaskId) (tx : TxId) → slice_get (tasks l) task.0 ≡ Some tx → task_arguments (grown l (call ∷ [])) task ≡ task_arguments l task
grown_given l call task tx h =
    let c = call_there (calls l) task.0 tx h in
    let of : Call → List ℤ = λ (k : Call). k.arguments in
    get_or_from_slice_get (map of (calls (grown l (call ∷ [])))) task.0 c.0.arguments [] (map_get of (calls (grown l (call ∷ []))) task.0 c.0 (grown_calls l call task.0 c.0 c.1))
    ∙ sym (get_or_from_slice_get (map of (calls l)) task.0 c.0.arguments [] (map_get of (calls l) task.0 c.0 c.1))

-- no turn changes which tasks there are
committed_catalogue : (b : BookView) (task : TaskId) → (committed b task).catalogue ≡ b.catalogue
unfolding committed
committed_catalogue b task = refl

short_catalogue : (due : Bool) (b : BookView) → (if due then checkpointed b else b).catalogue ≡ b.catalogue
short_catalogue true b = refl
short_catalogue false b = refl

pub ends_catalogue : (every : ℕ) (b new : BookView) (task : TaskId) (how : End) → Ends every b task how new → new.catalogue ≡ b.catalogue
ends_catalogue every b new task (end.Entered e) h =
    ap (λ (x : BookView). x.catalogue) h.kept ∙ (short_catalogue (is_due every (serial.Committed e.number) (committed b task)) (committed b task) ∙ committed_catalogue b task)
ends_catalogue every b new task end.Parked h = ap (λ (x : BookView). x.catalogue) h.2.2
ends_catalogue every b new task end.Abandoned h = ap (λ (x : BookView). x.catalogue) h.0.1

-- the open tasks once a call's own had its turn
called_open : (b : BookView) (call : Call) (task : TaskId) → task.0 ≡ length b.tasks → open_tasks (called_book b call.tx call.arguments task) ≡ set (open_tasks b ++ true ∷ []) task.0 true
called_open b call task at = map_set stays (b.tasks ++ Ready ∷ []) task.0 Running ∙ ap (λ (bs : List Bool). set bs task.0 true) (map_more stays b.tasks Ready)

pub run_open : (old new : Store) (call : Call) (job : Job) (how : End) → Runs old call.tx call.arguments job how new → open_tasks new.book ≡ set (open_tasks old.book ++ true ∷ []) job.task.0 (stays_open how)
run_open old new call job how h =
    ends_open old.every (called_book old.book call.tx call.arguments job.task) new.book job.task how (as_ends old.every (called_book old.book call.tx call.arguments job.task) new.book job.task how h.ends)
    ∙ (ap (λ (bs : List Bool). set bs job.task.0 (stays_open how)) (called_open old.book call job.task h.is_new.task)
    ∙ set_twice (open_tasks old.book ++ true ∷ []) job.task.0 true (stays_open how))

-- What is so of a store with a task more: it fits, and its tickets rise.
pub record IsCalled (old new : Store) (call : Call) (job : Job) (how : End) : Type 0 where
  pub catalogue : new.catalogue.now ≡ old.catalogue.now
  pub declared : declaring old.book.catalogue ≡ declaring old.catalogue.now
  pub fits : BookFits old.book
  pub each : length old.tickets.held ≡ length old.book.tasks
  pub tickets : AreTickets old.tickets
  pub runs : Runs old call.tx call.arguments job how new

many_open : (b : BookView) → length (open_tasks b) ≡ length b.tasks
many_open b = length-map b.tasks stays

-- A store with one task more: its call, its ticket, and whether it is open.
pub record IsMore (old new : Store) (call : Call) (task : TaskId) (ticket : Ticket) (is_open : Bool) : Type 0 where
  pub catalogue : new.catalogue.now ≡ old.catalogue.now
  pub each : length old.tickets.held ≡ length old.book.tasks
  pub rise : AreTickets old.tickets
  pub last : task.0 ≡ length old.book.tasks
  pub next : ticket.0 ≡ old.tickets.given
  pub room : old.tickets.given < most_tickets
  pub tickets : new.tickets ≡ with_next old.tickets
  pub open_now : open_tasks new.book ≡ set (open_tasks old.book ++ true ∷ []) task.0 is_open
  pub listing : new.book.catalogue ≡ grown old.book.catalogue (call ∷ [])

called_more : (old new : Store) (call : Call) (job : Job) (how : End) → IsCalled old new call job how → IsMore old new call job.task job.ticket (stays_open how)
called_more old new call job how c =
    record {
      catalogue = c.catalogue;
      each = c.each;
      rise = c.tickets;
      last = c.runs.is_new.task;
      next = c.runs.is_new.ticket;
      room = c.runs.room.1;
      tickets = c.runs.tickets;
      open_now = run_open old new call job how c.runs;
      listing = ends_catalogue old.every (called_book old.book call.tx call.arguments job.task) new.book job.task how c.runs.ends;
    }

pub here_now : (old new : Store) (call : Call) (task : TaskId) (ticket : Ticket) (is_open : Bool) → IsMore old new call task ticket is_open → HasTicket new.tickets task ticket
here_now old new call task ticket is_open c =
    let at : task.0 ≡ length old.tickets.held = c.last ∙ sym c.each in
    subst (λ (t : TicketsView). slice_get t.held task.0 ≡ Some ticket.0) (sym c.tickets)
    (get_end old.tickets.held old.tickets.given task.0 at ∙ ap Some (sym c.next))

pub new_tickets : (old new : Store) (call : Call) (task : TaskId) (ticket : Ticket) (is_open : Bool) → IsMore old new call task ticket is_open → AreTickets new.tickets
new_tickets old new call task ticket is_open c = subst AreTickets (sym c.tickets) (tickets_more old.tickets c.rise c.room)

-- a task of before is none of the call's
away : (old : Store) (one task : TaskId) (b : Bool) → one.0 ≡ length old.book.tasks → slice_get (open_tasks old.book) task.0 ≡ Some b → task.0 ≢ one.0
away old one task b at h same = absurd (omega (arith, slice_get_within (open_tasks old.book) task.0 b h, many_open old.book, at, same))

pub more_stays : (old new : Store) (call : Call) (task : TaskId) (ticket : Ticket) (is_open : Bool) → IsMore old new call task ticket is_open → StaysBut old new ticket
more_stays old new call task ticket is_open c =
    let flags = open_tasks old.book ++ true ∷ [] in
    record {
      catalogue = c.catalogue;
      all_open = λ other made apart h.
          let k = h.has.task in
          record {
            has = record {
              task = k;
              own = subst (λ (t : TicketsView). slice_get t.held k.0 ≡ Some other.0) (sym c.tickets) (get_append_left old.tickets.held (old.tickets.given ∷ []) k.0 other.0 h.has.own);
              is_open = ap (λ (bs : List Bool). slice_get bs k.0) c.open_now
                  ∙ (get_set_other flags task.0 k.0 is_open (away old task k true c.last h.has.is_open)
                  ∙ get_append_left (open_tasks old.book) (true ∷ []) k.0 true h.has.is_open);
            };
            runs = ap (λ (l : Listing). slice_get (tasks l) k.0) c.listing ∙ grown_runs old.book.catalogue call k made.tx h.runs;
            given = ap (λ (l : Listing). task_arguments l k) c.listing ∙ (grown_given old.book.catalogue call k made.tx h.runs ∙ h.given);
          };
      over = λ other h. record {
        given = subst (λ (t : TicketsView). other.0 < t.given) (sym c.tickets) (omega (arith, h.given));
        ended = λ o. back other h o;
      };
      over_before = λ other apart h. record {
        given = low other apart (subst (λ (t : TicketsView). other.0 < t.given) c.tickets h.given);
        ended = λ o. h.ended (on other o);
      };
    }
  where
    low : (other : Ticket) → other.0 ≢ ticket.0 → other.0 < old.tickets.given + 1 → other.0 < old.tickets.given
    low other apart less = elim (cases_lt other.0 old.tickets.given) [
      | inl below ↦ below
      | inr not ↦
          let same : other.0 ≡ old.tickets.given = omega (arith, less, not) in
          absurd (apart (same ∙ sym c.next))
    ]

    on : (other : Ticket) → HasOpen old other → HasOpen new other
    on other o = record {
      task = o.task;
      own = subst (λ (t : TicketsView). slice_get t.held o.task.0 ≡ Some other.0) (sym c.tickets) (get_append_left old.tickets.held (old.tickets.given ∷ []) o.task.0 other.0 o.own);
      is_open = ap (λ (bs : List Bool). slice_get bs o.task.0) c.open_now
          ∙ (get_set_other (open_tasks old.book ++ true ∷ []) task.0 o.task.0 is_open (away old task o.task true c.last o.is_open)
          ∙ get_append_left (open_tasks old.book) (true ∷ []) o.task.0 true o.is_open);
    }

    back : (other : Ticket) → IsOver old other → HasOpen new other → ⊥
    back other h o =
        let at : slice_get (old.tickets.held ++ old.tickets.given ∷ []) o.task.0 ≡ Some other.0 = subst (λ (t : TicketsView). slice_get t.held o.task.0 ≡ Some other.0) c.tickets o.own in
        elim (get_more old.tickets.held old.tickets.given o.task.0 other.0 at) [
          | inl there ↦
              let low : o.task.0 ≢ task.0 = λ same. absurd (omega (arith, slice_get_within old.tickets.held o.task.0 other.0 there, c.each, c.last, same)) in
              let set_is : slice_get (set (open_tasks old.book ++ true ∷ []) task.0 is_open) o.task.0 ≡ Some true = subst (λ (bs : List Bool). slice_get bs o.task.0 ≡ Some true) c.open_now o.is_open in
              let flag = sym (get_set_other (open_tasks old.book ++ true ∷ []) task.0 o.task.0 is_open low) ∙ set_is in
              elim (get_more (open_tasks old.book) true o.task.0 true flag) [
                | inl is ↦ h.ended (record { task = o.task; own = there; is_open = is })
                | inr is ↦ low (is.0 ∙ (many_open old.book ∙ sym c.last))
              ]
          | inr last ↦ absurd (omega (arith, h.given, last.1))
        ]

pub called_stays : (old new : Store) (call : Call) (job : Job) (how : End) → IsCalled old new call job how → StaysBut old new job.ticket
called_stays old new call job how c = more_stays old new call job.task job.ticket (stays_open how) (called_more old new call job how c)

pub called_was : (old new : Store) (call : Call) (job : Job) (how : End) → IsCalled old new call job how → IsOver old job.ticket → ⊥
called_was old new call job how c h = absurd (omega (arith, h.given, c.runs.is_new.ticket))

called_ends : (old new : Store) (call : Call) (job : Job) (how : End) → stays_open how ≡ false → IsCalled old new call job how → IsOver new job.ticket
called_ends old new call job how closed c =
    let m = called_more old new call job how c in
    let tickets = new_tickets old new call job.task job.ticket (stays_open how) m in
    let own = here_now old new call job.task job.ticket (stays_open how) m in
    record {
      given = ticket_given new.tickets job.task.0 job.ticket.0 tickets own;
      ended = λ o.
          let same : o.task.0 ≡ job.task.0 = one_of new.tickets.held tickets.ascending o.task.0 job.task.0 job.ticket.0 o.own own in
          let flags = open_tasks old.book ++ true ∷ [] in
          let is : slice_get (set flags job.task.0 false) job.task.0 ≡ Some true =
          subst (λ (k : ℕ). slice_get (set flags job.task.0 false) k ≡ Some true) same
          (subst (λ (b : Bool). slice_get (set flags job.task.0 b) o.task.0 ≡ Some true) closed
          (subst (λ (bs : List Bool). slice_get bs o.task.0 ≡ Some true) (run_open old new call job how c.runs) o.is_open)) in
          closed_set flags job.task.0 is;
    }

pub call_enters : (old new : Store) (call : Call) (job : Job) (e : Entered) → IsCalled old new call job (end.Entered e) → HasBecome old new job.ticket (became.Entered call e.outcome)
call_enters old new call job e c =
    let b = called_book old.book call.tx call.arguments job.task in
    let runs = submitted_runs old.book call job.task c.fits c.runs.is_new.task in
    let given = submitted_given old.book call job.task c.fits c.runs.is_new.task in
    record {
      stays = called_stays old new call job (end.Entered e) c;
      not_before = called_was old new call job (end.Entered e) c;
      is_over = called_ends old new call job (end.Entered e) refl c;
      lawful = entered_lawful old.catalogue.now old.every b new.book job.task call e c.declared runs given c.runs.ends;
      present = entered_state old.catalogue.now old.every b new.book job.task call e c.declared runs given c.runs.ends;
    }

pub call_abandons : (old new : Store) (call : Call) (job : Job) → IsCalled old new call job end.Abandoned → HasBecome old new job.ticket became.Left
call_abandons old new call job c =
    record {
      stays = called_stays old new call job end.Abandoned c;
      not_before = called_was old new call job end.Abandoned c;
      is_over = called_ends old new call job end.Abandoned refl c;
      lawful = tt;
      present = ap (λ (b : BookView). b.present.state) c.runs.ends.0.1;
    }

-- its transaction takes memory
pub call_memory : (old new : Store) (call : Call) (job : Job) → IsCalled old new call job end.Abandoned → length old.book.catalogue.initial ≡ length old.catalogue.now.initial → TakesMemory old.catalogue.now call.tx
call_memory old new call job c wide =
    let l = (called_book old.book call.tx call.arguments job.task).catalogue in
    let of : task_tx l job.task ≡ call.tx = get_or_from_slice_get (tasks l) job.task.0 call.tx (record { 0 = 0 }) (submitted_runs old.book call job.task c.fits c.runs.is_new.task) in
    memory_same l old.catalogue.now call.tx c.declared wide (subst (TakesMemory l) of c.runs.ends.1)

-- a task more that is open makes the call
pub more_open : (old new : Store) (call : Call) (task : TaskId) (ticket : Ticket) → BookFits old.book → IsMore old new call task ticket true → HasOpenCall new ticket call
more_open old new call task ticket fits c =
    let flags = open_tasks old.book ++ true ∷ [] in
    let last : task.0 ≡ length (open_tasks old.book) = c.last ∙ sym (many_open old.book) in
    record {
      has = record {
        task = task;
        own = here_now old new call task ticket true c;
        is_open = ap (λ (bs : List Bool). slice_get bs task.0) c.open_now ∙ set_there flags task.0 true (get_end (open_tasks old.book) true task.0 last);
      };
      runs = ap (λ (l : Listing). slice_get (tasks l) task.0) c.listing ∙ submitted_runs old.book call task fits c.last;
      given = ap (λ (l : Listing). task_arguments l task) c.listing ∙ submitted_given old.book call task fits c.last;
    }
  where
    set_there : (xs : List Bool) (i : ℕ) (v : Bool) → slice_get xs i ≡ Some v → slice_get (set xs i v) i ≡ Some v
    set_there [] i v h = absurd (cc)
    set_there (x ∷ xs) zero v h = refl
    set_there (x ∷ xs) (suc i) v h = set_there xs i v h

-- so is the task of a call that retries
pub call_stays : (old new : Store) (call : Call) (job : Job) → IsCalled old new call job end.Parked → HasStayed old new job.ticket call
call_stays old new call job c =
    record {
      stays = called_stays old new call job end.Parked c;
      is_open = more_open old new call job.task job.ticket c.fits (called_more old new call job end.Parked c);
      present = ap (λ (b : BookView). b.present.state) c.runs.ends.2.2;
    }

-- and none runs that did not
pub call_running : (old new : Store) (call : Call) (job : Job) (how : End) (k : ℕ) → IsCalled old new call job how → RunsAt new k → RunsAt old k
call_running old new call job how k c runs =
    let b = called_book old.book call.tx call.arguments job.task in
    let e = ends_running old.every b new.book job.task how k (as_ends old.every b new.book job.task how c.runs.ends) runs in
    let once : slice_get (set (old.book.tasks ++ Ready ∷ []) job.task.0 e.0) k ≡ Some Running =
    subst (λ (ts : List Task). slice_get ts k ≡ Some Running) (set_twice (old.book.tasks ++ Ready ∷ []) job.task.0 Running e.0) e.2 in
    elim (get_more old.book.tasks Ready k Running (not_set (old.book.tasks ++ Ready ∷ []) job.task.0 k e.0 Running (λ same. e.1 (sym same)) once)) [
      | inl there ↦ there
      | inr last ↦ absurd (cc (last.1))
    ]

-- for each that does a call waits, whoever more does so
pub more_held : (old new : Store) (k t : ℕ) → new.tickets ≡ with_next old.tickets → length old.tickets.held ≡ length old.book.tasks → RunsAt old k → slice_get new.tickets.held k ≡ Some t → slice_get old.tickets.held k ≡ Some t
more_held old new k t is each runs held = elim (get_more old.tickets.held old.tickets.given k t (subst (λ (x : TicketsView). slice_get x.held k ≡ Some t) is held)) [
  | inl there ↦ there
  | inr last ↦ absurd (omega (arith, slice_get_within old.book.tasks k Running runs, each, last.0))
]

pub call_awaited : (old new : Store) (w v : Waiters) (call : Call) (job : Job) (how : End) → IsCalled old new call job how → ((t : ℕ) → waiting_at w t ≢ None → waiting_at v t ≢ None) → AreAwaited old w → AreAwaited new v
call_awaited old new w v call job how c on all k t runs held =
    let was = call_running old new call job how k c runs in
    on t (all k t was (more_held old new k t c.runs.tickets c.each was held))

served_more : (ts : List Task) (i : ℕ) (t : Task) → (t ≡ Ready → ⊥) → ((k : ℕ) → slice_get ts k ≡ Some Ready → ⊥) → (k : ℕ) → slice_get (set (set (ts ++ Ready ∷ []) i Running) i t) k ≡ Some Ready → i ≡ length ts → ⊥
served_more ts i t apart served k h at =
    let once : slice_get (set (ts ++ Ready ∷ []) i t) k ≡ Some Ready = subst (λ (us : List Task). slice_get us k ≡ Some Ready) (set_twice (ts ++ Ready ∷ []) i Running t) h in
    elim (get_more ts Ready k Ready (not_set (ts ++ Ready ∷ []) i k t Ready apart once)) [
      | inl there ↦ served k there
      | inr last ↦
          let here : slice_get (set (ts ++ Ready ∷ []) i t) i ≡ Some Ready = subst (λ (n : ℕ). slice_get (set (ts ++ Ready ∷ []) i t) n ≡ Some Ready) (last.0 ∙ sym at) once in
          apart (same_Some t Ready (sym (set_here (ts ++ Ready ∷ []) i t Ready (get_end ts Ready i at)) ∙ here))
    ]
  where
    set_here : (xs : List Task) (i : ℕ) (v w : Task) → slice_get xs i ≡ Some w → slice_get (set xs i v) i ≡ Some v
    set_here [] i v w h = absurd (cc)
    set_here (x ∷ xs) zero v w h = refl
    set_here (x ∷ xs) (suc i) v w h = set_here xs i v w h

-- nor is any ready that was not, where it is not entered
pub call_served : (old new : Store) (call : Call) (job : Job) (how : End) → IsCalled old new call job how → ((e : Entered) → how ≡ end.Entered e → ⊥) → IsServed old → IsServed new
call_served old new call job (end.Entered e) c apart served k ready = absurd (apart e refl)
call_served old new call job end.Parked c apart served k ready =
    served_more old.book.tasks job.task.0 (Parked c.runs.ends.2.0) (λ same. cc (same)) served k
    (subst (λ (x : BookView). slice_get x.tasks k ≡ Some Ready) c.runs.ends.2.2 ready) c.runs.is_new.task
call_served old new call job end.Abandoned c apart served k ready =
    served_more old.book.tasks job.task.0 GivenUp (λ same. cc (same)) served k
    (subst (λ (x : BookView). slice_get x.tasks k ≡ Some Ready) c.runs.ends.0.1 ready) c.runs.is_new.task

-- what the store tells of a call that was made
pub is_called : (old new : Store) (call : Call) (given : List ℤ) (job : Job) (how : End) → given ≡ call.arguments → declaring old.book.catalogue ≡ declaring old.catalogue.now → BookFits old.book → length old.tickets.held ≡ length old.book.tasks → AreTickets old.tickets → KeepsStore old new → Runs old call.tx given job how new → IsCalled old new call job how
is_called old new call given job how same declared fits each tickets kept runs =
    record {
      catalogue = kept.catalogue;
      declared = declared;
      fits = fits;
      each = each;
      tickets = tickets;
      runs = subst (λ (xs : List ℤ). Runs old call.tx xs job how new) same runs;
    }

-- there is one task more
pub one_more : (old new : Store) (call : Call) (job : Job) (how : End) → IsCalled old new call job how → IsOneMore old new
one_more old new call job how c = ap (λ (t : TicketsView). t.given) c.runs.tickets

-- its task has the next ticket
pub next_is : (old new : Store) (call : Call) (job : Job) (how : End) → IsCalled old new call job how → job.ticket ≡ next_ticket old
next_is old new call job how c = ap (λ (n : ℕ). let t : Ticket = record { 0 = n } in t) c.runs.is_new.ticket

-- its entry is the next one
pub number_is : (old new : Store) (call : Call) (job : Job) (e : Entered) → IsCalled old new call job (end.Entered e) → e.number ≡ old.book.present.number + 1
number_is old new call job e c = c.runs.ends.tells.number

-- the task of one that retries is parked
pub call_parked : (old new : Store) (call : Call) (job : Job) → IsCalled old new call job end.Parked → IsParkedCall new job.ticket call
call_parked old new call job c =
    let own = here_now old new call job.task job.ticket true (called_more old new call job end.Parked c) in
    let ts = set (old.book.tasks ++ Ready ∷ []) job.task.0 Running in
    let log = c.runs.ends.2.0 in
    let inside : slice_get (old.book.tasks ++ Ready ∷ []) job.task.0 ≡ Some Ready = get_end old.book.tasks Ready job.task.0 c.runs.is_new.task in
    record {
      task = job.task;
      own = own;
      runs = ap (λ (l : Listing). slice_get (tasks l) job.task.0) (ends_catalogue old.every (called_book old.book call.tx call.arguments job.task) new.book job.task end.Parked c.runs.ends) ∙ submitted_runs old.book call job.task c.fits c.runs.is_new.task;
      given = ap (λ (l : Listing). task_arguments l job.task) (ends_catalogue old.every (called_book old.book call.tx call.arguments job.task) new.book job.task end.Parked c.runs.ends) ∙ submitted_given old.book call job.task c.fits c.runs.is_new.task;
      parked = (
        log,
        ap (λ (b : BookView). slice_get b.tasks job.task.0) c.runs.ends.2.2
            ∙ set_at ts job.task.0 (Parked log) Running (set_at (old.book.tasks ++ Ready ∷ []) job.task.0 Running Ready inside),
      );
    }
  where
    set_at : (xs : List Task) (i : ℕ) (v w : Task) → slice_get xs i ≡ Some w → slice_get (set xs i v) i ≡ Some v
    set_at [] i v w h = absurd (cc)
    set_at (x ∷ xs) zero v w h = refl
    set_at (x ∷ xs) (suc i) v w h = set_at xs i v w h
