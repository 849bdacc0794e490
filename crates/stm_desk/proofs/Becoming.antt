-- What becomes of a task by its turn, or where it is given up.
use Rattle.std.proofs.Common.{◌≡◌, ◌≢◌, ◌∙◌, ◌⊎◌, inl, inr, ℕ, zero, suc, ◌+◌, ◌*◌, ◌<◌, ℤ, Bool, true, false, if◌then◌else◌, List, [], ◌∷◌, Some, None, Ok, Err, length, map, set, refl, sym, ap, subst, arith}
use Rattle.std.specs.List.{slice_get}
use Rattle.std.proofs.lemmas.Option.{get_or_from_slice_get, same_Some, slice_get_within}
use Rattle.txn_programs.specs.declared.ast.TaskId.{TaskId}
use Rattle.txn_programs.specs.declared.ast.TxId.{TxId}
use Rattle.txn_programs.specs.declared.arguments.Call.{Call}
use Rattle.txn_programs.specs.Meaning.{State, outcome, after}
use Rattle.txn_programs.specs.Tree.{Program}
use Rattle.txn_programs.specs.Standing.{Upholds}
use Rattle.txn_programs.specs.Listing.{Listing, tasks, task_tx, task_arguments, call_program, program_at, task_program}
use Rattle.txn_programs.specs.Replay.{applied}
use Rattle.book.specs.View.{BookView, IsRunning, checkpointed, committed, names_changed, stands, woken}
use Rattle.book.specs.Tasks.{Task, Ready, Running, Parked, Done, GivenUp}
use Rattle.book.specs.Table.{IsWaiting}
use Rattle.book.specs.Carrying.{stays}
use Rattle.book.specs.LawfulBook.{LawfulBook}
use Rattle.book.specs.Turns.{Taken, Turn, is_due}
use Rattle.book.proofs.Draining.{live_one, ready_one, turn_falls, weigh, weigh-set, weight_of}
use Rattle.std.proofs.lemmas.List.{length-set}
use Rattle.std.proofs.Math.Logic.{∥∥₁_elim}
use Rattle.book.specs.declared.task.Serial.TheVariants as serial
use Rattle.attempt.specs.Room.{NeedsNoMemory, TakesMemory}
use Rattle.attempt.specs.View.{AttemptView}
use Rattle.stm_store.specs.Tickets.{TicketsView, AreTickets, HasTicket}
use Rattle.stm_store.specs.Working.{declaring}
use Rattle.stm_store.specs.Entering.{Enters}
use Rattle.stm_store.specs.Asking.{GivesUp, IsJob, IsPresentJob, IsUnchanged, TakesJob}
use Rattle.stm_store.specs.Keeping.{KeepsStore, KeepsTasks}
use Rattle.stm_store.specs.Bringing.{Judged}
use Rattle.stm_store.specs.Turning.{Ends, HasTurn}
use Rattle.stm_store.specs.declared.job.Ticket.{Ticket}
use Rattle.stm_store.specs.declared.job.Job.{Job}
use Rattle.stm_store.specs.declared.answers.Entered.{Entered}
use Rattle.stm_store.specs.declared.answers.End.{End}
use Rattle.stm_store.specs.declared.answers.End.TheVariants as end
use Rattle.stm_store.specs.declared.store.Store.{Store}
use Rattle.stm_store.proofs.Rising.{one_of}
use Rattle.stm_store.specs.declared.answers.Refused.{Refused}
use Rattle.stm_store.specs.declared.answers.Refused.TheVariants as refused
use Rattle.stm_desk.specs.declared.answers.Became.{Became}
use Rattle.stm_desk.specs.declared.answers.Became.TheVariants as became
use Rattle.stm_desk.specs.Asking.{IsServed, call_of}
use Rattle.stm_desk.specs.History.{IsLawful, IsLawfulEntry, left_by}
use Rattle.stm_desk.specs.Open.{HasOpen, HasOpenCall, IsOver, IsParkedCall, IsRunningCall, open_tasks}
use Rattle.stm_desk.specs.Running.{RunsAt}
use Rattle.stm_desk.specs.Steps.{HasBecome, StaysBut}
use Rattle.stm_desk.proofs.Flags.{AsEnds, as_ends, back_set, closed_set, ends_open, get_set_other, not_set, open_at, open_stands, set_same, short_state, stays_open}

-- what declares the same has the same programs
pub same_program : (a l : Listing) (call : Call) → declaring a ≡ declaring l → call_program a call.tx call.arguments ≡ call_program l call.tx call.arguments
same_program a l call e = ap (λ (x : Listing). call_program x call.tx call.arguments) e

-- and the same standing conditions
pub same_upheld : (a l : Listing) (m : State) → declaring a ≡ declaring l → Upholds a m → Upholds l m
same_upheld a l m e h = subst (λ (x : Listing). Upholds x m) e h

-- each ticket was given
pub ticket_given : (t : TicketsView) (k n : ℕ) → AreTickets t → slice_get t.held k ≡ Some n → n < t.given
ticket_given t k n h at =
    subst (λ (m : ℕ). m < t.given) (get_or_from_slice_get t.held k n 0 at) (h.below k 0 (slice_get_within t.held k n at))

committed_state : (b : BookView) (task : TaskId) → (committed b task).present.state ≡ after (task_program b.catalogue task) b.present.state
unfolding committed applied
committed_state b task = refl

-- the program of the task that makes a call
pub program_is : (l : Listing) (b : BookView) (task : TaskId) (call : Call) → declaring b.catalogue ≡ declaring l → slice_get (tasks b.catalogue) task.0 ≡ Some call.tx → task_arguments b.catalogue task ≡ call.arguments → task_program b.catalogue task ≡ call_program l call.tx call.arguments
program_is l b task call declared runs given =
    let of : task_tx b.catalogue task ≡ call.tx = get_or_from_slice_get (tasks b.catalogue) task.0 call.tx (record { 0 = 0 }) runs in
    ap (λ (tx : TxId). call_program b.catalogue tx (task_arguments b.catalogue task)) of ∙ (ap (call_program b.catalogue call.tx) given ∙ same_program b.catalogue l call declared)

-- the present state after an entry
pub entered_state : (l : Listing) (every : ℕ) (b new : BookView) (task : TaskId) (call : Call) (e : Entered) → declaring b.catalogue ≡ declaring l → slice_get (tasks b.catalogue) task.0 ≡ Some call.tx → task_arguments b.catalogue task ≡ call.arguments → Enters every b task e new
    → new.present.state ≡ after (call_program l call.tx call.arguments) b.present.state
entered_state l every b new task call e declared runs given h =
    ap (λ (x : BookView). x.present.state) h.kept
    ∙ (short_state every (serial.Committed e.number) (committed b task)
    ∙ (committed_state b task ∙ ap (λ (p : Program). after p b.present.state) (program_is l b task call declared runs given)))

committed_upheld : (b : BookView) (task : TaskId) → LawfulBook (committed b task) → Upholds b.catalogue (committed b task).present.state
unfolding committed
committed_upheld b task h = h.upheld.1

-- an entry is lawful
pub entered_lawful : (l : Listing) (every : ℕ) (b new : BookView) (task : TaskId) (call : Call) (e : Entered) → declaring b.catalogue ≡ declaring l → slice_get (tasks b.catalogue) task.0 ≡ Some call.tx → task_arguments b.catalogue task ≡ call.arguments → Enters every b task e new
    → IsLawfulEntry l b.present.state call e.outcome
entered_lawful l every b new task call e declared runs given h =
    let m = b.present.state in
    let same : task_program b.catalogue task ≡ call_program l call.tx call.arguments = program_is l b task call declared runs given in
    let upheld : Upholds b.catalogue (committed b task).present.state = committed_upheld b task h.lawful_after in
    let told : e.outcome ≡ outcome (task_program b.catalogue task) m = h.tells.outcome in
    record {
      outcome_is = told ∙ ap (λ (p : Program). outcome p m) same;
      ends = λ is. h.ends (sym told ∙ is);
      upheld = subst (λ (x : State). Upholds l x) (committed_state b task ∙ ap (λ (p : Program). after p m) same) (same_upheld b.catalogue l (committed b task).present.state declared upheld);
    }

-- Where one task changed, which has the ticket and was open.
pub record IsChange (old new : Store) (ticket : Ticket) (task : TaskId) (is_open : Bool) : Type 0 where
  pub kept : KeepsTasks old new
  pub tickets : AreTickets old.tickets
  pub own : HasTicket old.tickets task ticket
  pub was_open : slice_get (open_tasks old.book) task.0 ≡ Some true
  pub open_now : open_tasks new.book ≡ set (open_tasks old.book) task.0 is_open

moved : (old new : Store) (task : TaskId) (ticket : Ticket) → new.tickets ≡ old.tickets → HasTicket new.tickets task ticket → HasTicket old.tickets task ticket
moved old new task ticket same h = subst (λ (t : TicketsView). HasTicket t task ticket) same h

moved_back : (old new : Store) (task : TaskId) (ticket : Ticket) → new.tickets ≡ old.tickets → HasTicket old.tickets task ticket → HasTicket new.tickets task ticket
moved_back old new task ticket same h = subst (λ (t : TicketsView). HasTicket t task ticket) (sym same) h

same_task : (t : TicketsView) (ticket : Ticket) (a b : TaskId) → AreTickets t → HasTicket t a ticket → HasTicket t b ticket → a.0 ≡ b.0
same_task t ticket a b h p q = one_of t.held h.ascending a.0 b.0 ticket.0 p q

-- no two tasks have one ticket
pub same_held : (t : TicketsView) (k i m n : ℕ) → AreTickets t → slice_get t.held k ≡ Some m → slice_get t.held i ≡ Some n → m ≡ n → k ≡ i
same_held t k i m n h p q same = one_of t.held h.ascending k i m p (q ∙ ap Some (sym same))

pub change_stays : (old new : Store) (ticket : Ticket) (task : TaskId) (is_open : Bool) → IsChange old new ticket task is_open → StaysBut old new ticket
change_stays old new ticket task is_open c =
    record {
      catalogue = c.kept.store.catalogue;
      all_open = λ other call apart h.
          let away : h.has.task.0 ≢ task.0 = λ same. apart (same_ticket old.tickets other ticket h.has.task task same h.has.own c.own) in
          record {
            has = record {
              task = h.has.task;
              own = moved_back old new h.has.task other c.kept.tickets h.has.own;
              is_open = ap (λ (bs : List Bool). slice_get bs h.has.task.0) c.open_now ∙ (get_set_other (open_tasks old.book) task.0 h.has.task.0 is_open away ∙ h.has.is_open);
            };
            runs = ap (λ (l : Listing). slice_get (tasks l) h.has.task.0) c.kept.listing ∙ h.runs;
            given = ap (λ (l : Listing). task_arguments l h.has.task) c.kept.listing ∙ h.given;
          };
      over = λ other h. record {
        given = subst (λ (t : TicketsView). other.0 < t.given) (sym c.kept.tickets) h.given;
        ended = λ o. h.ended (record {
          task = o.task;
          own = moved old new o.task other c.kept.tickets o.own;
          is_open = back_set (open_tasks old.book) task.0 o.task.0 is_open c.was_open (subst (λ (bs : List Bool). slice_get bs o.task.0 ≡ Some true) c.open_now o.is_open);
        });
      };
      over_before = λ other apart h. record {
        given = subst (λ (t : TicketsView). other.0 < t.given) c.kept.tickets h.given;
        ended = λ o.
            let away : o.task.0 ≢ task.0 = λ same. apart (same_ticket old.tickets other ticket o.task task same o.own c.own) in
            h.ended (record {
              task = o.task;
              own = moved_back old new o.task other c.kept.tickets o.own;
              is_open = ap (λ (bs : List Bool). slice_get bs o.task.0) c.open_now ∙ (get_set_other (open_tasks old.book) task.0 o.task.0 is_open away ∙ o.is_open);
            });
      };
    }
  where
    same_ticket : (t : TicketsView) (one other : Ticket) (a b : TaskId) → a.0 ≡ b.0 → HasTicket t a one → HasTicket t b other → one.0 ≡ other.0
    same_ticket t one other a b same p q = same_Some one.0 other.0 (sym p ∙ (ap (slice_get t.held) same ∙ q))

pub change_ends : (old new : Store) (ticket : Ticket) (task : TaskId) → IsChange old new ticket task false → IsOver new ticket
change_ends old new ticket task c =
    record {
      given = subst (λ (t : TicketsView). ticket.0 < t.given) (sym c.kept.tickets) (ticket_given old.tickets task.0 ticket.0 c.tickets c.own);
      ended = λ o.
          let here : o.task.0 ≡ task.0 = same_task old.tickets ticket o.task task c.tickets (moved old new o.task ticket c.kept.tickets o.own) c.own in
          closed_set (open_tasks old.book) task.0 (subst (λ (k : ℕ). slice_get (set (open_tasks old.book) task.0 false) k ≡ Some true) here (subst (λ (bs : List Bool). slice_get bs o.task.0 ≡ Some true) c.open_now o.is_open));
    }

pub change_was : (old new : Store) (ticket : Ticket) (task : TaskId) (is_open : Bool) → IsChange old new ticket task is_open → IsOver old ticket → ⊥
change_was old new ticket task is_open c h = h.ended (record { task = task; own = c.own; is_open = c.was_open })

-- What a turn leaves of the running task of a job, whichever way it was given.
pub record Goes (old new : Store) (job : Job) (how : End) : Type 0 where
  pub kept : KeepsTasks old new
  pub tickets : AreTickets old.tickets
  pub declared : declaring old.book.catalogue ≡ declaring old.catalogue.now
  pub is_job : IsJob old job
  pub running : IsRunning old.book job.task
  pub ends : AsEnds old.every old.book job.task how new.book

pub turn_goes : (old new : Store) (job : Job) (how : End) → KeepsTasks old new → AreTickets old.tickets → declaring old.book.catalogue ≡ declaring old.catalogue.now → HasTurn old job (Ok how) new → Goes old new job how
turn_goes old new job how kept tickets declared h =
    record {
      kept = kept;
      tickets = tickets;
      declared = declared;
      is_job = h.0.0;
      running = h.1;
      ends = as_ends old.every old.book new.book job.task how h.2;
    }

-- an attempt that was brought
pub judged_ends : (every : ℕ) (b new : BookView) (task : TaskId) (a : AttemptView) (how : End) → IsRunning b task → Judged every b task a (Ok how) new → AsEnds every b task how new
judged_ends every b new task a (end.Entered e) runs h = h.1
judged_ends every b new task a end.Parked runs h = (a.log, h.3)
judged_ends every b new task a end.Abandoned runs h = absurd h

judged_runs : (every : ℕ) (b new : BookView) (task : TaskId) (a : AttemptView) (how : End) → Judged every b task a (Ok how) new → IsRunning b task
judged_runs every b new task a (end.Entered e) h = h.1.running
judged_runs every b new task a end.Parked h = h.0
judged_runs every b new task a end.Abandoned h = absurd h

pub brought_goes : (old new : Store) (a : AttemptView) (job : Job) (how : End) → KeepsTasks old new → AreTickets old.tickets → declaring old.book.catalogue ≡ declaring old.catalogue.now → IsPresentJob old job → Judged old.every old.book job.task a (Ok how) new.book → Goes old new job how
brought_goes old new a job how kept tickets declared present h =
    let runs = judged_runs old.every old.book new.book job.task a how h in
    record {
      kept = kept;
      tickets = tickets;
      declared = declared;
      is_job = present.0;
      running = runs;
      ends = judged_ends old.every old.book new.book job.task a how runs h;
    }

goes_change : (old new : Store) (job : Job) (how : End) → Goes old new job how → IsChange old new job.ticket job.task (stays_open how)
goes_change old new job how g =
    record {
      kept = g.kept;
      tickets = g.tickets;
      own = g.is_job.ticket;
      was_open = open_at old.book.tasks job.task.0 Running g.running refl;
      open_now = ends_open old.every old.book new.book job.task how g.ends;
    }

pub goes_enters : (old new : Store) (job : Job) (e : Entered) → Goes old new job (end.Entered e) → HasBecome old new job.ticket (became.Entered (call_of job) e.outcome)
goes_enters old new job e g =
    let c = goes_change old new job (end.Entered e) g in
    record {
      stays = change_stays old new job.ticket job.task false c;
      not_before = change_was old new job.ticket job.task false c;
      is_over = change_ends old new job.ticket job.task c;
      lawful = entered_lawful old.catalogue.now old.every old.book new.book job.task (call_of job) e g.declared g.is_job.runs g.is_job.given g.ends;
      present = entered_state old.catalogue.now old.every old.book new.book job.task (call_of job) e g.declared g.is_job.runs g.is_job.given g.ends;
    }

pub goes_abandons : (old new : Store) (job : Job) → Goes old new job end.Abandoned → HasBecome old new job.ticket became.Left
goes_abandons old new job g =
    let c = goes_change old new job end.Abandoned g in
    record {
      stays = change_stays old new job.ticket job.task false c;
      not_before = change_was old new job.ticket job.task false c;
      is_over = change_ends old new job.ticket job.task c;
      lawful = tt;
      present = ap (λ (b : BookView). b.present.state) g.ends;
    }

-- what a book that has the same tasks open does to what is said of them
pub record IsAlike (old new : Store) : Type 0 where
  pub kept : KeepsTasks old new
  pub open_now : open_tasks new.book ≡ open_tasks old.book
  pub present : new.book.present.state ≡ old.book.present.state

pub alike_open : (old new : Store) (ticket : Ticket) (call : Call) → IsAlike old new → HasOpenCall old ticket call → HasOpenCall new ticket call
alike_open old new ticket call a h =
    record {
      has = record {
        task = h.has.task;
        own = moved_back old new h.has.task ticket a.kept.tickets h.has.own;
        is_open = ap (λ (bs : List Bool). slice_get bs h.has.task.0) a.open_now ∙ h.has.is_open;
      };
      runs = ap (λ (l : Listing). slice_get (tasks l) h.has.task.0) a.kept.listing ∙ h.runs;
      given = ap (λ (l : Listing). task_arguments l h.has.task) a.kept.listing ∙ h.given;
    }

alike_back : (old new : Store) (ticket : Ticket) → IsAlike old new → HasOpen new ticket → HasOpen old ticket
alike_back old new ticket a o =
    record {
      task = o.task;
      own = moved old new o.task ticket a.kept.tickets o.own;
      is_open = subst (λ (bs : List Bool). slice_get bs o.task.0 ≡ Some true) a.open_now o.is_open;
    }

pub alike_over : (old new : Store) (ticket : Ticket) → IsAlike old new → IsOver old ticket → IsOver new ticket
alike_over old new ticket a h =
    record {
      given = subst (λ (t : TicketsView). ticket.0 < t.given) (sym a.kept.tickets) h.given;
      ended = λ o. h.ended (alike_back old new ticket a o);
    }

alike_on : (old new : Store) (ticket : Ticket) → IsAlike old new → HasOpen old ticket → HasOpen new ticket
alike_on old new ticket a o =
    record {
      task = o.task;
      own = moved_back old new o.task ticket a.kept.tickets o.own;
      is_open = ap (λ (bs : List Bool). slice_get bs o.task.0) a.open_now ∙ o.is_open;
    }

pub alike_was_over : (old new : Store) (ticket : Ticket) → IsAlike old new → IsOver new ticket → IsOver old ticket
alike_was_over old new ticket a h =
    record {
      given = subst (λ (t : TicketsView). ticket.0 < t.given) a.kept.tickets h.given;
      ended = λ o. h.ended (alike_on old new ticket a o);
    }

-- what becomes of a task behind it
pub become_after : (old mid new : Store) (ticket : Ticket) (what : Became) → IsAlike old mid → HasBecome mid new ticket what → HasBecome old new ticket what
become_after old mid new ticket what a h =
    let l = a.kept.store.catalogue in
    record {
      stays = record {
        catalogue = h.stays.catalogue ∙ l;
        all_open = λ other call apart o. h.stays.all_open other call apart (alike_open old mid other call a o);
        over = λ other o. h.stays.over other (alike_over old mid other a o);
        over_before = λ other apart o. alike_was_over old mid other a (h.stays.over_before other apart o);
      };
      not_before = λ o. h.not_before (alike_over old mid ticket a o);
      is_over = h.is_over;
      lawful = subst (λ (k : Listing). IsLawful k old.book.present.state what) l (subst (λ (m : State). IsLawful mid.catalogue.now m what) a.present h.lawful);
      present = h.present ∙ (ap (λ (k : Listing). left_by k mid.book.present.state what) l ∙ ap (λ (m : State). left_by old.catalogue.now m what) a.present);
    }

-- a task that was taken is open still
pub take_alike : (old new : Store) (job : Job) → KeepsTasks old new → TakesJob old (Ok job) new → IsAlike old new
take_alike old new job kept h =
    record {
      kept = kept;
      open_now = ap open_tasks h.0.2 ∙ (open_stands old.book job.task Running ∙ set_same (open_tasks old.book) job.task.0 true (open_at old.book.tasks job.task.0 Ready h.0.0 refl));
      present = ap (λ (b : BookView). b.present.state) h.0.2;
    }

-- so is one that is parked
pub goes_parks : (old new : Store) (job : Job) → Goes old new job end.Parked → IsAlike old new
goes_parks old new job g =
    let c = goes_change old new job end.Parked g in
    record {
      kept = g.kept;
      open_now = c.open_now ∙ set_same (open_tasks old.book) job.task.0 true c.was_open;
      present = ap (λ (b : BookView). b.present.state) g.ends.1;
    }

pub alike_both : (old mid new : Store) → IsAlike old mid → IsAlike mid new → IsAlike old new
alike_both old mid new a b =
    record {
      kept = record {
        store = record {
          catalogue = b.kept.store.catalogue ∙ a.kept.store.catalogue;
          cells = b.kept.store.cells ∙ a.kept.store.cells;
          workers = b.kept.store.workers ∙ a.kept.store.workers;
          every = b.kept.store.every ∙ a.kept.store.every;
          chapter = b.kept.store.chapter ∙ a.kept.store.chapter;
        };
        listing = b.kept.listing ∙ a.kept.listing;
        tickets = b.kept.tickets ∙ a.kept.tickets;
      };
      open_now = b.open_now ∙ a.open_now;
      present = b.present ∙ a.present;
    }

-- a task that is given up
unended_open : (ts : List Task) (k : ℕ) → (IsWaiting (slice_get ts k) ⊎ (slice_get ts k ≡ Some Running)) → slice_get (map stays ts) k ≡ Some true
unended_open ts k (inl (inl e)) = open_at ts k Ready e refl
unended_open ts k (inl (inr p)) = open_at ts k (Parked p.0) p.1 refl
unended_open ts k (inr e) = open_at ts k Running e refl

pub gives_up : (old new : Store) (ticket : Ticket) → KeepsTasks old new → AreTickets old.tickets → GivesUp old ticket (Ok tt) new → HasBecome old new ticket became.Left
gives_up old new ticket kept tickets h =
    let task = h.0 in
    let c : IsChange old new ticket task false = record {
      kept = kept;
      tickets = tickets;
      own = h.1;
      was_open = unended_open old.book.tasks task.0 h.2;
      open_now = ap open_tasks h.3 ∙ open_stands old.book task GivenUp;
    } in
    record {
      stays = change_stays old new ticket task false c;
      not_before = change_was old new ticket task false c;
      is_over = change_ends old new ticket task c;
      lawful = tt;
      present = ap (λ (b : BookView). b.present.state) h.3;
    }

-- a task that is open is no task that is over
pub open_unended : (ts : List Task) (k : ℕ) → slice_get (map stays ts) k ≡ Some true → (IsWaiting (slice_get ts k) ⊎ (slice_get ts k ≡ Some Running))
open_unended [] k e = absurd (cc)
open_unended (Ready ∷ ts) zero e = inl (inl refl)
open_unended (Running ∷ ts) zero e = inr refl
open_unended (Parked log ∷ ts) zero e = inl (inr (log, refl))
open_unended (Done n ∷ ts) zero e = absurd (cc)
open_unended (GivenUp ∷ ts) zero e = absurd (cc)
open_unended (t ∷ ts) (suc k) e = open_unended ts k e

pub open_gives_up : (old new : Store) (ticket : Ticket) (why : Refused) → ∥ HasOpen old ticket ∥₁ → GivesUp old ticket (Err why) new → ⊥
open_gives_up old new ticket refused.Gone o h = ∥∥₁_elim o (λ p q. absurd p) (λ (x : HasOpen old ticket). h.0 x.task x.own (open_unended old.book.tasks x.task.0 x.is_open))
open_gives_up old new ticket refused.Unknown o h = h
open_gives_up old new ticket refused.NotReady o h = h
open_gives_up old new ticket refused.NotRunning o h = h
open_gives_up old new ticket refused.NotEnded o h = h
open_gives_up old new ticket refused.OtherProgram o h = h
open_gives_up old new ticket refused.Stale o h = h
open_gives_up old new ticket refused.NoRoom o h = h
open_gives_up old new ticket refused.Retries o h = h
open_gives_up old new ticket refused.Memory o h = h
open_gives_up old new ticket refused.Closed o h = h
open_gives_up old new ticket refused.TimedOut o h = h

-- where none was taken, none is ready
pub takes_none : (old new : Store) (why : Refused) → TakesJob old (Err why) new → Taken old.book None new.book
takes_none old new refused.NotReady h = h
takes_none old new refused.Unknown h = absurd h
takes_none old new refused.Gone h = absurd h
takes_none old new refused.NotRunning h = absurd h
takes_none old new refused.NotEnded h = absurd h
takes_none old new refused.OtherProgram h = absurd h
takes_none old new refused.Stale h = absurd h
takes_none old new refused.NoRoom h = absurd h
takes_none old new refused.Retries h = absurd h
takes_none old new refused.Memory h = absurd h
takes_none old new refused.Closed h = absurd h
takes_none old new refused.TimedOut h = absurd h

-- a task that was taken has its turn
pub taken_turns : (old new : Store) (job : Job) (why : Refused) → IsPresentJob old job → IsRunning old.book job.task → HasTurn old job (Err why) new → ⊥
taken_turns old new job refused.Gone is runs h = h.0 is
taken_turns old new job refused.NotRunning is runs h = h.1 runs
taken_turns old new job refused.Unknown is runs h = h
taken_turns old new job refused.NotReady is runs h = h
taken_turns old new job refused.NotEnded is runs h = h
taken_turns old new job refused.OtherProgram is runs h = h
taken_turns old new job refused.Stale is runs h = h
taken_turns old new job refused.NoRoom is runs h = h
taken_turns old new job refused.Retries is runs h = h
taken_turns old new job refused.Memory is runs h = h
taken_turns old new job refused.Closed is runs h = h
taken_turns old new job refused.TimedOut is runs h = h

-- a task that is open, where none is ready, is parked or runs
pub parked_call : (s : Store) (ticket : Ticket) (call : Call) → IsServed s → HasOpenCall s ticket call → IsParkedCall s ticket call ⊎ IsRunningCall s ticket call
parked_call s ticket call served h = elim (open_unended s.book.tasks h.has.task.0 h.has.is_open) [
  | inl (inl ready) ↦ absurd (served h.has.task.0 ready)
  | inl (inr parked) ↦ inl (record { task = h.has.task; own = h.has.own; runs = h.runs; given = h.given; parked = parked })
  | inr running ↦ inr (record { has = h; running = running })
]

-- no withdrawal makes a task ready or running
given_up_not : (how : Task) (b new : BookView) (task : TaskId) → (GivenUp ≡ how → ⊥) → new ≡ stands b task GivenUp → ((k : ℕ) → slice_get b.tasks k ≡ Some how → ⊥) → (k : ℕ) → slice_get new.tasks k ≡ Some how → ⊥
given_up_not how b new task apart is none k h = none k (not_set b.tasks task.0 k GivenUp how apart (subst (λ (x : BookView). slice_get x.tasks k ≡ Some how) is h))

pub gives_up_served : (old new : Store) (ticket : Ticket) → GivesUp old ticket (Ok tt) new → IsServed old → IsServed new
gives_up_served old new ticket h = given_up_not Ready old.book new.book h.0 (λ e. cc (e)) h.3

-- a book that is as it was
pub none_alike : (old new : Store) → KeepsTasks old new → new.book ≡ old.book → IsAlike old new
none_alike old new kept is =
    record { kept = kept; open_now = ap open_tasks is; present = ap (λ (b : BookView). b.present.state) is }

pub present_on : (old new : Store) (job : Job) → KeepsTasks old new → IsPresentJob old job → IsPresentJob new job
present_on old new job kept is = (
  record {
    ticket = subst (λ (t : TicketsView). HasTicket t job.task job.ticket) (sym kept.tickets) is.0.ticket;
    runs = ap (λ (l : Listing). slice_get (tasks l) job.task.0) kept.listing ∙ is.0.runs;
    given = ap (λ (l : Listing). task_arguments l job.task) kept.listing ∙ is.0.given;
  },
  is.1 ∙ sym kept.store.chapter,
)

-- whoever waits for the task of a job made its call
pub same_call : (s : Store) (job : Job) (call : Call) → AreTickets s.tickets → IsJob s job → HasOpenCall s job.ticket call → call ≡ call_of job
same_call s job call tickets is o =
    let l = s.book.catalogue in
    let one : o.has.task.0 ≡ job.task.0 = one_of s.tickets.held tickets.ascending o.has.task.0 job.task.0 job.ticket.0 o.has.own is.ticket in
    let same : o.has.task ≡ job.task = ap (λ (k : ℕ). let t : TaskId = record { 0 = k } in t) one in
    let tx : call.tx ≡ job.tx = same_Some call.tx job.tx (sym o.runs ∙ (ap (slice_get (tasks l)) one ∙ is.runs)) in
    let given : call.arguments ≡ job.arguments = sym o.given ∙ (ap (task_arguments l) same ∙ is.given) in
    ap (λ (t : TxId). let c : Call = record { tx = t; arguments = call.arguments } in c) tx
    ∙ ap (λ (xs : List ℤ). let c : Call = record { tx = job.tx; arguments = xs } in c) given

-- a turn leaves no task running
woken_runs : (a b : State) (ts : List Task) (k : ℕ) → slice_get (map (woken a b) ts) k ≡ Some Running → slice_get ts k ≡ Some Running
woken_runs a b [] k e = absurd (cc)
woken_runs a b (Ready ∷ ts) zero e = absurd (cc)
woken_runs a b (Running ∷ ts) zero e = refl
woken_runs a b (Parked log ∷ ts) zero e = absurd (by (names_changed a b log) e)
  where
    by : (c : Bool) → Some (if c then Ready else Parked log) ≡ Some Running → ⊥
    by true e = cc
    by false e = cc
woken_runs a b (Done n ∷ ts) zero e = absurd (cc)
woken_runs a b (GivenUp ∷ ts) zero e = absurd (cc)
woken_runs a b (t ∷ ts) (suc k) e = woken_runs a b ts k e

committed_runs : (b : BookView) (task : TaskId) (k : ℕ) → slice_get (committed b task).tasks k ≡ Some Running → slice_get (set b.tasks task.0 (Done (b.present.number + 1))) k ≡ Some Running
unfolding committed
committed_runs b task k e = woken_runs b.present.state (after (task_program b.catalogue task) b.present.state) (set b.tasks task.0 (Done (b.present.number + 1))) k e

pub short_tasks : (due : Bool) (b : BookView) → (if due then checkpointed b else b).tasks ≡ b.tasks
short_tasks true b = refl
short_tasks false b = refl

-- but the task that had its turn
pub ends_running : (every : ℕ) (b new : BookView) (task : TaskId) (how : End) (k : ℕ) → AsEnds every b task how new → slice_get new.tasks k ≡ Some Running → (t : Task) × (Running ≢ t) × (slice_get (set b.tasks task.0 t) k ≡ Some Running)
ends_running every b new task (end.Entered e) k h runs = (
  Done (b.present.number + 1),
  (λ same. cc (same)),
  committed_runs b task k (subst (λ (ts : List Task). slice_get ts k ≡ Some Running) (ap (λ (x : BookView). x.tasks) h.kept ∙ short_tasks (is_due every (serial.Committed e.number) (committed b task)) (committed b task)) runs),
)
ends_running every b new task end.Parked k h runs = (
  Parked h.0,
  (λ same. cc (same)),
  subst (λ (x : BookView). slice_get x.tasks k ≡ Some Running) h.1 runs,
)
ends_running every b new task end.Abandoned k h runs = (
  GivenUp,
  (λ same. cc (same)),
  subst (λ (x : BookView). slice_get x.tasks k ≡ Some Running) h runs,
)

pub set_twice : {A : Type 0} (xs : List A) (i : ℕ) (v w : A) → set (set xs i v) i w ≡ set xs i w
set_twice [] i v w = refl
set_twice (x ∷ xs) zero v w = refl
set_twice (x ∷ xs) (suc i) v w = ap (λ ys. x ∷ ys) (set_twice xs i v w)

set_is : {A : Type 0} (xs : List A) (i : ℕ) (v w : A) → slice_get (set xs i v) i ≡ Some w → w ≡ v
set_is [] i v w h = absurd (cc)
set_is (x ∷ xs) zero v w h = sym (same_Some v w h)
set_is (x ∷ xs) (suc i) v w h = set_is xs i v w h

-- where another standing of one task is not what stands here, that stood here before, and is another's
pub stood : (ts : List Task) (i k : ℕ) (t how : Task) → (how ≢ t) → slice_get (set ts i t) k ≡ Some how → (slice_get ts k ≡ Some how) × (k ≢ i)
stood ts i k t how apart h = (
  not_set ts i k t how (λ same. apart (sym same)) h,
  λ same. apart (set_is ts i t how (subst (λ (n : ℕ). slice_get (set ts i t) n ≡ Some how) same h)),
)

pub goes_running : (old new : Store) (job : Job) (how : End) (k : ℕ) → Goes old new job how → RunsAt new k → RunsAt old k × (k ≢ job.task.0)
goes_running old new job how k g runs =
    let e = ends_running old.every old.book new.book job.task how k g.ends runs in
    stood old.book.tasks job.task.0 k e.0 Running e.1 e.2

-- and the desk has fewer turns left to give
pub ready_lighter : (ts : List Task) (k : ℕ) → slice_get ts k ≡ Some Ready → weight_of (set ts k Running) < weight_of ts
ready_lighter ts k at =
    let us = set ts k Running in
    let len : length us ≡ length ts = length-set ts k Running in
    let live : weigh live_one us ≡ weigh live_one ts = omega (arith, weigh-set live_one ts k Ready Running at) in
    let ready : weigh ready_one ts ≡ weigh ready_one us + 1 = omega (arith, weigh-set ready_one ts k Ready Running at) in
    let p : weigh live_one us * (length us + 1) ≡ weigh live_one ts * (length ts + 1) =
    ap (λ (n : ℕ). weigh live_one us * (n + 1)) len ∙ ap (λ (l : ℕ). l * (length ts + 1)) live in
    omega (arith, p, ready)

pub turned_lighter : (old mid new : Store) (job : Job) (how : End) → TakesJob old (Ok job) mid → HasTurn mid job (Ok how) new → weight_of new.book.tasks < weight_of old.book.tasks
turned_lighter old mid new job how taken h = turn_falls old.book mid.book job.task taken.0 mid.every new.book (turned mid.every mid.book job.task how new.book h.2)
  where
    turned : (every : ℕ) (b : BookView) (task : TaskId) (how : End) (d : BookView) → Ends every b task how d → Turn every b task d
    turned every b task (end.Entered e) d h = (serial.Committed e.number, (committed b task, (h.running, h.ends, h.tells.number, refl), h.kept))
    turned every b task end.Parked d h = (serial.Parked, (d, h, refl))
    turned every b task end.Abandoned d h = (serial.Abandoned, (d, h.0, refl))

-- a call that was refused changed nothing
pub unchanged_alike : (old new : Store) → KeepsStore old new → IsUnchanged old new → IsAlike old new
unchanged_alike old new kept is =
    none_alike old new (record { store = kept; listing = ap (λ (b : BookView). b.catalogue) is.0; tickets = is.1 }) is.0

-- a transaction that takes memory does so in all that declare the same, over as many values
pub memory_same : (l m : Listing) (tx : TxId) → declaring l ≡ declaring m → length l.initial ≡ length m.initial → TakesMemory l tx → TakesMemory m tx
memory_same l m tx same wide takes small =
    let there : 8 < length l.initial = takes (subst (λ (k : Listing). NeedsNoMemory (program_at k tx)) (sym same) small) in
    omega (arith, there, wide)

-- one that was given up for want of it takes it
pub abandons_memory : (mid new : Store) (job : Job) (how : End) → how ≡ end.Abandoned → declaring mid.book.catalogue ≡ declaring mid.catalogue.now → length mid.book.catalogue.initial ≡ length mid.catalogue.now.initial → HasTurn mid job (Ok how) new → TakesMemory mid.catalogue.now job.tx
abandons_memory mid new job how is declared wide h =
    let k : HasTurn mid job (Ok end.Abandoned) new = subst (λ (x : End). HasTurn mid job (Ok x) new) is h in
    let of : task_tx mid.book.catalogue job.task ≡ job.tx = get_or_from_slice_get (tasks mid.book.catalogue) job.task.0 job.tx (record { 0 = 0 }) k.0.0.runs in
    memory_same mid.book.catalogue mid.catalogue.now job.tx declared wide (subst (TakesMemory mid.book.catalogue) of k.2.1)
