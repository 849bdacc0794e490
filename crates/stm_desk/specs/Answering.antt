-- What a call on a desk is answered, and what it leaves once all that it woke have had their turns.
use Rattle.std.specs.Prelude.{◌≡◌, ◌+◌, ℕ, true, false, [], ◌∷◌, ◌++◌, length, Result, Ok, Err}
use Rattle.txn_programs.specs.declared.arguments.Call.{Call}
use Rattle.txn_programs.specs.Listing.{IsCallable}
use Rattle.stm_store.specs.Asking.{IsFull}
use Rattle.stm_store.specs.Turning.{RefusesCall}
use Rattle.stm_store.specs.declared.answers.Refused.{Refused}
use Rattle.stm_store.specs.declared.answers.Refused.TheVariants as refused
use Rattle.stm_store.specs.declared.answers.Way.{Way}
use Rattle.stm_store.specs.declared.answers.Way.TheVariants as ways
use Rattle.stm_store.specs.declared.job.Job.{Job}
use Rattle.stm_store.specs.declared.job.Ticket.{Ticket}
use Rattle.stm_store.specs.declared.worker.Worker.{Worker}
use Rattle.stm_desk.specs.declared.answers.Answer.{Answer}
use Rattle.stm_desk.specs.declared.answers.Asked.{Asked}
use Rattle.stm_desk.specs.declared.answers.Asked.TheVariants as asked
use Rattle.stm_desk.specs.declared.answers.Became.TheVariants as became
use Rattle.stm_desk.specs.declared.desk.Desk.{Desk}
use Rattle.stm_desk.specs.declared.work.Work.{Work}
use Rattle.stm_desk.specs.Asking.{GoesOn, IsGivenUp, IsOneMore, IsSame, next_ticket}
use Rattle.stm_desk.specs.Ending.{IsTurnedAway}
use Rattle.stm_desk.specs.History.{Begins, History}
use Rattle.stm_desk.specs.Open.{IsParkedCall}
use Rattle.stm_desk.specs.Running.{HadBrought, HadTurn, HandsOut, HasBroughtTo, IsLong, RefusesTurn, RunsFor}
use Rattle.stm_desk.specs.Waiting.{HandsOn, IsSeated}

abbrev pub history_of : Desk → History
history_of d = d.work.history.items

-- the call's own entry is the next one, at the place that is the history's length before, and what it woke is behind it;
-- no other task was made
pub record IsEnteredNext (old : Desk) (call : Call) (a : Answer) (new : Desk) : Type 0 where
  pub ticket : a.ticket ≡ next_ticket old.work.store
  pub chapter : a.chapter ≡ old.work.store.chapter
  pub entry : a.entry ≡ old.work.store.book.present.number + 1
  pub place : a.place ≡ length (history_of old)
  pub given : IsOneMore old.work.store new.work.store
  pub history : Begins (history_of old ++ (a.ticket, became.Entered call a.outcome) ∷ []) (history_of new)
  pub hands_on : HandsOn old.work.waiters new.work.waiters
  pub hands_out : HandsOut old.work new.work

-- the task of the call retries, and whoever called waits for it
pub record WaitsFor (old : Desk) (call : Call) (whose : ℕ) (ticket : Ticket) (new : Desk) : Type 0 where
  pub ticket_is : ticket ≡ next_ticket old.work.store
  pub given : IsOneMore old.work.store new.work.store
  pub history : history_of new ≡ history_of old
  pub parked : ∥ IsParkedCall new.work.store ticket call ∥₁
  pub seated : IsSeated old.work.waiters ticket whose call new.work.waiters
  pub due : new.work.due.items ≡ old.work.due.items

-- why there is no task of the call; nothing changed
abbrev pub RefusesAsked : Desk → Call → Way → Refused → Type 0
RefusesAsked d call way refused.Closed = d.work.closed ≡ true
RefusesAsked d call way refused.Unknown =
    (d.work.closed ≡ false) × (IsCallable d.work.store.catalogue.now call.tx call.arguments → ⊥)
RefusesAsked d call way why = (d.work.closed ≡ false) × RefusesCall way d.work.store call.tx call.arguments why

-- `ask`
abbrev pub IsAsked : Desk → Call → Way → ℕ → Result Asked Refused → Desk → Type 0
IsAsked old call way whose (Ok (asked.Ended a)) new = (old.work.closed ≡ false) × IsEnteredNext old call a new
IsAsked old call way whose (Ok (asked.Waits ticket)) new =
    (old.work.closed ≡ false) × (way ≡ ways.Waits) × WaitsFor old call whose ticket new
IsAsked old call way whose (Ok asked.ChapterFull) new =
    (old.work.closed ≡ false) × IsFull old.work.store × IsTurnedAway old.work (Ok asked.ChapterFull) new.work
IsAsked old call way whose (Ok (asked.Runs job)) new =
    (old.work.closed ≡ false)
    × (way ≡ ways.Waits)
    × IsLong old.work.long.items call.tx
    × RunsFor old.work call whose job new.work
IsAsked old call way whose (Err refused.NoRoom) new =
    (old.work.closed ≡ false) × IsFull old.work.store × IsTurnedAway old.work (Err refused.NoRoom) new.work
IsAsked old call way whose (Err refused.Memory) new = (old.work.closed ≡ false) × IsGivenUp old.work new.work
IsAsked old call way whose (Err why) new = RefusesAsked old call way why × IsSame old.work new.work

-- no turn at the desk was the answer, as for a long call that waits
abbrev pub IsLent : Result Asked Refused → Type 0
IsLent (Ok (asked.Ended a)) = ⊥
IsLent (Ok (asked.Waits ticket)) = ⊥
IsLent _ = Unit {0}

-- `bring`: what came of it, and then what it woke; else nothing changed, and why
abbrev pub HasBroughtIn : Desk → Worker → Result (Unit {0}) Refused → Desk → Type 0
HasBroughtIn old w (Ok done) new = (mid : Work) × HadBrought old.work w mid × GoesOn mid new.work
HasBroughtIn old w (Err why) new = HasBroughtTo old.work w (Err why) new.work

-- `run_now`: its turn, and then what it woke; else nothing changed, and why
abbrev pub HasRun : Desk → Job → Result (Unit {0}) Refused → Desk → Type 0
HasRun old job (Ok done) new = (mid : Work) × HadTurn old.work job mid × GoesOn mid new.work
HasRun old job (Err why) new = RefusesTurn old.work.store job why × IsSame old.work new.work
