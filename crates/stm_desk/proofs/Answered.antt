-- What a call is answered, by what the store answered.
use Rattle.std.proofs.Common.{◌≡◌, ◌≢◌, ◌∙◌, ℕ, ℤ, List, [], ◌∷◌, ◌++◌, Result, Ok, Err, IfErr, IfOk, OnErr, OnOk, false, refl, sym, ap, subst}
use Rattle.txn_programs.specs.declared.arguments.Call.{Call}
use Rattle.txn_programs.specs.declared.ast.TxId.{TxId}
use Rattle.stm_store.specs.Tickets.{TicketsView}
use Rattle.stm_store.specs.Turning.{RefusesCall}
use Rattle.stm_store.specs.declared.answers.End.{End}
use Rattle.stm_store.specs.declared.answers.End.TheVariants as end
use Rattle.stm_store.specs.declared.answers.Refused.{Refused}
use Rattle.stm_store.specs.declared.answers.Refused.TheVariants as refused
use Rattle.stm_store.specs.declared.answers.Way.{Way}
use Rattle.stm_store.specs.declared.answers.Way.TheVariants as ways
use Rattle.stm_store.specs.declared.job.Ticket.{Ticket}
use Rattle.stm_store.specs.declared.store.Store.{Store}
use Rattle.stm_desk.specs.declared.answers.Asked.{Asked}
use Rattle.stm_desk.specs.declared.answers.Asked.TheVariants as asked
use Rattle.stm_desk.specs.declared.answers.Became.TheVariants as became
use Rattle.stm_desk.specs.declared.work.Work.{Work}
use Rattle.stm_desk.specs.declared.desk.Desk.{Desk}
use Rattle.stm_desk.specs.Answering.{IsAsked, IsLent}
use Rattle.stm_desk.specs.Running.{IsBegun, IsLong}
use Rattle.stm_desk.specs.Asking.{IsAnswered, IsOneMore, IsSame, next_ticket}
use Rattle.stm_desk.specs.Open.{IsParkedCall}
use Rattle.stm_desk.specs.Waiting.{IsSeated, WaitAsBefore}

-- a call whose task was parked waits
pub only_waits : (way : Way) (how : End) → how ≡ end.Parked → (way ≡ ways.Tries → how ≢ end.Parked) → way ≡ ways.Waits
only_waits ways.Waits how is tries = refl
only_waits ways.Tries how is tries = absurd (tries refl is)

-- who sat down, or was refused memory
pub sit_answers : (old new : Work) (mid : Store) (call : Call) (way : Way) (whose : ℕ) (ticket : Ticket) (r : Result Asked Refused) → IsOneMore old.store mid → new.store.tickets ≡ mid.tickets → way ≡ ways.Waits → ticket ≡ next_ticket old.store → IsParkedCall mid ticket call
    → OnOk r (IsSeated old.waiters ticket whose call new.waiters × (new.store ≡ mid) × (new.history.items ≡ old.history.items) × (new.due.items ≡ old.due.items)) → IfOk r (λ a. a ≡ asked.Waits ticket) → IfErr r (λ why. why ≡ refused.Memory) → OnErr r ((new.history.items ≡ old.history.items ++ (ticket, became.Left) ∷ []) × WaitAsBefore old.waiters new.waiters × (new.due.items ≡ old.due.items))
    → IsAnswered old call way whose r new
sit_answers old new mid call way whose ticket (Ok a) more same waits next parked seated is why left =
    subst (λ (x : Asked). IsAnswered old call way whose (Ok x) new) (sym is) (
      waits,
      record {
        ticket_is = next;
        given = ap (λ (t : TicketsView). t.given) same ∙ more;
        history = seated.2;
        parked = ∣ subst (λ (s : Store). IsParkedCall s ticket call) (sym seated.1) parked ∣₁;
        seated = seated.0;
        due = seated.3;
      },
    )
sit_answers old new mid call way whose ticket (Err e) more same waits next parked seated is why left =
    subst (λ (x : Refused). IsAnswered old call way whose (Err x) new) (sym why)
    (record { given = ap (λ (t : TicketsView). t.given) same ∙ more; history = left.0 ∙ ap (λ (t : Ticket). old.history.items ++ (t, became.Left) ∷ []) next; waiters = left.1; due = left.2 })

-- one that was refused
pub refused_answers : (old new : Work) (call : Call) (way : Way) (whose : ℕ) (why : Refused) → RefusesCall way old.store call.tx call.arguments why → IsSame old new → IsAnswered old call way whose (Err why) new
refused_answers old new call way whose refused.Unknown r same = (r, same)
refused_answers old new call way whose refused.Gone r same = (r, same)
refused_answers old new call way whose refused.NotReady r same = (r, same)
refused_answers old new call way whose refused.NotRunning r same = (r, same)
refused_answers old new call way whose refused.NotEnded r same = (r, same)
refused_answers old new call way whose refused.OtherProgram r same = (r, same)
refused_answers old new call way whose refused.Stale r same = (r, same)
refused_answers old new call way whose refused.NoRoom r same = (r, same)
refused_answers old new call way whose refused.Retries r same = (r, same)
refused_answers old new call way whose refused.Memory r same = absurd r
refused_answers old new call way whose refused.Closed r same = (r, same)
refused_answers old new call way whose refused.TimedOut r same = (r, same)

-- and not since memory was refused
pub refused_memory : (way : Way) (s : Store) (tx : TxId) (xs : List ℤ) (why : Refused) → RefusesCall way s tx xs why → (let r : Result Asked Refused = Err why in r) ≡ Err refused.Memory → ⊥
refused_memory way s tx xs refused.Memory h same = h
refused_memory way s tx xs refused.Unknown h same = h
refused_memory way s tx xs refused.Gone h same = h
refused_memory way s tx xs refused.NotReady h same = h
refused_memory way s tx xs refused.NotRunning h same = h
refused_memory way s tx xs refused.NotEnded h same = h
refused_memory way s tx xs refused.OtherProgram h same = h
refused_memory way s tx xs refused.Stale h same = h
refused_memory way s tx xs refused.Closed h same = h
refused_memory way s tx xs refused.TimedOut h same = h
refused_memory way s tx xs refused.NoRoom h same = cc (same)
refused_memory way s tx xs refused.Retries h same = cc (same)

-- what a long call is answered
pub begun_asked : (old new : Desk) (call : Call) (way : Way) (whose : ℕ) (r : Result Asked Refused) → old.work.closed ≡ false → way ≡ ways.Waits → IsLong old.work.long.items call.tx → IsBegun old.work call whose r new.work → IsAsked old call way whose r new
begun_asked old new call way whose (Ok (asked.Runs job)) is_open waits long h = (is_open, waits, long, h)
begun_asked old new call way whose (Ok (asked.Ended a)) is_open waits long h = absurd h
begun_asked old new call way whose (Ok (asked.Waits t)) is_open waits long h = absurd h
begun_asked old new call way whose (Ok asked.ChapterFull) is_open waits long h = (is_open, h.0, h.1)
begun_asked old new call way whose (Err refused.Memory) is_open waits long h = (is_open, h)
begun_asked old new call way whose (Err refused.NoRoom) is_open waits long h = (is_open, h.0, h.1)
begun_asked old new call way whose (Err refused.Unknown) is_open waits long h = absurd h
begun_asked old new call way whose (Err refused.Gone) is_open waits long h = absurd h
begun_asked old new call way whose (Err refused.NotReady) is_open waits long h = absurd h
begun_asked old new call way whose (Err refused.NotRunning) is_open waits long h = absurd h
begun_asked old new call way whose (Err refused.NotEnded) is_open waits long h = absurd h
begun_asked old new call way whose (Err refused.OtherProgram) is_open waits long h = absurd h
begun_asked old new call way whose (Err refused.Stale) is_open waits long h = absurd h
begun_asked old new call way whose (Err refused.Retries) is_open waits long h = absurd h
begun_asked old new call way whose (Err refused.Closed) is_open waits long h = absurd h
begun_asked old new call way whose (Err refused.TimedOut) is_open waits long h = absurd h

-- one that is begun had no turn here
pub begun_lent : (old new : Work) (call : Call) (whose : ℕ) (r : Result Asked Refused) → IsBegun old call whose r new → IsLent r
begun_lent old new call whose (Ok (asked.Runs job)) h = tt
begun_lent old new call whose (Ok (asked.Ended a)) h = absurd h
begun_lent old new call whose (Ok (asked.Waits t)) h = absurd h
begun_lent old new call whose (Ok asked.ChapterFull) h = tt
begun_lent old new call whose (Err why) h = tt
