-- Calls that wait for a time at most.
use Rattle.std.proofs.Common.{Result, Ok, Err}
use Rattle.txn_programs.specs.declared.arguments.Call.{Call}
use Rattle.txn_programs.specs.Meaning.{State}
use Rattle.txn_programs.specs.Listing.{Listing}
use Rattle.stm_store.specs.declared.answers.Refused.{Refused}
use Rattle.stm_store.specs.declared.answers.Refused.TheVariants as refused
use Rattle.stm_store.specs.declared.answers.Way.TheVariants as ways
use Rattle.stm_store.specs.declared.job.Ticket.{Ticket}
use Rattle.stm_desk.specs.declared.answers.Answer.{Answer}
use Rattle.stm_desk.specs.declared.answers.Became.TheVariants as became
use Rattle.stm_desk.specs.History.{Begins, History}
use Rattle.stm_service.specs.Beginning.{IsNew}
use Rattle.stm_service.specs.Telling.{HasNoEntry, IsAnsweredWithin, IsTold, IsToldWithin}
use Rattle.stm_service.proofs.Histories.{answered_waiting, behind_new}

-- what is told to whoever waits may be told before the time is up
pub told_in_time : (h : History) (t : Ticket) (call : Call) (r : Result Answer Refused) → IsTold h t call r → IsToldWithin h t call r
told_in_time h t call (Ok a) k = k
told_in_time h t call (Err refused.TimedOut) k = absurd k
told_in_time h t call (Err refused.Unknown) k = k
told_in_time h t call (Err refused.Gone) k = k
told_in_time h t call (Err refused.NotReady) k = k
told_in_time h t call (Err refused.NotRunning) k = k
told_in_time h t call (Err refused.NotEnded) k = k
told_in_time h t call (Err refused.OtherProgram) k = k
told_in_time h t call (Err refused.Stale) k = k
told_in_time h t call (Err refused.NoRoom) k = k
told_in_time h t call (Err refused.Retries) k = k
told_in_time h t call (Err refused.Memory) k = k
told_in_time h t call (Err refused.Closed) k = k

-- why a call that waits is refused at once
pub refused_in_time : (l : Listing) (m : State) (before now : History) (call : Call) (why : Refused) → HasNoEntry l m before call ways.Waits why now → IsAnsweredWithin l m before call (Err why) now
refused_in_time l m before now call refused.TimedOut k = absurd k
refused_in_time l m before now call refused.Unknown k = k
refused_in_time l m before now call refused.Gone k = k
refused_in_time l m before now call refused.NotReady k = k
refused_in_time l m before now call refused.NotRunning k = k
refused_in_time l m before now call refused.NotEnded k = k
refused_in_time l m before now call refused.OtherProgram k = k
refused_in_time l m before now call refused.Stale k = k
refused_in_time l m before now call refused.NoRoom k = k
refused_in_time l m before now call refused.Retries k = k
refused_in_time l m before now call refused.Memory k = k
refused_in_time l m before now call refused.Closed k = k

pub answered_in_time : (l : Listing) (m : State) (before now : History) (t : Ticket) (call : Call) (r : Result Answer Refused) → IsNew before t → Begins before now → IsToldWithin now t call r → IsAnsweredWithin l m before call r now
answered_in_time l m before now t call (Ok a) new begins k = answered_waiting l m before now t call ways.Waits (Ok a) new begins k
answered_in_time l m before now t call (Err refused.TimedOut) new begins k =
    record { ticket = t; left = k; behind = behind_new before now t k.place became.Left new begins k.at_place }
answered_in_time l m before now t call (Err refused.Unknown) new begins k = answered_waiting l m before now t call ways.Waits (Err refused.Unknown) new begins k
answered_in_time l m before now t call (Err refused.Gone) new begins k = answered_waiting l m before now t call ways.Waits (Err refused.Gone) new begins k
answered_in_time l m before now t call (Err refused.NotReady) new begins k = answered_waiting l m before now t call ways.Waits (Err refused.NotReady) new begins k
answered_in_time l m before now t call (Err refused.NotRunning) new begins k = answered_waiting l m before now t call ways.Waits (Err refused.NotRunning) new begins k
answered_in_time l m before now t call (Err refused.NotEnded) new begins k = answered_waiting l m before now t call ways.Waits (Err refused.NotEnded) new begins k
answered_in_time l m before now t call (Err refused.OtherProgram) new begins k = answered_waiting l m before now t call ways.Waits (Err refused.OtherProgram) new begins k
answered_in_time l m before now t call (Err refused.Stale) new begins k = answered_waiting l m before now t call ways.Waits (Err refused.Stale) new begins k
answered_in_time l m before now t call (Err refused.NoRoom) new begins k = answered_waiting l m before now t call ways.Waits (Err refused.NoRoom) new begins k
answered_in_time l m before now t call (Err refused.Retries) new begins k = answered_waiting l m before now t call ways.Waits (Err refused.Retries) new begins k
answered_in_time l m before now t call (Err refused.Memory) new begins k = answered_waiting l m before now t call ways.Waits (Err refused.Memory) new begins k
answered_in_time l m before now t call (Err refused.Closed) new begins k = answered_waiting l m before now t call ways.Waits (Err refused.Closed) new begins k
