-- Calls leave the chapter as it began.
use Rattle.std.proofs.Common.{◌≡◌, ◌∙◌, [], ◌∷◌, ◌++◌, inl, inr, Result, Ok, Err, ap, sym}
use Rattle.txn_programs.specs.declared.arguments.Call.{Call}
use Rattle.txn_programs.specs.Listing.{Listing}
use Rattle.txn.specs.Grown.{grown}
use Rattle.txn.proofs.Growing.{grown_more, grown_none}
use Rattle.book.specs.View.{BookView}
use Rattle.stm_store.specs.declared.answers.End.{End}
use Rattle.stm_store.specs.declared.answers.Refused.{Refused}
use Rattle.stm_store.specs.declared.answers.Refused.TheVariants as refused
use Rattle.stm_store.specs.declared.job.Job.{Job}
use Rattle.stm_store.specs.declared.job.Ticket.{Ticket}
use Rattle.stm_store.specs.declared.store.Store.{Store}
use Rattle.stm_store.specs.Turning.{called_book}
use Rattle.stm_desk.specs.declared.answers.Asked.{Asked}
use Rattle.stm_desk.specs.declared.answers.Asked.TheVariants as asked
use Rattle.stm_desk.specs.declared.work.Work.{Work}
use Rattle.stm_desk.specs.Asking.{StaysInChapter}
use Rattle.stm_desk.specs.Ending.{IsTurnedAway, LooksAgain}
use Rattle.stm_desk.proofs.Beginning.{IsSubmitted}
use Rattle.stm_desk.proofs.Calling.{IsCalled, ends_catalogue}

pub stays_same : (old new : Store) → new.book.catalogue ≡ old.book.catalogue → StaysInChapter old new
stays_same old new same = ([], same ∙ sym (grown_none old.book.catalogue))

pub stays_both : (a b c : Store) → StaysInChapter a b → StaysInChapter b c → StaysInChapter a c
stays_both a b c p q =
    (p.0 ++ q.0, q.1 ∙ (ap (λ (l : Listing). grown l q.0) p.1 ∙ grown_more a.book.catalogue p.0 q.0))

pub stays_then : (a b c : Store) → StaysInChapter a b → c.book.catalogue ≡ b.book.catalogue → StaysInChapter a c
stays_then a b c p same = (p.0, same ∙ p.1)

-- a call that had its turn
pub stays_called : (old new : Store) (call : Call) (job : Job) (how : End) → IsCalled old new call job how → StaysInChapter old new
stays_called old new call job how c =
    (call ∷ [], ends_catalogue old.every (called_book old.book call.tx call.arguments job.task) new.book job.task how c.runs.ends)

-- a task that was submitted
pub stays_submitted : (old new : Store) (call : Call) (ticket : Ticket) → IsSubmitted old new call ticket → StaysInChapter old new
stays_submitted old new call ticket s = (call ∷ [], ap (λ (b : BookView). b.catalogue) s.is.3)

-- a call for which there was no room
stays_looked : (old new : Work) → LooksAgain old new → StaysInChapter old.store new.store
stays_looked old new (inl at_once) = stays_same old.store new.store (ap (λ (b : BookView). b.catalogue) at_once.1.store.0)
stays_looked old new (inr later) = stays_same old.store new.store later.1.listing

pub stays_turned : (old new : Work) (r : Result Asked Refused) → IsTurnedAway old r new → StaysInChapter old.store new.store
stays_turned old new (Ok asked.ChapterFull) h = stays_looked old new h.0
stays_turned old new (Ok (asked.Ended a)) h = absurd h
stays_turned old new (Ok (asked.Waits t)) h = absurd h
stays_turned old new (Ok (asked.Runs j)) h = absurd h
stays_turned old new (Err refused.NoRoom) h = stays_looked old new h.0
stays_turned old new (Err refused.Gone) h = absurd h
stays_turned old new (Err refused.NotReady) h = absurd h
stays_turned old new (Err refused.Unknown) h = absurd h
stays_turned old new (Err refused.NotRunning) h = absurd h
stays_turned old new (Err refused.NotEnded) h = absurd h
stays_turned old new (Err refused.OtherProgram) h = absurd h
stays_turned old new (Err refused.Stale) h = absurd h
stays_turned old new (Err refused.Retries) h = absurd h
stays_turned old new (Err refused.Memory) h = absurd h
stays_turned old new (Err refused.Closed) h = absurd h
stays_turned old new (Err refused.TimedOut) h = absurd h
