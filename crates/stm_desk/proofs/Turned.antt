-- What a call is answered for which the chapter has no room.
use Rattle.std.proofs.Common.{◌≡◌, ◌∙◌, ◌⊎◌, ◌<◌, inl, inr, Result, Ok, Err, ℕ, ap, sym, subst}
use Rattle.txn_programs.specs.declared.arguments.Call.{Call}
use Rattle.book.specs.Chapters.{chapter_of}
use Rattle.book.specs.View.{BookView}
use Rattle.stm_store.specs.Asking.{HasRoomNext, IsFull}
use Rattle.stm_store.specs.Tickets.{TicketsView, most_tickets}
use Rattle.stm_store.specs.declared.answers.Refused.{Refused}
use Rattle.stm_store.specs.declared.answers.Refused.TheVariants as refused
use Rattle.stm_store.specs.declared.store.Store.{Store}
use Rattle.stm_desk.specs.declared.answers.Asked.{Asked}
use Rattle.stm_desk.specs.declared.answers.Asked.TheVariants as asked
use Rattle.stm_desk.specs.declared.waiters.Waiters.{Waiters}
use Rattle.stm_desk.specs.declared.work.Work.{Work}
use Rattle.stm_desk.specs.Asking.{GoesOn, IsSame}
use Rattle.stm_desk.specs.Ending.{IsNotKept, IsTurnedAway, LooksAgain, MakesRoom, Settled}
use Rattle.stm_desk.specs.Running.{IsBegun}
use Rattle.stm_desk.specs.Waiting.{HandsOn}
use Rattle.stm_desk.proofs.Handing.{goes_both}

-- the next chapter has room where nothing changed
pub room_on : (old new : Store) → new.book ≡ old.book → new.tickets ≡ old.tickets → HasRoomNext new → HasRoomNext old
room_on old new book tickets room = (
  subst (λ (b : BookView). 0 < (chapter_of b).spare) book room.0,
  subst (λ (t : TicketsView). t.given < most_tickets) tickets room.1,
)

same_room : (old new : Work) → IsSame old new → new.last ≡ old.last → MakesRoom new → MakesRoom old
same_room old new same last m =
    record {
      room = room_on old.store new.store same.store.0 same.store.1 m.room;
      none_lies = λ lies. m.none_lies (subst IsNotKept (sym last) lies);
    }

same_both : (a b c : Work) → IsSame a b → IsSame b c → IsSame a c
same_both a b c p q =
    record {
      store = (q.store.0 ∙ p.store.0, q.store.1 ∙ p.store.1);
      waiters = q.waiters ∙ p.waiters;
      history = q.history ∙ p.history;
      due = q.due ∙ p.due;
    }

settled_after : (old mid new : Work) → IsSame old mid → GoesOn old mid → Settled mid new → Settled old new
settled_after old mid new same on h =
    record {
      still = h.still;
      due = h.due;
      listing = h.listing ∙ ap (λ (b : BookView). b.catalogue) same.store.0;
      tickets = h.tickets ∙ same.store.1;
      hands_on = subst (λ (w : Waiters). HandsOn w new.waiters) same.waiters h.hands_on;
      goes_on = goes_both old mid new on h.goes_on;
    }

looks_back : (old mid new : Work) → IsSame old mid → GoesOn old mid → LooksAgain mid new → LooksAgain old new
looks_back old mid new same on (inl h) = inl (plain h.0, same_both old mid new same h.1)
  where
    plain : MakesRoom mid ⊎ IsNotKept mid.last → MakesRoom old ⊎ IsNotKept old.last
    plain (inl m) = inl (same_room old mid same on.last m)
    plain (inr n) = inr (subst IsNotKept on.last n)
looks_back old mid new same on (inr h) =
    inr ((λ room. h.0 (room_on mid.store old.store (sym same.store.0) (sym same.store.1) room)), settled_after old mid new same on h.1)

-- it is answered as if nothing had been before
pub turned_back : (old mid new : Work) (r : Result Asked Refused) → IsTurnedAway mid r new → IsSame old mid → GoesOn old mid → IsTurnedAway old r new
turned_back old mid new (Ok asked.ChapterFull) h same on = (looks_back old mid new same on h.0, h.1)
turned_back old mid new (Ok (asked.Ended a)) h same on = absurd h
turned_back old mid new (Ok (asked.Waits t)) h same on = absurd h
turned_back old mid new (Ok (asked.Runs j)) h same on = absurd h
turned_back old mid new (Err refused.NoRoom) h same on = (looks_back old mid new same on h.0, h.1)
turned_back old mid new (Err refused.Gone) h same on = absurd h
turned_back old mid new (Err refused.NotReady) h same on = absurd h
turned_back old mid new (Err refused.Unknown) h same on = absurd h
turned_back old mid new (Err refused.NotRunning) h same on = absurd h
turned_back old mid new (Err refused.NotEnded) h same on = absurd h
turned_back old mid new (Err refused.OtherProgram) h same on = absurd h
turned_back old mid new (Err refused.Stale) h same on = absurd h
turned_back old mid new (Err refused.Retries) h same on = absurd h
turned_back old mid new (Err refused.Memory) h same on = absurd h
turned_back old mid new (Err refused.Closed) h same on = absurd h
turned_back old mid new (Err refused.TimedOut) h same on = absurd h

-- none was begun
pub none_begun : (old new : Work) (call : Call) (whose : ℕ) (r : Result Asked Refused) → IsFull old.store → IsTurnedAway old r new → IsBegun old call whose r new
none_begun old new call whose (Ok asked.ChapterFull) full h = (full, h)
none_begun old new call whose (Ok (asked.Ended a)) full h = absurd h
none_begun old new call whose (Ok (asked.Waits t)) full h = absurd h
none_begun old new call whose (Ok (asked.Runs j)) full h = absurd h
none_begun old new call whose (Err refused.NoRoom) full h = (full, h)
none_begun old new call whose (Err refused.Gone) full h = absurd h
none_begun old new call whose (Err refused.NotReady) full h = absurd h
none_begun old new call whose (Err refused.Unknown) full h = absurd h
none_begun old new call whose (Err refused.NotRunning) full h = absurd h
none_begun old new call whose (Err refused.NotEnded) full h = absurd h
none_begun old new call whose (Err refused.OtherProgram) full h = absurd h
none_begun old new call whose (Err refused.Stale) full h = absurd h
none_begun old new call whose (Err refused.Retries) full h = absurd h
none_begun old new call whose (Err refused.Memory) full h = absurd h
none_begun old new call whose (Err refused.Closed) full h = absurd h
none_begun old new call whose (Err refused.TimedOut) full h = absurd h
