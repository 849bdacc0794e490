-- Chapters that the service begins where one is full.
use Rattle.std.proofs.Common.{◌≡◌, ◌∙◌, Result, Ok, Err, ap, subst}
use Rattle.std.proofs.Math.Logic.{∥∥₁_elim, ∥∥₁_map}
use Rattle.txn_programs.specs.declared.arguments.Call.{Call}
use Rattle.stm_store.specs.Asking.{HasRoomNext}
use Rattle.stm_store.specs.Working.{next_number}
use Rattle.stm_store.specs.declared.answers.Refused.{Refused}
use Rattle.stm_store.specs.declared.answers.Refused.TheVariants as refused
use Rattle.stm_store.specs.declared.answers.Way.{Way}
use Rattle.stm_desk.specs.declared.answers.Asked.{Asked}
use Rattle.stm_desk.specs.declared.desk.Desk.{Desk}
use Rattle.stm_desk.specs.declared.ended.Last.TheVariants as last
use Rattle.stm_desk.specs.declared.work.Work.{Work}
use Rattle.stm_desk.specs.Answering.{IsAsked}
use Rattle.stm_desk.specs.Ending.{BeginsUntold, HasBegun, IsNotKept, Settled}
use Rattle.stm_service.specs.declared.behind.Begun.{Begun}
use Rattle.stm_service.specs.declared.behind.Begun.TheVariants as begun
use Rattle.stm_desk.specs.History.{History}
use Rattle.stm_service.specs.Beginning.{IsWaiting}
use Rattle.stm_service.proofs.Waiting.{Carries, carries_equal, carries_hands_on}

-- no chapter lies with the desk, whatever was called on it
pub kept_on : (old new : Work) → new.last ≡ old.last → ∥ old.last ≡ last.Kept ∥₁ → ∥ new.last ≡ last.Kept ∥₁
kept_on old new same kept = ∥∥₁_map kept (λ (is : old.last ≡ last.Kept). same ∙ is)

-- so the next one can always begin
pub begins_always : (old new : Work) (why : Refused) → ∥ old.last ≡ last.Kept ∥₁ → HasBegun old (Err why) new → ⊥
begins_always old new refused.NotEnded kept h = ∥∥₁_elim kept (λ p q. absurd p) (λ (is : old.last ≡ last.Kept). h.0 is)
begins_always old new refused.Unknown kept h = absurd h
begins_always old new refused.Gone kept h = absurd h
begins_always old new refused.NotReady kept h = absurd h
begins_always old new refused.NotRunning kept h = absurd h
begins_always old new refused.OtherProgram kept h = absurd h
begins_always old new refused.Stale kept h = absurd h
begins_always old new refused.NoRoom kept h = absurd h
begins_always old new refused.Retries kept h = absurd h
begins_always old new refused.Memory kept h = absurd h
begins_always old new refused.Closed kept h = absurd h
begins_always old new refused.TimedOut kept h = absurd h

pub next_chapter : (old new : Work) (done : Unit {0}) → HasBegun old (Ok done) new → new.store.chapter ≡ next_number old.store.chapter
next_chapter old new done h =
    let more : (mid : Work) × Settled old mid × BeginsUntold mid new = h.1 in
    more.2.begins.chapter ∙ ap next_number more.1.goes_on.chapter

-- and who waits waits on
pub carries_begun : (old new : Work) (done : Unit {0}) → HasBegun old (Ok done) new → Carries old.waiters new.waiters
carries_begun old new done h t seat there =
    let more : (mid : Work) × Settled old mid × BeginsUntold mid new = h.1 in
    carries_equal more.0.waiters new.waiters more.2.waiters t seat (carries_hands_on old.waiters more.0.waiters more.1.hands_on t seat there)

-- there is no room only where the next chapter would have none
pub none_next : (old new : Desk) (call : Call) (way : Way) (r : Result Asked Refused) → (IsNotKept new.work.last → ⊥) → IsAsked old call way 0 r new → r ≡ Err refused.NoRoom → HasRoomNext new.work.store → ⊥
none_next old new call way r none_lies h is room =
    let none : IsAsked old call way 0 (Err refused.NoRoom) new = subst (λ (x : Result Asked Refused). IsAsked old call way 0 x new) is h in
    none.2.1 (record { room = room; none_lies = none_lies })

-- whoever waits was not told that there is no room
pub waits_not_full : (before : History) (call : Call) (b : Begun) (now : History) → IsWaiting before call b now → b ≡ begun.Refused refused.NoRoom → ⊥
waits_not_full before call b now h is = subst (λ (x : Begun). IsWaiting before call x now) is h
