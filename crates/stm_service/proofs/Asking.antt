-- What a desk under a name keeps, and what it answers.
use Rattle.std.proofs.Common.{◌≡◌, ◌≤◌, ◌<◌, ◌∙◌, ℕ, ℤ, List, [], ◌∷◌, ◌++◌, Some, Err, length, slice_get, refl, sym, ap, subst, arith}
use Rattle.std.proofs.Math.Logic.{∥∥₁_elim, ∥∥₁_map}
use Rattle.std.proofs.Math.Bridge.{le_prop}
use Rattle.txn_programs.specs.declared.arguments.Call.{Call}
use Rattle.txn_programs.specs.declared.ast.TxId.{TxId}
use Rattle.txn_programs.specs.Meaning.{State, outcome}
use Rattle.txn_programs.specs.Listing.{IsCallable, Listing, arity, call_program, transaction_at}
use Rattle.stm_store.specs.Working.{declaring}
use Rattle.stm_store.specs.declared.answers.Refused.{Refused}
use Rattle.stm_store.specs.declared.answers.Refused.TheVariants as refused
use Rattle.stm_store.specs.declared.answers.Way.{Way}
use Rattle.stm_store.specs.declared.answers.Way.TheVariants as ways
use Rattle.stm_store.specs.declared.job.Ticket.{Ticket}
use Rattle.stm_store.specs.declared.store.Store.{Store}
use Rattle.stm_desk.specs.declared.answers.Answer.{Answer}
use Rattle.stm_desk.specs.declared.answers.Became.TheVariants as became
use Rattle.stm_desk.specs.declared.desk.Desk.{Desk}
use Rattle.stm_desk.specs.Answering.{IsAsked, IsEnteredNext, history_of}
use Rattle.stm_desk.specs.Asking.{next_ticket}
use Rattle.stm_desk.specs.History.{Begins, History, IsLegal, led}
use Rattle.stm_desk.specs.Keeping.{Accounts}
use Rattle.stm_service.specs.declared.behind.Begun.{Begun}
use Rattle.stm_service.specs.declared.behind.Begun.TheVariants as begun
use Rattle.stm_service.specs.Beginning.{HasPassedOn, IsBegun, IsNew, IsWaiting}
use Rattle.stm_service.specs.Telling.{HasNoEntry, IsEnteredBehind, WasLeftBehind}
use Rattle.stm_service.proofs.Histories.{begins_shorter, get_begins, last_is, next_is}
use Rattle.stm_service.proofs.Joining.{begins_on}

-- the history of a desk of this program that began with these values is legal
pub legal_of : (l : Listing) (m : State) (d : Desk) → d.work.first.value.catalogue.now ≡ l → d.work.first.value.book.present.state ≡ m → ∥ IsLegal l m (history_of d) ∥₁
legal_of l m d named placed =
    ∥∥₁_map d.work.accounts (λ (a : Accounts d.work.first.value d.work.store (history_of d)).
    subst (λ (k : Listing). IsLegal k m (history_of d)) named
    (subst (λ (x : State). IsLegal d.work.first.value.catalogue.now x (history_of d)) placed a.legal))

-- also once something was called on it
pub legal_on : (l : Listing) (m : State) (old new : Desk) → new.work.first.value ≡ old.work.first.value → old.work.first.value.catalogue.now ≡ l → old.work.first.value.book.present.state ≡ m → ∥ IsLegal l m (history_of new) ∥₁
legal_on l m old new first named placed =
    legal_of l m new (ap (λ (s : Store). s.catalogue.now) first ∙ named) (ap (λ (s : Store). s.book.present.state) first ∙ placed)

-- what can be called by the name can be called on the desk
pub callable_on : (l : Listing) (d : Desk) → d.work.first.value.catalogue.now ≡ l → (tx : TxId) (arguments : List ℤ) → IsCallable l tx arguments → IsCallable d.work.store.catalogue.now tx arguments
callable_on l d named tx arguments can =
    let is : Accounts d.work.first.value d.work.store (history_of d) → IsCallable d.work.store.catalogue.now tx arguments =
    λ a. subst (λ (k : Listing). IsCallable k tx arguments) (sym (a.catalogue ∙ named)) can in
    record {
      declared = ∥∥₁_elim d.work.accounts le_prop (λ a. (is a).declared);
      each =
          let low : length arguments ≤ arity (transaction_at d.work.store.catalogue.now tx) = ∥∥₁_elim d.work.accounts le_prop (λ a. let e = (is a).each in omega (arith, e)) in
          let high : arity (transaction_at d.work.store.catalogue.now tx) ≤ length arguments = ∥∥₁_elim d.work.accounts le_prop (λ a. let e = (is a).each in omega (arith, e)) in
          omega (arith, low, high);
    }

-- the next ticket is new
pub next_is_new : (d : Desk) (before : History) (t : Ticket) → Begins before (history_of d) → t ≡ next_ticket d.work.store → IsNew before t
next_is_new d before t begins is place e at same =
    ∥∥₁_elim d.work.accounts (λ p q. absurd p) (λ (a : Accounts d.work.first.value d.work.store (history_of d)).
    let over = a.over place e (get_begins before (history_of d) place e begins at) in
    let given : e.0.0 < d.work.store.tickets.given = over.given in
    let own : t.0 ≡ d.work.store.tickets.given = ap (λ (x : Ticket). x.0) is in
    absurd (omega (arith, given, own, same)))

-- the call's own entry
pub entered_behind : (old new : Desk) (before : History) (call : Call) (a : Answer) → Begins before (history_of old) → IsEnteredNext old call a new → IsEnteredBehind before call a (history_of new)
entered_behind old new before call a begins h =
    record {
      entry = record {
        ticket_is = refl;
        at_place = subst (λ (k : ℕ). slice_get (history_of new) k ≡ Some (a.ticket, became.Entered call a.outcome)) (sym h.place) (next_is (history_of old) (history_of new) a.ticket (became.Entered call a.outcome) h.history);
      };
      behind = omega (arith, h.place, begins_shorter before (history_of old) begins);
    }

-- a task that was given up last
pub left_behind : (h before now : History) (t : Ticket) → Begins before h → now ≡ h ++ (t, became.Left) ∷ [] → WasLeftBehind before now
left_behind h before now t begins is =
    record {
      ticket = t;
      left = record { place = length h; at_place = last_is h now t became.Left is };
      behind = begins_shorter before h begins;
    }

same_program : (a l : Listing) (call : Call) → declaring a ≡ declaring l → call_program a call.tx call.arguments ≡ call_program l call.tx call.arguments
same_program a l call e = ap (λ (x : Listing). call_program x call.tx call.arguments) e

-- why a call was refused
pub refused_behind : (l : Listing) (m : State) (old new : Desk) (before : History) (call : Call) (way : Way) (why : Refused)
    → old.work.first.value.catalogue.now ≡ l → old.work.first.value.book.present.state ≡ m → declaring old.work.store.book.catalogue ≡ declaring old.work.store.catalogue.now → Begins before (history_of old)
    → IsAsked old call way 0 (Err why) new → ∥ HasNoEntry l m before call way why (history_of new) ∥₁
refused_behind l m old new before call way refused.Memory named placed declared begins h =
    ∣ left_behind (history_of old) before (history_of new) (next_ticket old.work.store) begins h.1.history ∣₁
refused_behind l m old new before call way refused.Closed named placed declared begins h = ∣ tt ∣₁
refused_behind l m old new before call way refused.NoRoom named placed declared begins h = ∣ tt ∣₁
refused_behind l m old new before call way refused.Unknown named placed declared begins h =
    ∣ (λ can. h.0.1 (callable_on l old named call.tx call.arguments can)) ∣₁
refused_behind l m old new before call way refused.Retries named placed declared begins h =
    ∥∥₁_map old.work.accounts (λ (a : Accounts old.work.first.value old.work.store (history_of old)).
    let f = call_program l call.tx call.arguments in
    let program : call_program old.work.store.book.catalogue call.tx call.arguments ≡ f = same_program old.work.store.book.catalogue old.work.store.catalogue.now call declared ∙ ap (λ (k : Listing). call_program k call.tx call.arguments) (a.catalogue ∙ named) in
    let state : led l m (history_of new) ≡ old.work.store.book.present.state =
    ap (led l m) h.1.history ∙ (subst (λ (k : Listing). led k m (history_of old) ≡ old.work.store.book.present.state) named
    (subst (λ (x : State). led old.work.first.value.catalogue.now x (history_of old) ≡ old.work.store.book.present.state) placed a.leads)) in
    (h.0.1.0, ap (λ p. outcome p (led l m (history_of new))) (sym program) ∙ (ap (outcome (call_program old.work.store.book.catalogue call.tx call.arguments)) state ∙ h.0.1.1)))
refused_behind l m old new before call way refused.Gone named placed declared begins h = absurd h.0.1
refused_behind l m old new before call way refused.NotReady named placed declared begins h = absurd h.0.1
refused_behind l m old new before call way refused.NotRunning named placed declared begins h = absurd h.0.1
refused_behind l m old new before call way refused.NotEnded named placed declared begins h = absurd h.0.1
refused_behind l m old new before call way refused.OtherProgram named placed declared begins h = absurd h.0.1
refused_behind l m old new before call way refused.Stale named placed declared begins h = absurd h.0.1
refused_behind l m old new before call way refused.TimedOut named placed declared begins h = absurd h.0.1

pub waited_left : (h before now : History) (t : Ticket) → Begins before h → now ≡ h ++ (t, became.Left) ∷ [] → Begins before now × WasLeftBehind before now
waited_left h before now t begins is = (begins_on before h now begins ((t, became.Left) ∷ [], is), left_behind h before now t begins is)

-- what a call is answered at once
pub ended_begun : (old new : Desk) (before now : History) (call : Call) (a : Answer) → Begins before (history_of old) → now ≡ history_of new → IsEnteredNext old call a new → Begins before now × IsEnteredBehind before call a now
ended_begun old new before now call a begins is h =
    let e : History = (a.ticket, became.Entered call a.outcome) ∷ [] in
    let more : Begins before (history_of new) = begins_on before (history_of old) (history_of new) begins (begins_on (history_of old) (history_of old ++ e) (history_of new) (e, refl) h.history) in
    subst (λ (x : History). Begins before x × IsEnteredBehind before call a x) (sym is) (more, entered_behind old new before call a begins h)

-- whoever waits does so where calls wait
pub waiting_begun : (l : Listing) (m : State) (before now : History) (call : Call) (way : Way) (b : Begun) → way ≡ ways.Waits → IsWaiting before call b now → IsBegun l m before call way b now
waiting_begun l m before now call way (begun.Waits awaited bell) waits h = (waits, h.0, h.1, h.2)
waiting_begun l m before now call way (begun.Refused refused.Memory) waits h = (h.0, ∣ h.1 ∣₁)
waiting_begun l m before now call way (begun.Refused refused.Unknown) waits h = absurd h
waiting_begun l m before now call way (begun.Refused refused.Gone) waits h = absurd h
waiting_begun l m before now call way (begun.Refused refused.NotReady) waits h = absurd h
waiting_begun l m before now call way (begun.Refused refused.NotRunning) waits h = absurd h
waiting_begun l m before now call way (begun.Refused refused.NotEnded) waits h = absurd h
waiting_begun l m before now call way (begun.Refused refused.OtherProgram) waits h = absurd h
waiting_begun l m before now call way (begun.Refused refused.Stale) waits h = absurd h
waiting_begun l m before now call way (begun.Refused refused.NoRoom) waits h = absurd h
waiting_begun l m before now call way (begun.Refused refused.Retries) waits h = absurd h
waiting_begun l m before now call way (begun.Refused refused.Closed) waits h = absurd h
waiting_begun l m before now call way (begun.Refused refused.TimedOut) waits h = absurd h
waiting_begun l m before now call way (begun.Ended a) waits h = absurd h
waiting_begun l m before now call way begun.Again waits h = absurd h
waiting_begun l m before now call way (begun.Later sayings) waits h = absurd h

-- where the chapter was full
pub passed_begun : (l : Listing) (m : State) (before now : History) (call : Call) (way : Way) (b : Begun) → HasPassedOn before b now → IsBegun l m before call way b now
passed_begun l m before now call way begun.Again h = h
passed_begun l m before now call way (begun.Later sayings) h = h
passed_begun l m before now call way (begun.Refused refused.NoRoom) h = (h, ∣ tt ∣₁)
passed_begun l m before now call way (begun.Refused refused.Unknown) h = absurd h
passed_begun l m before now call way (begun.Refused refused.Gone) h = absurd h
passed_begun l m before now call way (begun.Refused refused.NotReady) h = absurd h
passed_begun l m before now call way (begun.Refused refused.NotRunning) h = absurd h
passed_begun l m before now call way (begun.Refused refused.NotEnded) h = absurd h
passed_begun l m before now call way (begun.Refused refused.OtherProgram) h = absurd h
passed_begun l m before now call way (begun.Refused refused.Stale) h = absurd h
passed_begun l m before now call way (begun.Refused refused.Retries) h = absurd h
passed_begun l m before now call way (begun.Refused refused.Memory) h = absurd h
passed_begun l m before now call way (begun.Refused refused.Closed) h = absurd h
passed_begun l m before now call way (begun.Refused refused.TimedOut) h = absurd h
passed_begun l m before now call way (begun.Ended a) h = absurd h
passed_begun l m before now call way (begun.Waits awaited bell) h = absurd h
