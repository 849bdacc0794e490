-- What is so of a longer history.
use Rattle.std.specs.Prelude.{Bool, true, false}
use Rattle.std.proofs.Common.{◌≡◌, ◌≤◌, ◌<◌, ◌∙◌, ℕ, [], ◌∷◌, ◌++◌, Some, Result, Ok, Err, length, slice_get, refl, sym, ap, subst, arith, length-append}
use Rattle.std.proofs.lemmas.Bool.Decides.{nat_tests}
use Rattle.std.proofs.lemmas.Option.{slice_get_within}
use lib.Dec.{leb}
use Rattle.txn_programs.specs.declared.arguments.Call.{Call}
use Rattle.txn_programs.specs.Meaning.{State}
use Rattle.txn_programs.specs.Listing.{Listing}
use Rattle.stm_store.specs.declared.answers.Refused.{Refused}
use Rattle.stm_store.specs.declared.answers.Refused.TheVariants as refused
use Rattle.stm_store.specs.declared.answers.Way.{Way}
use Rattle.stm_store.specs.declared.job.Ticket.{Ticket}
use Rattle.stm_desk.specs.declared.answers.Answer.{Answer}
use Rattle.stm_desk.specs.declared.answers.Became.{Became}
use Rattle.stm_desk.specs.declared.answers.Became.TheVariants as became
use Rattle.stm_desk.specs.History.{Begins, History}
use Rattle.stm_desk.specs.Keeping.{IsEntry, IsLeft}
use Rattle.stm_service.specs.Beginning.{IsNew}
use Rattle.stm_service.specs.Telling.{IsAnswered, IsEnteredBehind, IsTold}
use Rattle.stm_service.proofs.Lists.{get_at_end, get_on, get_within, prefix_whole}

pub get_begins : (h longer : History) (k : ℕ) (e : Ticket × Became) → Begins h longer → slice_get h k ≡ Some e → slice_get longer k ≡ Some e
get_begins h longer k e b at = subst (λ (x : History). slice_get x k ≡ Some e) (sym b.1) (get_on h b.0 k e at)

pub begins_shorter : (h longer : History) → Begins h longer → length h ≤ length longer
begins_shorter h longer b = omega (arith, ap length b.1, length-append h b.0)

-- of two of which each begins the other
pub begins_both : (a b : History) → Begins a b → Begins b a → a ≡ b
begins_both a b p q = prefix_whole a b (p.0, sym p.1) (begins_shorter b a q)

-- what was added last
pub last_is : (h longer : History) (t : Ticket) (what : Became) → longer ≡ h ++ (t, what) ∷ [] → slice_get longer (length h) ≡ Some (t, what)
last_is h longer t what is = ap (λ (x : History). slice_get x (length h)) is ∙ get_at_end h (t, what) []

-- and what was added next, with more behind it
pub next_is : (h longer : History) (t : Ticket) (what : Became) → Begins (h ++ (t, what) ∷ []) longer → slice_get longer (length h) ≡ Some (t, what)
next_is h longer t what b = get_begins (h ++ (t, what) ∷ []) longer (length h) (t, what) b (get_at_end h (t, what) [])

pub left_longer : (h longer : History) (t : Ticket) → Begins h longer → IsLeft h t → IsLeft longer t
left_longer h longer t b k = record { place = k.place; at_place = get_begins h longer k.place (t, became.Left) b k.at_place }

pub told_longer : (h longer : History) (t : Ticket) (call : Call) (r : Result Answer Refused) → Begins h longer → IsTold h t call r → IsTold longer t call r
told_longer h longer t call (Ok a) b k = record { ticket_is = k.ticket_is; at_place = get_begins h longer a.place (t, became.Entered call a.outcome) b k.at_place }
told_longer h longer t call (Err refused.Memory) b k = left_longer h longer t b k
told_longer h longer t call (Err refused.Closed) b k = left_longer h longer t b k
told_longer h longer t call (Err refused.Unknown) b k = absurd k
told_longer h longer t call (Err refused.Gone) b k = absurd k
told_longer h longer t call (Err refused.NotReady) b k = absurd k
told_longer h longer t call (Err refused.NotRunning) b k = absurd k
told_longer h longer t call (Err refused.NotEnded) b k = absurd k
told_longer h longer t call (Err refused.OtherProgram) b k = absurd k
told_longer h longer t call (Err refused.Stale) b k = absurd k
told_longer h longer t call (Err refused.NoRoom) b k = absurd k
told_longer h longer t call (Err refused.Retries) b k = absurd k
told_longer h longer t call (Err refused.TimedOut) b k = absurd k

-- what has a new ticket stands behind all that was there before
pub behind_new : (before now : History) (t : Ticket) (k : ℕ) (what : Became) → IsNew before t → Begins before now → slice_get now k ≡ Some (t, what) → length before ≤ k
behind_new before now t k what new begins at = by (leb (length before) k) refl
  where
    by : (b : Bool) → leb (length before) k ≡ b → length before ≤ k
    by true is = grind (arith, nat_tests)
    by false is =
        let low : k < length before = grind (arith, nat_tests) in
        let e = get_within before k low in
        let there : slice_get now k ≡ Some e.0 = get_begins before now k e.0 begins e.1 in
        let same : e.0 ≡ (t, what) = cc (there, at) in
        absurd (new k e.0 e.1 (ap (λ (x : Ticket × Became). x.0.0) same))

-- what a call is answered that waited with a new ticket
pub answered_waiting : (l : Listing) (m : State) (before now : History) (t : Ticket) (call : Call) (way : Way) (r : Result Answer Refused) → IsNew before t → Begins before now → IsTold now t call r → IsAnswered l m before call way r now
answered_waiting l m before now t call way (Ok a) new begins k =
    record {
      entry = record {
        ticket_is = refl;
        at_place = subst (λ (x : Ticket). slice_get now a.place ≡ Some (x, became.Entered call a.outcome)) (sym k.ticket_is) k.at_place;
      };
      behind = behind_new before now t a.place (became.Entered call a.outcome) new begins k.at_place;
    }
answered_waiting l m before now t call way (Err refused.Memory) new begins k =
    record { ticket = t; left = k; behind = behind_new before now t k.place became.Left new begins k.at_place }
answered_waiting l m before now t call way (Err refused.Closed) new begins k = tt
answered_waiting l m before now t call way (Err refused.Unknown) new begins k = absurd k
answered_waiting l m before now t call way (Err refused.Gone) new begins k = absurd k
answered_waiting l m before now t call way (Err refused.NotReady) new begins k = absurd k
answered_waiting l m before now t call way (Err refused.NotRunning) new begins k = absurd k
answered_waiting l m before now t call way (Err refused.NotEnded) new begins k = absurd k
answered_waiting l m before now t call way (Err refused.OtherProgram) new begins k = absurd k
answered_waiting l m before now t call way (Err refused.Stale) new begins k = absurd k
answered_waiting l m before now t call way (Err refused.NoRoom) new begins k = absurd k
answered_waiting l m before now t call way (Err refused.Retries) new begins k = absurd k
answered_waiting l m before now t call way (Err refused.TimedOut) new begins k = absurd k

-- whoever was shown an entry stands behind it
pub stands_behind : (seen before now : History) (first second : Call) (a b : Answer) → IsEntry seen a.ticket first a → Begins seen before → Begins before now → IsEnteredBehind before second b now
    → (a.place < b.place) × IsEntry now a.ticket first a × IsEntry now b.ticket second b
stands_behind seen before now first second a b e shown grown h =
    let within : a.place < length seen = slice_get_within seen a.place (a.ticket, became.Entered first a.outcome) e.at_place in (
      omega (arith, within, begins_shorter seen before shown, h.behind),
      record {
        ticket_is = e.ticket_is;
        at_place = get_begins before now a.place (a.ticket, became.Entered first a.outcome) grown (get_begins seen before a.place (a.ticket, became.Entered first a.outcome) shown e.at_place);
      },
      h.entry,
    )
