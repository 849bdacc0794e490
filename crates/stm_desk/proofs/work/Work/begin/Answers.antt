use Rattle.std.proofs.Common.{◌≡◌, ◌∙◌, ℕ, ℤ, List, [], ◌∷◌, ◌++◌, Err, ap, length, refl, sym, subst}
use Rattle.std.proofs.lemmas.List.{append-nil}
use Rattle.txn_programs.specs.Listing.{Listing}
use Rattle.stm_store.specs.Asking.{Submits}
use Rattle.stm_store.specs.Tickets.{TicketsView}
use Rattle.stm_store.specs.declared.job.Ticket.{Ticket}
use Rattle.stm_desk.specs.declared.answers.Became.TheVariants as became
use Rattle.stm_desk.specs.Asking.{next_ticket}
use Rattle.stm_desk.specs.Running.{noted_by}
use Rattle.stm_desk.proofs.Beginning.{IsClaimed, claim_alike, claimed_always, claimed_awaited, claimed_for, claimed_served, is_submitted, left_as_before, left_awaited, left_served, no_seat_keeps_on, none_full, none_unchanged, seat_keeps_on, submitted_keeps, submitted_open}
use Rattle.stm_desk.proofs.Becoming.{unchanged_alike}
use Rattle.stm_desk.proofs.Turned.{none_begun, turned_back}
use Rattle.stm_desk.proofs.Seats.{nobody_new}
use Rattle.stm_desk.proofs.Settling.{alike_keeps, kept_of}
use Rattle.stm_desk.proofs.Within.{stays_submitted, stays_then, stays_turned}
use Rattle.stm_desk.proofs.work.Work.begin.Goals as goal

-- it was refused
pub invariant_of-self : goal.invariant_of-self
invariant_of-self c =
    let s = c.args.self.now in
    let new = c.submit.new.self in
    let h = subst (λ (xs : List ℤ). Submits s.store c.args.call.now.tx xs (Err c.in-Err.field-0) new) c.as_slice.ensures.value c.in-Err.ensures.submitted in
    let a = unchanged_alike s.store new c.in-Err.ensures.kept (none_unchanged s.store new c.args.call.now c.in-Err.field-0 h) in
    let k = alike_keeps s.first.value s.closed s.store new (noted_by s) a (kept_of s) in
    record {
      lends = λ none. subst (λ (l : Listing). length l.transactions ≡ 0) (sym a.kept.store.catalogue) (s.lends none);
      counted = k.counted;
      accounts = k.accounts;
      seated = k.seated;
      told = k.told;
    }

-- it was submitted, and somebody waits for it
pub invariant_of-self-in-Ok-seat : goal.invariant_of-self-in-Ok-seat
invariant_of-self-in-Ok-seat c =
    let s = c.args.self.now in
    let mid = c.submit.new.self in
    let call = c.args.call.now in
    let ticket = c.in-Ok.ticket in
    let sub = is_submitted s.store mid call c.as_slice.result.now ticket c.as_slice.ensures.value c.in-Ok.ensures.kept c.law.ensures.each c.law.ensures.tickets c.law.ensures.fits c.in-Ok.ensures.submitted in
    let v = c.seat.new.self in
    let n = noted_by s in
    let on = submitted_keeps s.first.value s.closed s.store mid call ticket n sub (kept_of s) in
    let with_seat = seat_keeps_on s.first.value s.closed mid n v ticket c.args.whose call (submitted_open s.store mid call ticket sub) c.in-Ok-seat.ensures.seated on in
    let k = alike_keeps s.first.value s.closed mid c.claim.new.self (n.0, n.1, v) (claim_alike mid c.claim.new.self ticket c.claim.result c.claim.ensures.kept c.claim.ensures.claimed) with_seat in
    record {
      lends = λ none. subst (λ (l : Listing). length l.transactions ≡ 0) (sym (c.claim.ensures.kept.store.catalogue ∙ c.in-Ok.ensures.kept.catalogue)) (s.lends none);
      counted = k.counted;
      accounts = k.accounts;
      seated = k.seated;
      told = k.told;
    }

pub unreachable-requires : goal.unreachable-requires
unreachable-requires c =
    let s = c.args.self.now in
    let mid = c.submit.new.self in
    let call = c.args.call.now in
    let ticket = c.in-Ok.ticket in
    let sub = is_submitted s.store mid call c.as_slice.result.now ticket c.as_slice.ensures.value c.in-Ok.ensures.kept c.law.ensures.each c.law.ensures.tickets c.law.ensures.fits c.in-Ok.ensures.submitted in
    claimed_always s.store mid c.claim.new.self call ticket c.in-Err-claim.field-0 sub c.in-Err-claim.ensures.claimed

pub returns-in-Ok-claim-clause-begun : goal.returns-in-Ok-claim-clause-begun
returns-in-Ok-claim-clause-begun c =
    let s = c.args.self.now in
    let mid = c.submit.new.self in
    let call = c.args.call.now in
    let ticket = c.in-Ok.ticket in
    let sub = is_submitted s.store mid call c.as_slice.result.now ticket c.as_slice.ensures.value c.in-Ok.ensures.kept c.law.ensures.each c.law.ensures.tickets c.law.ensures.fits c.in-Ok.ensures.submitted in
    let claimed : IsClaimed s.store mid c.claim.new.self call c.in-Ok-claim.job ticket = record { before = sub; kept = c.in-Ok-claim.ensures.kept; is = c.in-Ok-claim.ensures.claimed } in
    claimed_for s _ mid call c.in-Ok-claim.job ticket c.args.whose claimed c.in-Ok-seat.ensures.seated refl refl

pub returns-in-Ok-claim-clause-served : goal.returns-in-Ok-claim-clause-served
returns-in-Ok-claim-clause-served c =
    let s = c.args.self.now in
    let mid = c.submit.new.self in
    let call = c.args.call.now in
    let ticket = c.in-Ok.ticket in
    let sub = is_submitted s.store mid call c.as_slice.result.now ticket c.as_slice.ensures.value c.in-Ok.ensures.kept c.law.ensures.each c.law.ensures.tickets c.law.ensures.fits c.in-Ok.ensures.submitted in
    let claimed : IsClaimed s.store mid c.claim.new.self call c.in-Ok-claim.job ticket = record { before = sub; kept = c.in-Ok-claim.ensures.kept; is = c.in-Ok-claim.ensures.claimed } in
    claimed_served s.store mid c.claim.new.self call c.in-Ok-claim.job ticket claimed

pub returns-in-Ok-claim-clause-awaited : goal.returns-in-Ok-claim-clause-awaited
returns-in-Ok-claim-clause-awaited c =
    let s = c.args.self.now in
    let mid = c.submit.new.self in
    let call = c.args.call.now in
    let ticket = c.in-Ok.ticket in
    let sub = is_submitted s.store mid call c.as_slice.result.now ticket c.as_slice.ensures.value c.in-Ok.ensures.kept c.law.ensures.each c.law.ensures.tickets c.law.ensures.fits c.in-Ok.ensures.submitted in
    let claimed : IsClaimed s.store mid c.claim.new.self call c.in-Ok-claim.job ticket = record { before = sub; kept = c.in-Ok-claim.ensures.kept; is = c.in-Ok-claim.ensures.claimed } in
    claimed_awaited s.store mid c.claim.new.self s.waiters c.seat.new.self call c.in-Ok-claim.job ticket c.args.whose claimed c.in-Ok-seat.ensures.seated

-- there was no memory for a seat
pub invariant_of-self-in-Err-seat : goal.invariant_of-self-in-Err-seat
invariant_of-self-in-Err-seat c =
    let s = c.args.self.now in
    let mid = c.submit.new.self in
    let call = c.args.call.now in
    let ticket = c.in-Ok.ticket in
    let sub = is_submitted s.store mid call c.as_slice.result.now ticket c.as_slice.ensures.value c.in-Ok.ensures.kept c.law.ensures.each c.law.ensures.tickets c.law.ensures.fits c.in-Ok.ensures.submitted in
    let n = noted_by s in
    let on = submitted_keeps s.first.value s.closed s.store mid call ticket n sub (kept_of s) in
    let k = no_seat_keeps_on s.first.value s.closed mid n c.seat.new.self c.in-Err-seat.ensures.refused c.in-Err-seat.ensures.told on in
    record {
      lends = λ none. subst (λ (l : Listing). length l.transactions ≡ 0) (sym (c.in-Ok.ensures.kept.catalogue)) (s.lends none);
      counted = k.counted;
      accounts = k.accounts;
      seated = k.seated;
      told = k.told;
    }

pub give_up-requires : goal.give_up-requires
give_up-requires c =
    let s = c.args.self.now in
    let mid = c.submit.new.self in
    let call = c.args.call.now in
    let ticket = c.in-Ok.ticket in
    let sub = is_submitted s.store mid call c.as_slice.result.now ticket c.as_slice.ensures.value c.in-Ok.ensures.kept c.law.ensures.each c.law.ensures.tickets c.law.ensures.fits c.in-Ok.ensures.submitted in
    record { is_open = ∣ (submitted_open s.store mid call ticket sub).has ∣₁ }

pub returns-in-Err-seat-clause-begun : goal.returns-in-Err-seat-clause-begun
returns-in-Err-seat-clause-begun c =
    let s = c.args.self.now in
    let mid = c.submit.new.self in
    let call = c.args.call.now in
    let ticket = c.in-Ok.ticket in
    let sub = is_submitted s.store mid call c.as_slice.result.now ticket c.as_slice.ensures.value c.in-Ok.ensures.kept c.law.ensures.each c.law.ensures.tickets c.law.ensures.fits c.in-Ok.ensures.submitted in
    let up = c.give_up.ensures.given_up in
    let next : ticket ≡ next_ticket s.store = ap (λ (n : ℕ). let t : Ticket = record { 0 = n } in t) sub.is.1 in
    record {
      given = ap (λ (t : TicketsView). t.given) (c.give_up.ensures.kept.tickets ∙ sub.is.2);
      history = up.history ∙ ap (λ (t : Ticket). s.history.items ++ (t, became.Left) ∷ []) next;
      waiters = left_as_before s.waiters c.seat.new.self c.give_up.new.self.waiters ticket (nobody_new s.store s.waiters ticket c.law.ensures.tickets sub.is.1 s.seated) c.in-Err-seat.ensures.refused c.in-Err-seat.ensures.told up.gone up.others up.told;
      due = up.due;
    }

pub returns-in-Err-seat-clause-served : goal.returns-in-Err-seat-clause-served
returns-in-Err-seat-clause-served c =
    let s = c.args.self.now in
    let mid = c.submit.new.self in
    let call = c.args.call.now in
    let ticket = c.in-Ok.ticket in
    let sub = is_submitted s.store mid call c.as_slice.result.now ticket c.as_slice.ensures.value c.in-Ok.ensures.kept c.law.ensures.each c.law.ensures.tickets c.law.ensures.fits c.in-Ok.ensures.submitted in
    left_served s.store mid c.give_up.new.self.store call ticket sub c.give_up.ensures.store

pub returns-in-Err-seat-clause-awaited : goal.returns-in-Err-seat-clause-awaited
returns-in-Err-seat-clause-awaited c =
    let s = c.args.self.now in
    let mid = c.submit.new.self in
    let call = c.args.call.now in
    let ticket = c.in-Ok.ticket in
    let sub = is_submitted s.store mid call c.as_slice.result.now ticket c.as_slice.ensures.value c.in-Ok.ensures.kept c.law.ensures.each c.law.ensures.tickets c.law.ensures.fits c.in-Ok.ensures.submitted in
    let up = c.give_up.ensures.given_up in
    let same = left_as_before s.waiters c.seat.new.self c.give_up.new.self.waiters ticket (nobody_new s.store s.waiters ticket c.law.ensures.tickets sub.is.1 s.seated) c.in-Err-seat.ensures.refused c.in-Err-seat.ensures.told up.gone up.others up.told in
    left_awaited s.store mid c.give_up.new.self.store s.waiters c.give_up.new.self.waiters call ticket sub c.give_up.ensures.kept c.give_up.ensures.store same

-- it was refused, and so was a chapter more
pub returns-in-Err-clause-begun : goal.returns-in-Err-clause-begun
returns-in-Err-clause-begun c =
    let s = c.args.self.now in
    let new = c.submit.new.self in
    let kept = c.in-Err.ensures.kept in
    let h = subst (λ (xs : List ℤ). Submits s.store c.args.call.now.tx xs (Err c.in-Err.field-0) new) c.as_slice.ensures.value c.in-Err.ensures.submitted in
    none_begun s _ c.args.call.now c.args.whose c.turned_away.result (none_full s.store new c.args.call.now c.in-Err.field-0 h)
    (turned_back s _ _ c.turned_away.result c.turned_away.ensures.turned
    (record { store = none_unchanged s.store new c.args.call.now c.in-Err.field-0 h; waiters = refl; history = refl; due = refl })
    (record { first = refl; long = refl; catalogue = kept.catalogue; chapter = kept.chapter; closed = refl; last = refl; history = ([], sym (append-nil s.history.items)) }))

-- the chapter goes on
pub returns-in-Ok-claim-clause-within : goal.returns-in-Ok-claim-clause-within
returns-in-Ok-claim-clause-within c =
    let s = c.args.self.now in
    let mid = c.submit.new.self in
    let call = c.args.call.now in
    let ticket = c.in-Ok.ticket in
    let sub = is_submitted s.store mid call c.as_slice.result.now ticket c.as_slice.ensures.value c.in-Ok.ensures.kept c.law.ensures.each c.law.ensures.tickets c.law.ensures.fits c.in-Ok.ensures.submitted in
    stays_then s.store mid c.claim.new.self (stays_submitted s.store mid call ticket sub) c.in-Ok-claim.ensures.kept.listing

pub returns-in-Err-seat-clause-within : goal.returns-in-Err-seat-clause-within
returns-in-Err-seat-clause-within c =
    let s = c.args.self.now in
    let mid = c.submit.new.self in
    let call = c.args.call.now in
    let ticket = c.in-Ok.ticket in
    let sub = is_submitted s.store mid call c.as_slice.result.now ticket c.as_slice.ensures.value c.in-Ok.ensures.kept c.law.ensures.each c.law.ensures.tickets c.law.ensures.fits c.in-Ok.ensures.submitted in
    stays_then s.store mid c.give_up.new.self.store (stays_submitted s.store mid call ticket sub) c.give_up.ensures.kept.listing

pub returns-in-Err-clause-within : goal.returns-in-Err-clause-within
returns-in-Err-clause-within c =
    let s = c.args.self.now in
    let new = c.submit.new.self in
    let kept = c.in-Err.ensures.kept in
    let h = subst (λ (xs : List ℤ). Submits s.store c.args.call.now.tx xs (Err c.in-Err.field-0) new) c.as_slice.ensures.value c.in-Err.ensures.submitted in
    stays_turned s _ c.turned_away.result
    (turned_back s _ _ c.turned_away.result c.turned_away.ensures.turned
    (record { store = none_unchanged s.store new c.args.call.now c.in-Err.field-0 h; waiters = refl; history = refl; due = refl })
    (record { first = refl; long = refl; catalogue = kept.catalogue; chapter = kept.chapter; closed = refl; last = refl; history = ([], sym (append-nil s.history.items)) }))
