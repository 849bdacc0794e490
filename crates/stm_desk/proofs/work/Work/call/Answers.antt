use Rattle.std.proofs.Common.{◌∙◌, ℤ, List, [], ◌∷◌, ◌++◌, refl, sym, ap, subst}
use Rattle.std.proofs.Math.Logic.{∥∥₁_map}
use Rattle.book.specs.View.{BookView}
use Rattle.stm_store.specs.Turning.{RefusesCall}
use Rattle.stm_store.specs.declared.job.Ticket.{Ticket}
use Rattle.stm_desk.specs.declared.answers.Became.TheVariants as became
use Rattle.stm_desk.specs.declared.answers.Answer.{Answer}
use Rattle.stm_desk.specs.History.{History}
use Rattle.stm_desk.specs.Keeping.{Accounts}
use Rattle.stm_desk.proofs.Answered.{only_waits, refused_answers, refused_memory, sit_answers}
use Rattle.stm_desk.proofs.Becoming.{alike_over, alike_was_over, unchanged_alike}
use Rattle.stm_desk.proofs.Calling.{IsCalled, call_abandons, call_enters, call_memory, call_parked, call_awaited, call_running, call_served, call_stays, is_called, next_is, number_is, one_more}
use Rattle.stm_desk.proofs.Legal.{accounts_become, accounts_stay, counted_more, place_left, stayed_over}
use Rattle.stm_desk.proofs.Seats.{AreTold, all_told_on, nobody_new, seated_alike, seated_still, waits_as_before}
use Rattle.stm_desk.proofs.Settling.{alike_awaited, alike_hands_out}
use Rattle.stm_desk.proofs.Within.{stays_called, stays_same, stays_then}
use Rattle.stm_desk.proofs.work.Work.call.Goals as goal

-- it was refused
pub invariant_of-self : goal.invariant_of-self
invariant_of-self c =
    let s = c.args.self.now in
    let new = c.call-called.new.self in
    let a = unchanged_alike s.store new c.in-Err.ensures.kept c.in-Err.ensures.called.1 in
    record {
      lends = λ none. absurd (cc (none));
      counted = s.counted;
      accounts = ∥∥₁_map s.accounts (accounts_stay s.first.value s.store new s.history.items a.kept.store.catalogue a.present (λ t. alike_over s.store new t a) (λ t. alike_was_over s.store new t a));
      seated = seated_alike s.store new s.waiters a s.seated;
      told = s.told;
    }

pub returns-in-Err-clause-answered : goal.returns-in-Err-clause-answered
returns-in-Err-clause-answered c =
    let s = c.args.self.now in
    refused_answers s _ c.args.call.now c.args.way c.args.whose c.in-Err.why
    (subst (λ (xs : List ℤ). RefusesCall c.args.way s.store c.args.call.now.tx xs c.in-Err.why) c.as_slice.ensures.value c.in-Err.ensures.called.0)
    (record { store = c.in-Err.ensures.called.1; waiters = refl; history = refl; due = refl })

-- it was entered
pub note-requires : goal.note-requires
note-requires c =
    let s = c.args.self.now in
    place_left s.first.value s.store s.history.items s.places s.counted c.law.ensures.tickets s.accounts

pub invariant_of-self-in-Entered-clause-counted : goal.invariant_of-self-in-Entered-clause-counted
invariant_of-self-in-Entered-clause-counted c =
    let s = c.args.self.now in
    counted_more s.places c.note.new.places s.history.items c.note.new.history.items _ s.counted c.note.ensures.places c.note.ensures.history

pub invariant_of-self-in-Entered-clause-accounts : goal.invariant_of-self-in-Entered-clause-accounts
invariant_of-self-in-Entered-clause-accounts c =
    let s = c.args.self.now in
    let new = c.call-called.new.self in
    let call = c.args.call.now in
    let job = c.in-Ok.turn.0 in
    let is = is_called s.store c.call-called.new.self c.args.call.now c.as_slice.result.now c.in-Ok.turn.0 c.in-Ok.turn.1 c.as_slice.ensures.value c.law.ensures.declared c.law.ensures.fits c.law.ensures.each c.law.ensures.tickets c.in-Ok.ensures.kept c.in-Ok.ensures.called.0 in
    let e = c.in-Entered.entered in
    ∥∥₁_map s.accounts (λ (a : Accounts s.first.value s.store s.history.items).
    subst (λ (h : History). Accounts s.first.value new h) (sym c.note.ensures.history)
    (accounts_become s.first.value s.store new s.history.items job.ticket (became.Entered call e.outcome) a (call_enters s.store new call job e (subst (IsCalled s.store new call job) c.in-Entered.is is))))

pub invariant_of-self-in-Entered-clause-seated : goal.invariant_of-self-in-Entered-clause-seated
invariant_of-self-in-Entered-clause-seated c =
    let s = c.args.self.now in
    let new = c.call-called.new.self in
    let call = c.args.call.now in
    let job = c.in-Ok.turn.0 in
    let is = is_called s.store c.call-called.new.self c.args.call.now c.as_slice.result.now c.in-Ok.turn.0 c.in-Ok.turn.1 c.as_slice.ensures.value c.law.ensures.declared c.law.ensures.fits c.law.ensures.each c.law.ensures.tickets c.in-Ok.ensures.kept c.in-Ok.ensures.called.0 in
    let e = c.in-Entered.entered in
    let b = call_enters s.store new call job e (subst (IsCalled s.store new call job) c.in-Entered.is is) in
    seated_still s.store new s.waiters job.ticket c.law.ensures.tickets is.runs.is_new.ticket b.stays s.seated

pub invariant_of-self-in-Entered-clause-told : goal.invariant_of-self-in-Entered-clause-told
invariant_of-self-in-Entered-clause-told c =
    let s = c.args.self.now in
    let new = c.call-called.new.self in
    let call = c.args.call.now in
    let job = c.in-Ok.turn.0 in
    let is = is_called s.store c.call-called.new.self c.args.call.now c.as_slice.result.now c.in-Ok.turn.0 c.in-Ok.turn.1 c.as_slice.ensures.value c.law.ensures.declared c.law.ensures.fits c.law.ensures.each c.law.ensures.tickets c.in-Ok.ensures.kept c.in-Ok.ensures.called.0 in
    let e = c.in-Entered.entered in
    ∥∥₁_map s.told (λ (k : AreTold s.first.value.catalogue.now s.closed s.history.items s.waiters.told.items).
    subst (λ (h : History). AreTold s.first.value.catalogue.now s.closed h s.waiters.told.items) (sym c.note.ensures.history)
    (all_told_on s.first.value.catalogue.now s.closed s.history.items (job.ticket, (became.Entered call e.outcome)) s.waiters.told.items k))

pub returns-in-Entered-clause-answered : goal.returns-in-Entered-clause-answered
returns-in-Entered-clause-answered c =
    let s = c.args.self.now in
    let new = c.call-called.new.self in
    let call = c.args.call.now in
    let job = c.in-Ok.turn.0 in
    let is = is_called s.store c.call-called.new.self c.args.call.now c.as_slice.result.now c.in-Ok.turn.0 c.in-Ok.turn.1 c.as_slice.ensures.value c.law.ensures.declared c.law.ensures.fits c.law.ensures.each c.law.ensures.tickets c.in-Ok.ensures.kept c.in-Ok.ensures.called.0 in
    let e = c.in-Entered.entered in
    let told = c.answer_of-answer.ensures in
    record {
      ticket = ap (λ (a : Answer). a.ticket) told ∙ next_is s.store new call job c.in-Ok.turn.1 is;
      chapter = ap (λ (a : Answer). a.chapter) told ∙ is.runs.is_new.chapter;
      entry = ap (λ (a : Answer). a.entry) told ∙ number_is s.store new call job e (subst (IsCalled s.store new call job) c.in-Entered.is is);
      place = ap (λ (a : Answer). a.place) told ∙ s.counted;
      given = one_more s.store new call job c.in-Ok.turn.1 is;
      history = c.note.ensures.history ∙ ap (λ (a : Answer). s.history.items ++ (a.ticket, became.Entered call a.outcome) ∷ []) (sym told);
      waiters = refl;
      due = refl;
    }

pub returns-in-Entered-clause-served : goal.returns-in-Entered-clause-served
returns-in-Entered-clause-served c apart served k ready = absurd (apart _ refl)

-- it was given up
pub note-requires-in-Abandoned : goal.note-requires-in-Abandoned
note-requires-in-Abandoned c =
    let s = c.args.self.now in
    place_left s.first.value s.store s.history.items s.places s.counted c.law.ensures.tickets s.accounts

pub invariant_of-self-in-Abandoned-clause-counted : goal.invariant_of-self-in-Abandoned-clause-counted
invariant_of-self-in-Abandoned-clause-counted c =
    let s = c.args.self.now in
    counted_more s.places c.note-in-Abandoned.new.places s.history.items c.note-in-Abandoned.new.history.items _ s.counted c.note-in-Abandoned.ensures.places c.note-in-Abandoned.ensures.history

pub invariant_of-self-in-Abandoned-clause-accounts : goal.invariant_of-self-in-Abandoned-clause-accounts
invariant_of-self-in-Abandoned-clause-accounts c =
    let s = c.args.self.now in
    let new = c.call-called.new.self in
    let call = c.args.call.now in
    let job = c.in-Ok.turn.0 in
    let is = is_called s.store c.call-called.new.self c.args.call.now c.as_slice.result.now c.in-Ok.turn.0 c.in-Ok.turn.1 c.as_slice.ensures.value c.law.ensures.declared c.law.ensures.fits c.law.ensures.each c.law.ensures.tickets c.in-Ok.ensures.kept c.in-Ok.ensures.called.0 in
    ∥∥₁_map s.accounts (λ (a : Accounts s.first.value s.store s.history.items).
    subst (λ (h : History). Accounts s.first.value new h) (sym c.note-in-Abandoned.ensures.history)
    (accounts_become s.first.value s.store new s.history.items job.ticket became.Left a (call_abandons s.store new call job (subst (IsCalled s.store new call job) c.in-Abandoned.is is))))

pub invariant_of-self-in-Abandoned-clause-seated : goal.invariant_of-self-in-Abandoned-clause-seated
invariant_of-self-in-Abandoned-clause-seated c =
    let s = c.args.self.now in
    let new = c.call-called.new.self in
    let call = c.args.call.now in
    let job = c.in-Ok.turn.0 in
    let is = is_called s.store c.call-called.new.self c.args.call.now c.as_slice.result.now c.in-Ok.turn.0 c.in-Ok.turn.1 c.as_slice.ensures.value c.law.ensures.declared c.law.ensures.fits c.law.ensures.each c.law.ensures.tickets c.in-Ok.ensures.kept c.in-Ok.ensures.called.0 in
    let b = call_abandons s.store new call job (subst (IsCalled s.store new call job) c.in-Abandoned.is is) in
    seated_still s.store new s.waiters job.ticket c.law.ensures.tickets is.runs.is_new.ticket b.stays s.seated

pub invariant_of-self-in-Abandoned-clause-told : goal.invariant_of-self-in-Abandoned-clause-told
invariant_of-self-in-Abandoned-clause-told c =
    let s = c.args.self.now in
    let new = c.call-called.new.self in
    let call = c.args.call.now in
    let job = c.in-Ok.turn.0 in
    let is = is_called s.store c.call-called.new.self c.args.call.now c.as_slice.result.now c.in-Ok.turn.0 c.in-Ok.turn.1 c.as_slice.ensures.value c.law.ensures.declared c.law.ensures.fits c.law.ensures.each c.law.ensures.tickets c.in-Ok.ensures.kept c.in-Ok.ensures.called.0 in
    ∥∥₁_map s.told (λ (k : AreTold s.first.value.catalogue.now s.closed s.history.items s.waiters.told.items).
    subst (λ (h : History). AreTold s.first.value.catalogue.now s.closed h s.waiters.told.items) (sym c.note-in-Abandoned.ensures.history)
    (all_told_on s.first.value.catalogue.now s.closed s.history.items (job.ticket, became.Left) s.waiters.told.items k))

pub returns-in-Abandoned-clause-answered : goal.returns-in-Abandoned-clause-answered
returns-in-Abandoned-clause-answered c =
    let s = c.args.self.now in
    let new = c.call-called.new.self in
    let call = c.args.call.now in
    let job = c.in-Ok.turn.0 in
    let is = is_called s.store c.call-called.new.self c.args.call.now c.as_slice.result.now c.in-Ok.turn.0 c.in-Ok.turn.1 c.as_slice.ensures.value c.law.ensures.declared c.law.ensures.fits c.law.ensures.each c.law.ensures.tickets c.in-Ok.ensures.kept c.in-Ok.ensures.called.0 in
    record {
      given = one_more s.store new call job c.in-Ok.turn.1 is;
      history = c.note-in-Abandoned.ensures.history ∙ ap (λ (t : Ticket). s.history.items ++ (t, became.Left) ∷ []) (next_is s.store new call job c.in-Ok.turn.1 is);
      waiters = waits_as_before s.waiters;
      due = refl;
    }

pub returns-in-Abandoned-clause-served : goal.returns-in-Abandoned-clause-served
returns-in-Abandoned-clause-served c apart =
    let s = c.args.self.now in
    let new = c.call-called.new.self in
    let call = c.args.call.now in
    let job = c.in-Ok.turn.0 in
    let is = is_called s.store c.call-called.new.self c.args.call.now c.as_slice.result.now c.in-Ok.turn.0 c.in-Ok.turn.1 c.as_slice.ensures.value c.law.ensures.declared c.law.ensures.fits c.law.ensures.each c.law.ensures.tickets c.in-Ok.ensures.kept c.in-Ok.ensures.called.0 in
    call_served s.store new call job c.in-Ok.turn.1 is (λ e same. absurd (cc (same, c.in-Abandoned.is)))

-- it waits
pub invariant_of-self-in-Parked-clause-seated : goal.invariant_of-self-in-Parked-clause-seated
invariant_of-self-in-Parked-clause-seated c =
    let s = c.args.self.now in
    let new = c.call-called.new.self in
    let call = c.args.call.now in
    let job = c.in-Ok.turn.0 in
    let is = is_called s.store c.call-called.new.self c.args.call.now c.as_slice.result.now c.in-Ok.turn.0 c.in-Ok.turn.1 c.as_slice.ensures.value c.law.ensures.declared c.law.ensures.fits c.law.ensures.each c.law.ensures.tickets c.in-Ok.ensures.kept c.in-Ok.ensures.called.0 in
    let parked = subst (IsCalled s.store new call job) c.in-Parked.is is in
    seated_still s.store new s.waiters job.ticket c.law.ensures.tickets is.runs.is_new.ticket (call_stays s.store new call job parked).stays s.seated

pub invariant_of-self-in-Parked-clause-accounts : goal.invariant_of-self-in-Parked-clause-accounts
invariant_of-self-in-Parked-clause-accounts c =
    let s = c.args.self.now in
    let new = c.call-called.new.self in
    let call = c.args.call.now in
    let job = c.in-Ok.turn.0 in
    let is = is_called s.store c.call-called.new.self c.args.call.now c.as_slice.result.now c.in-Ok.turn.0 c.in-Ok.turn.1 c.as_slice.ensures.value c.law.ensures.declared c.law.ensures.fits c.law.ensures.each c.law.ensures.tickets c.in-Ok.ensures.kept c.in-Ok.ensures.called.0 in
    let parked = subst (IsCalled s.store new call job) c.in-Parked.is is in
    let h = call_stays s.store new call job parked in
    ∥∥₁_map s.accounts (accounts_stay s.first.value s.store new s.history.items h.stays.catalogue h.present h.stays.over (stayed_over s.store new job.ticket call h))

pub sit-requires : goal.sit-requires
sit-requires c =
    let s = c.args.self.now in
    let new = c.call-called.new.self in
    let call = c.args.call.now in
    let job = c.in-Ok.turn.0 in
    let is = is_called s.store c.call-called.new.self c.args.call.now c.as_slice.result.now c.in-Ok.turn.0 c.in-Ok.turn.1 c.as_slice.ensures.value c.law.ensures.declared c.law.ensures.fits c.law.ensures.each c.law.ensures.tickets c.in-Ok.ensures.kept c.in-Ok.ensures.called.0 in
    let parked = subst (IsCalled s.store new call job) c.in-Parked.is is in
    record {
      is_open = ∣ (call_stays s.store new call job parked).is_open ∣₁;
      nobody = nobody_new s.store s.waiters job.ticket c.law.ensures.tickets is.runs.is_new.ticket s.seated;
    }

pub returns-in-Parked-clause-answered : goal.returns-in-Parked-clause-answered
returns-in-Parked-clause-answered c =
    let s = c.args.self.now in
    let new = c.call-called.new.self in
    let call = c.args.call.now in
    let job = c.in-Ok.turn.0 in
    let is = is_called s.store c.call-called.new.self c.args.call.now c.as_slice.result.now c.in-Ok.turn.0 c.in-Ok.turn.1 c.as_slice.ensures.value c.law.ensures.declared c.law.ensures.fits c.law.ensures.each c.law.ensures.tickets c.in-Ok.ensures.kept c.in-Ok.ensures.called.0 in
    let parked = subst (IsCalled s.store new call job) c.in-Parked.is is in
    sit_answers s _ new call c.args.way c.args.whose job.ticket c.sit.result (one_more s.store new call job c.in-Ok.turn.1 is) c.sit.ensures.tickets (only_waits c.args.way c.in-Ok.turn.1 c.in-Parked.is c.in-Ok.ensures.called.1) (next_is s.store new call job c.in-Ok.turn.1 is) (call_parked s.store new call job parked)
    c.sit.ensures.seated c.sit.ensures.asked c.sit.ensures.refused c.sit.ensures.left

pub returns-in-Parked-clause-served : goal.returns-in-Parked-clause-served
returns-in-Parked-clause-served c apart served =
    let s = c.args.self.now in
    let new = c.call-called.new.self in
    let call = c.args.call.now in
    let job = c.in-Ok.turn.0 in
    let is = is_called s.store c.call-called.new.self c.args.call.now c.as_slice.result.now c.in-Ok.turn.0 c.in-Ok.turn.1 c.as_slice.ensures.value c.law.ensures.declared c.law.ensures.fits c.law.ensures.each c.law.ensures.tickets c.in-Ok.ensures.kept c.in-Ok.ensures.called.0 in
    c.sit.ensures.served (call_served s.store new call job c.in-Ok.turn.1 is (λ e same. absurd (cc (same, c.in-Parked.is))) served)

-- for each that runs a call waits, and nothing is handed out
pub returns-in-Err-clause-awaited : goal.returns-in-Err-clause-awaited
returns-in-Err-clause-awaited c =
    let s = c.args.self.now in
    alike_awaited s.store c.call-called.new.self s.waiters s.waiters c.in-Err.ensures.called.1.0 c.in-Err.ensures.called.1.1 (λ t some. some)

pub returns-in-Err-clause-hands_out : goal.returns-in-Err-clause-hands_out
returns-in-Err-clause-hands_out c = alike_hands_out _ _ refl refl c.in-Err.ensures.called.1.0

pub returns-in-Entered-clause-awaited : goal.returns-in-Entered-clause-awaited
returns-in-Entered-clause-awaited c =
    let s = c.args.self.now in
    let is = is_called s.store c.call-called.new.self c.args.call.now c.as_slice.result.now c.in-Ok.turn.0 c.in-Ok.turn.1 c.as_slice.ensures.value c.law.ensures.declared c.law.ensures.fits c.law.ensures.each c.law.ensures.tickets c.in-Ok.ensures.kept c.in-Ok.ensures.called.0 in
    call_awaited s.store c.call-called.new.self s.waiters s.waiters c.args.call.now c.in-Ok.turn.0 c.in-Ok.turn.1 is (λ t some. some)

pub returns-in-Entered-clause-hands_out : goal.returns-in-Entered-clause-hands_out
returns-in-Entered-clause-hands_out c =
    let s = c.args.self.now in
    let is = is_called s.store c.call-called.new.self c.args.call.now c.as_slice.result.now c.in-Ok.turn.0 c.in-Ok.turn.1 c.as_slice.ensures.value c.law.ensures.declared c.law.ensures.fits c.law.ensures.each c.law.ensures.tickets c.in-Ok.ensures.kept c.in-Ok.ensures.called.0 in
    record { due = refl; long = refl; runs = λ k r. call_running s.store c.call-called.new.self c.args.call.now c.in-Ok.turn.0 c.in-Ok.turn.1 k is r }

pub returns-in-Abandoned-clause-awaited : goal.returns-in-Abandoned-clause-awaited
returns-in-Abandoned-clause-awaited c =
    let s = c.args.self.now in
    let is = is_called s.store c.call-called.new.self c.args.call.now c.as_slice.result.now c.in-Ok.turn.0 c.in-Ok.turn.1 c.as_slice.ensures.value c.law.ensures.declared c.law.ensures.fits c.law.ensures.each c.law.ensures.tickets c.in-Ok.ensures.kept c.in-Ok.ensures.called.0 in
    call_awaited s.store c.call-called.new.self s.waiters s.waiters c.args.call.now c.in-Ok.turn.0 c.in-Ok.turn.1 is (λ t some. some)

pub returns-in-Abandoned-clause-hands_out : goal.returns-in-Abandoned-clause-hands_out
returns-in-Abandoned-clause-hands_out c =
    let s = c.args.self.now in
    let is = is_called s.store c.call-called.new.self c.args.call.now c.as_slice.result.now c.in-Ok.turn.0 c.in-Ok.turn.1 c.as_slice.ensures.value c.law.ensures.declared c.law.ensures.fits c.law.ensures.each c.law.ensures.tickets c.in-Ok.ensures.kept c.in-Ok.ensures.called.0 in
    record { due = refl; long = refl; runs = λ k r. call_running s.store c.call-called.new.self c.args.call.now c.in-Ok.turn.0 c.in-Ok.turn.1 k is r }

pub returns-in-Parked-clause-awaited : goal.returns-in-Parked-clause-awaited
returns-in-Parked-clause-awaited c all =
    let s = c.args.self.now in
    let is = is_called s.store c.call-called.new.self c.args.call.now c.as_slice.result.now c.in-Ok.turn.0 c.in-Ok.turn.1 c.as_slice.ensures.value c.law.ensures.declared c.law.ensures.fits c.law.ensures.each c.law.ensures.tickets c.in-Ok.ensures.kept c.in-Ok.ensures.called.0 in
    c.sit.ensures.awaited (call_awaited s.store c.call-called.new.self s.waiters s.waiters c.args.call.now c.in-Ok.turn.0 c.in-Ok.turn.1 is (λ t some. some) all)

pub returns-in-Parked-clause-hands_out : goal.returns-in-Parked-clause-hands_out
returns-in-Parked-clause-hands_out c =
    let s = c.args.self.now in
    let is = is_called s.store c.call-called.new.self c.args.call.now c.as_slice.result.now c.in-Ok.turn.0 c.in-Ok.turn.1 c.as_slice.ensures.value c.law.ensures.declared c.law.ensures.fits c.law.ensures.each c.law.ensures.tickets c.in-Ok.ensures.kept c.in-Ok.ensures.called.0 in
    let sat = c.sit.ensures.hands_out in
    record { due = sat.due; long = sat.long; runs = λ k r. call_running s.store c.call-called.new.self c.args.call.now c.in-Ok.turn.0 c.in-Ok.turn.1 k is (sat.runs k r) }

-- only where its transaction takes memory
pub returns-in-Err-clause-memory : goal.returns-in-Err-clause-memory
returns-in-Err-clause-memory c same tries =
    absurd (refused_memory c.args.way c.args.self.now.store c.args.call.now.tx c.as_slice.result.now c.in-Err.why c.in-Err.ensures.called.0 same)

pub returns-in-Abandoned-clause-memory : goal.returns-in-Abandoned-clause-memory
returns-in-Abandoned-clause-memory c same tries =
    let s = c.args.self.now in
    let new = c.call-called.new.self in
    let call = c.args.call.now in
    let job = c.in-Ok.turn.0 in
    let is = is_called s.store c.call-called.new.self c.args.call.now c.as_slice.result.now c.in-Ok.turn.0 c.in-Ok.turn.1 c.as_slice.ensures.value c.law.ensures.declared c.law.ensures.fits c.law.ensures.each c.law.ensures.tickets c.in-Ok.ensures.kept c.in-Ok.ensures.called.0 in
    call_memory s.store new call job (subst (IsCalled s.store new call job) c.in-Abandoned.is is) c.law.ensures.wide

pub returns-in-Parked-clause-memory : goal.returns-in-Parked-clause-memory
returns-in-Parked-clause-memory c same tries = absurd (c.in-Ok.ensures.called.1 tries c.in-Parked.is)

-- the chapter goes on
pub returns-in-Err-clause-within : goal.returns-in-Err-clause-within
returns-in-Err-clause-within c =
    stays_same c.args.self.now.store c.call-called.new.self (ap (λ (b : BookView). b.catalogue) c.in-Err.ensures.called.1.0)

pub returns-in-Entered-clause-within : goal.returns-in-Entered-clause-within
returns-in-Entered-clause-within c =
    let s = c.args.self.now in
    let is = is_called s.store c.call-called.new.self c.args.call.now c.as_slice.result.now c.in-Ok.turn.0 c.in-Ok.turn.1 c.as_slice.ensures.value c.law.ensures.declared c.law.ensures.fits c.law.ensures.each c.law.ensures.tickets c.in-Ok.ensures.kept c.in-Ok.ensures.called.0 in
    stays_called s.store c.call-called.new.self c.args.call.now c.in-Ok.turn.0 c.in-Ok.turn.1 is

pub returns-in-Abandoned-clause-within : goal.returns-in-Abandoned-clause-within
returns-in-Abandoned-clause-within c =
    let s = c.args.self.now in
    let is = is_called s.store c.call-called.new.self c.args.call.now c.as_slice.result.now c.in-Ok.turn.0 c.in-Ok.turn.1 c.as_slice.ensures.value c.law.ensures.declared c.law.ensures.fits c.law.ensures.each c.law.ensures.tickets c.in-Ok.ensures.kept c.in-Ok.ensures.called.0 in
    stays_called s.store c.call-called.new.self c.args.call.now c.in-Ok.turn.0 c.in-Ok.turn.1 is

pub returns-in-Parked-clause-within : goal.returns-in-Parked-clause-within
returns-in-Parked-clause-within c =
    let s = c.args.self.now in
    let is = is_called s.store c.call-called.new.self c.args.call.now c.as_slice.result.now c.in-Ok.turn.0 c.in-Ok.turn.1 c.as_slice.ensures.value c.law.ensures.declared c.law.ensures.fits c.law.ensures.each c.law.ensures.tickets c.in-Ok.ensures.kept c.in-Ok.ensures.called.0 in
    stays_then s.store c.call-called.new.self c.sit.new.self.store (stays_called s.store c.call-called.new.self c.args.call.now c.in-Ok.turn.0 c.in-Ok.turn.1 is) c.sit.ensures.listing
