use Rattle.std.proofs.Common.{◌≡◌, ◌<◌, ◌∙◌, ap, length, refl, sym, subst, slice_get, inl, inr, Some, Bool, List}
use Rattle.txn_programs.specs.Listing.{Listing}
use Rattle.book.specs.Tasks.{Running}
use Rattle.book.specs.View.{BookView}
use Rattle.book.proofs.Draining.{taken_running, weight_of}
use Rattle.stm_store.specs.Tickets.{AreTickets}
use Rattle.stm_store.specs.Working.{declaring}
use Rattle.stm_desk.specs.Running.{noted_by, IsLong}
use Rattle.stm_desk.proofs.Becoming.{goes_running, none_alike, present_on, ready_lighter, take_alike, takes_none, turn_goes, turned_lighter}
use Rattle.stm_desk.proofs.Refusing.{turn_always}
use Rattle.stm_desk.proofs.Settling.{alike_keeps, handed_awaited, kept_of, take_awaited, take_runs}
use Rattle.stm_desk.proofs.Lending.{lends_nothing, take_lends, turned_lends}
use Rattle.stm_desk.proofs.work.Work.serve_next.Goals as goal

-- none is ready
pub invariant_of-self : goal.invariant_of-self
invariant_of-self c =
    let s = c.args.self.now in
    let new = c.take.new.self in
    let a = none_alike s.store new c.in_default.ensures.kept (takes_none s.store new c.in_default.field-0 c.in_default.ensures.taken).1 in
    let k = alike_keeps s.first.value s.closed s.store new (noted_by s) a (kept_of s) in
    record {
      lends = λ none. subst (λ (l : Listing). length l.transactions ≡ 0) (sym a.kept.store.catalogue) (s.lends none);
      counted = k.counted;
      accounts = k.accounts;
      seated = k.seated;
      told = k.told;
    }

-- one was taken
pub invariant_of-self-2 : goal.invariant_of-self-2
invariant_of-self-2 c =
    let s = c.args.self.now in
    let mid = c.take.new.self in
    let a = take_alike s.store mid c.in-Ok.job c.in-Ok.ensures.kept c.in-Ok.ensures.taken in
    let k = alike_keeps s.first.value s.closed s.store mid (noted_by s) a (kept_of s) in
    record {
      lends = λ none. subst (λ (l : Listing). length l.transactions ≡ 0) (sym a.kept.store.catalogue) (s.lends none);
      counted = k.counted;
      accounts = k.accounts;
      seated = k.seated;
      told = k.told;
    }

-- and is handed out
pub returns-then-hand_out-clause-lighter : goal.returns-then-hand_out-clause-lighter
returns-then-hand_out-clause-lighter c is =
    let s = c.args.self.now in
    let taken = c.in-Ok.ensures.taken in
    subst (λ (b : BookView). weight_of b.tasks < weight_of s.store.book.tasks) (sym taken.0.2) (ready_lighter s.store.book.tasks c.in-Ok.job.task.0 taken.0.0)

pub returns-then-hand_out-clause-awaited : goal.returns-then-hand_out-clause-awaited
returns-then-hand_out-clause-awaited c all =
    let s = c.args.self.now in
    let mid = c.take.new.self in
    let job = c.in-Ok.job in
    let own = (present_on s.store mid job c.in-Ok.ensures.kept c.in-Ok.ensures.taken.1).0.ticket in
    handed_awaited mid s.waiters job own (c.hand_out.ensures.handed c.if-hand_out.true).1 (take_awaited s.store mid s.waiters job c.in-Ok.ensures.kept c.in-Ok.ensures.taken all)

pub returns-then-hand_out-clause-lends : goal.returns-then-hand_out-clause-lends
returns-then-hand_out-clause-lends c =
    let handed = c.hand_out.ensures.handed c.if-hand_out.true in
    take_lends c.args.self.now _ c.in-Ok.job c.in-Ok.ensures.kept c.in-Ok.ensures.taken handed.0 (subst (λ (xs : List Bool). IsLong xs c.in-Ok.job.tx) c.deref.ensures.value handed.3)

-- or has its turn
pub unreachable-requires : goal.unreachable-requires
unreachable-requires c =
    let s = c.args.self.now in
    let mid = c.take.new.self in
    let job = c.in-Ok.job in
    let taken = c.in-Ok.ensures.taken in
    turn_always mid job c.in-Err.field-0 (present_on s.store mid job c.in-Ok.ensures.kept taken.1) (taken_running s.store.book mid.book job.task taken.0) c.in-Err.ensures.refused

pub returns-clause-lighter : goal.returns-clause-lighter
returns-clause-lighter c is =
    let had = c.in-Ok-turn.ensures.turned in
    turned_lighter c.args.self.now.store c.take.new.self c.turn.new.self.store c.in-Ok.job had.0 c.in-Ok.ensures.taken had.1

pub returns-clause-awaited : goal.returns-clause-awaited
returns-clause-awaited c all =
    let s = c.args.self.now in
    c.in-Ok-turn.ensures.awaited (take_awaited s.store c.take.new.self s.waiters c.in-Ok.job c.in-Ok.ensures.kept c.in-Ok.ensures.taken all)

pub returns-clause-lends : goal.returns-clause-lends
returns-clause-lends c =
    let s = c.args.self.now in
    let mid = c.take.new.self in
    let new = c.turn.new.self in
    let job = c.in-Ok.job in
    let kept = c.in-Ok.ensures.kept in
    let had = c.in-Ok-turn.ensures.turned in
    let tickets = subst AreTickets (sym kept.tickets) c.law.ensures.tickets in
    let declared = ap declaring kept.listing ∙ (c.law.ensures.declared ∙ ap declaring (sym kept.store.catalogue)) in
    let due = c.in-Ok-turn.ensures.hands_out.due ∙ c.hand_out.ensures.kept c.if-hand_out.false in
    turned_lends s new mid job had.0 due c.in-Ok.ensures.taken (turn_goes mid new.store job had.0 c.in-Ok-turn.ensures.kept tickets declared had.1)

pub returns-in_default-clause-lends : goal.returns-in_default-clause-lends
returns-in_default-clause-lends c =
    let s = c.args.self.now in
    lends_nothing s _ refl (takes_none s.store c.take.new.self c.in_default.field-0 c.in_default.ensures.taken).1

-- none runs where nothing is handed out
pub returns-in_default-clause-still : goal.returns-in_default-clause-still
returns-in_default-clause-still c off still k runs =
    let s = c.args.self.now in
    let is = (takes_none s.store c.take.new.self c.in_default.field-0 c.in_default.ensures.taken).1 in
    still k (subst (λ (b : BookView). slice_get b.tasks k ≡ Some Running) is runs)

pub returns-then-hand_out-clause-still : goal.returns-then-hand_out-clause-still
returns-then-hand_out-clause-still c off still k runs =
    let on = (c.hand_out.ensures.handed c.if-hand_out.true).2 in
    absurd (cc (on, off))

pub returns-clause-still : goal.returns-clause-still
returns-clause-still c off still k runs =
    let s = c.args.self.now in
    let mid = c.take.new.self in
    let new = c.turn.new.self in
    let job = c.in-Ok.job in
    let kept = c.in-Ok.ensures.kept in
    let had = c.in-Ok-turn.ensures.turned in
    let tickets = subst AreTickets (sym kept.tickets) c.law.ensures.tickets in
    let declared = ap declaring kept.listing ∙ (c.law.ensures.declared ∙ ap declaring (sym kept.store.catalogue)) in
    let was = goes_running mid new.store job had.0 k (turn_goes mid new.store job had.0 c.in-Ok-turn.ensures.kept tickets declared had.1) runs in
    elim (take_runs s.store mid job k c.in-Ok.ensures.taken was.0) [
      | inl before ↦ still k before
      | inr same ↦ was.1 same
    ]
