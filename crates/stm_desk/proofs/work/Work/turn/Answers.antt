use Rattle.std.proofs.Common.{refl}
use Rattle.stm_desk.specs.Running.{noted_by}
use Rattle.stm_desk.proofs.Becoming.{abandons_memory, none_alike, turn_goes}
use Rattle.stm_desk.proofs.Legal.{place_left}
use Rattle.stm_desk.proofs.Refusing.{turn_refused}
use Rattle.stm_desk.proofs.Settling.{alike_keeps, goes_running_all, kept_of, settles_awaited, settles_hands_on, settles_keeps}
use Rattle.stm_desk.proofs.work.Work.turn.Goals as goal

pub settle-requires : goal.settle-requires
settle-requires c =
    let s = c.args.self.now in
    place_left s.first.value s.store s.history.items s.places s.counted c.law.ensures.tickets s.accounts

-- it had its turn
pub invariant_of-self : goal.invariant_of-self
invariant_of-self c =
    let s = c.args.self.now in
    let new = c.turn.new.self in
    let g = turn_goes s.store new c.args.job c.in-Ok.end c.in-Ok.ensures.kept c.law.ensures.tickets c.law.ensures.declared c.in-Ok.ensures.turn in
    let k = settles_keeps s.first.value s.closed s.store new c.args.job c.in-Ok.end (noted_by s) (c.settle.new.history.items, c.settle.new.places, c.settle.new.waiters) g
    (λ is. abandons_memory s.store new c.args.job c.in-Ok.end is c.law.ensures.declared c.law.ensures.wide c.in-Ok.ensures.turn) c.settle.ensures (kept_of s) in
    record {
      lends = λ none. absurd (cc (none));
      counted = k.counted;
      accounts = k.accounts;
      seated = k.seated;
      told = k.told;
    }

pub returns-in-Ok-clause-awaited : goal.returns-in-Ok-clause-awaited
returns-in-Ok-clause-awaited c =
    let s = c.args.self.now in
    let g = turn_goes s.store c.turn.new.self c.args.job c.in-Ok.end c.in-Ok.ensures.kept c.law.ensures.tickets c.law.ensures.declared c.in-Ok.ensures.turn in
    settles_awaited s.store c.turn.new.self c.args.job c.in-Ok.end (noted_by s) (c.settle.new.history.items, c.settle.new.places, c.settle.new.waiters) g c.settle.ensures

pub returns-in-Ok-clause-hands_on : goal.returns-in-Ok-clause-hands_on
returns-in-Ok-clause-hands_on c =
    settles_hands_on c.args.job c.in-Ok.end (noted_by c.args.self.now) (c.settle.new.history.items, c.settle.new.places, c.settle.new.waiters) c.settle.ensures

pub returns-in-Ok-clause-hands_out : goal.returns-in-Ok-clause-hands_out
returns-in-Ok-clause-hands_out c =
    let s = c.args.self.now in
    let g = turn_goes s.store c.turn.new.self c.args.job c.in-Ok.end c.in-Ok.ensures.kept c.law.ensures.tickets c.law.ensures.declared c.in-Ok.ensures.turn in
    record { due = refl; long = refl; runs = goes_running_all s.store c.turn.new.self c.args.job c.in-Ok.end g }

-- it was refused
pub invariant_of-self-in-Err-1 : goal.invariant_of-self-in-Err-1
invariant_of-self-in-Err-1 c =
    let s = c.args.self.now in
    let a = none_alike s.store c.turn.new.self c.in-Err.ensures.kept (turn_refused s.store c.turn.new.self c.args.job c.in-Err.why c.in-Err.ensures.turn) in
    let k = alike_keeps s.first.value s.closed s.store c.turn.new.self (noted_by s) a (kept_of s) in
    record {
      lends = λ none. absurd (cc (none));
      counted = k.counted;
      accounts = k.accounts;
      seated = k.seated;
      told = k.told;
    }
