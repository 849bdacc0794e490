use Rattle.std.proofs.Common.{◌≡◌, ◌∙◌, Ok, length, refl, sym, subst}
use Rattle.std.proofs.lemmas.Option.{same_Some}
use Rattle.txn_programs.specs.Listing.{Listing}
use Rattle.stm_store.specs.Asking.{IsPresentJob}
use Rattle.stm_store.specs.Bringing.{Judged}
use Rattle.stm_store.specs.declared.answers.End.{End}
use Rattle.stm_store.specs.declared.job.Job.{Job}
use Rattle.stm_desk.specs.Running.{noted_by}
use Rattle.stm_desk.proofs.Becoming.{brought_goes, none_alike}
use Rattle.stm_desk.proofs.Legal.{place_left}
use Rattle.stm_desk.proofs.Refusing.{bring_refused}
use Rattle.stm_desk.proofs.Settling.{alike_keeps, goes_running_all, kept_of, settles_awaited, settles_hands_on, settles_keeps}
use Rattle.stm_desk.proofs.work.Work.bring.Goals as goal

pub settle-requires : goal.settle-requires
settle-requires c =
    let s = c.args.self.now in
    place_left s.first.value s.store s.history.items s.places s.counted c.law.ensures.tickets s.accounts

-- it was entered, or waits on
pub invariant_of-self : goal.invariant_of-self
invariant_of-self c =
    let s = c.args.self.now in
    let new = c.bring.new.self in
    let w = c.args.worker.now in
    let job = c.in-Some.job in
    let h = c.in-Ok.ensures.brought in
    let same : h.0 ≡ job = same_Some h.0 job (sym h.1.ended ∙ (sym c.ended.ensures ∙ c.in-Some.is)) in
    let judged : Judged s.store.every s.store.book job.task w.attempt (Ok c.in-Ok.end) new.book = subst (λ (j : Job). Judged s.store.every s.store.book j.task w.attempt (Ok c.in-Ok.end) new.book) same h.2 in
    let g = brought_goes s.store new w.attempt job c.in-Ok.end c.in-Ok.ensures.kept c.law.ensures.tickets c.law.ensures.declared (subst (IsPresentJob s.store) same h.1.present) judged in
    let k = settles_keeps s.first.value s.closed s.store new job c.in-Ok.end (noted_by s) (c.settle.new.history.items, c.settle.new.places, c.settle.new.waiters) g
    (λ is. absurd (subst (λ (e : End). Judged s.store.every s.store.book job.task w.attempt (Ok e) new.book) is judged)) c.settle.ensures (kept_of s) in
    record {
      lends = λ none. subst (λ (l : Listing). length l.transactions ≡ 0) (sym c.in-Ok.ensures.kept.store.catalogue) (s.lends none);
      counted = k.counted;
      accounts = k.accounts;
      seated = k.seated;
      told = k.told;
    }

pub returns-in-Ok-clause-awaited : goal.returns-in-Ok-clause-awaited
returns-in-Ok-clause-awaited c all =
    let s = c.args.self.now in
    let new = c.bring.new.self in
    let w = c.args.worker.now in
    let job = c.in-Some.job in
    let h = c.in-Ok.ensures.brought in
    let same : h.0 ≡ job = same_Some h.0 job (sym h.1.ended ∙ (sym c.ended.ensures ∙ c.in-Some.is)) in
    let judged : Judged s.store.every s.store.book job.task w.attempt (Ok c.in-Ok.end) new.book = subst (λ (j : Job). Judged s.store.every s.store.book j.task w.attempt (Ok c.in-Ok.end) new.book) same h.2 in
    let g = brought_goes s.store new w.attempt job c.in-Ok.end c.in-Ok.ensures.kept c.law.ensures.tickets c.law.ensures.declared (subst (IsPresentJob s.store) same h.1.present) judged in
    settles_awaited s.store new job c.in-Ok.end (noted_by s) (c.settle.new.history.items, c.settle.new.places, c.settle.new.waiters) g c.settle.ensures (λ k t apart. all k t)

pub returns-in-Ok-clause-hands_on : goal.returns-in-Ok-clause-hands_on
returns-in-Ok-clause-hands_on c =
    settles_hands_on c.in-Some.job c.in-Ok.end (noted_by c.args.self.now) (c.settle.new.history.items, c.settle.new.places, c.settle.new.waiters) c.settle.ensures

pub returns-in-Ok-clause-hands_out : goal.returns-in-Ok-clause-hands_out
returns-in-Ok-clause-hands_out c =
    let s = c.args.self.now in
    let new = c.bring.new.self in
    let w = c.args.worker.now in
    let job = c.in-Some.job in
    let h = c.in-Ok.ensures.brought in
    let same : h.0 ≡ job = same_Some h.0 job (sym h.1.ended ∙ (sym c.ended.ensures ∙ c.in-Some.is)) in
    let judged : Judged s.store.every s.store.book job.task w.attempt (Ok c.in-Ok.end) new.book = subst (λ (j : Job). Judged s.store.every s.store.book j.task w.attempt (Ok c.in-Ok.end) new.book) same h.2 in
    let g = brought_goes s.store new w.attempt job c.in-Ok.end c.in-Ok.ensures.kept c.law.ensures.tickets c.law.ensures.declared (subst (IsPresentJob s.store) same h.1.present) judged in
    record { due = refl; long = refl; runs = goes_running_all s.store new job c.in-Ok.end g }

-- it was refused
pub invariant_of-self-in-Err-1 : goal.invariant_of-self-in-Err-1
invariant_of-self-in-Err-1 c =
    let s = c.args.self.now in
    let new = c.bring.new.self in
    let a = none_alike s.store new c.in-Err.ensures.kept (bring_refused s.store new c.args.worker.now c.in-Err.why c.in-Err.ensures.brought) in
    let k = alike_keeps s.first.value s.closed s.store new (noted_by s) a (kept_of s) in
    record {
      lends = λ none. subst (λ (l : Listing). length l.transactions ≡ 0) (sym a.kept.store.catalogue) (s.lends none);
      counted = k.counted;
      accounts = k.accounts;
      seated = k.seated;
      told = k.told;
    }
