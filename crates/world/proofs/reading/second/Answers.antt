use Rattle.std.proofs.Common.{◌≡◌, ℕ, ◌+◌, ◌*◌, sym, ap, ◌∙◌, subst, refl, arith, rules}
use Rattle.attempt.specs.View.{Answers}
use Rattle.attempt.specs.declared.next.Next.{Next}
use Rattle.world_law.specs.declared.events.Event.TheVariants.{Second}
use Rattle.world_law.specs.World.{version_now}
use Rattle.world.specs.declared.trial.Trial.{Trial}
use Rattle.world.specs.Trials.{CanEndRead, LoadsSecond}
use Rattle.world.specs.Inside.{world_of, with_trial, Stays}
use Rattle.world.proofs.Seeing.{read_is, word_read, on_err}
use Rattle.world.proofs.Standing.{reading_from}
use Rattle.world.proofs.Putting.{idle_leads, put_stays}
use Rattle.world.proofs.Checks.{second_leads, can_end, checks_now}
use Rattle.world.proofs.reading.second.Goals as goal

pub load_second-requires : goal.load_second-requires
load_second-requires c =
    let s = c.args.scene.now in
    let f = c.in-Some.ensures in
    let same : c.index_mut.result.now ≡ f.0 = read_is s.trials.items c.in-Some.place f.0 c.index_mut.result.now f.1.0 c.index_mut.ensures.value in
    subst (λ (t : Trial). CanEndRead t c.in-Some.x t.check) (sym same) (can_end s c.in-Some.place f.0 c.in-Some.x c.requires f.1.0 f.2)

pub returns-in_err-seen-in-Some-clause-refused : goal.returns-in_err-seen-in-Some-clause-refused
returns-in_err-seen-in-Some-clause-refused c =
    let s = c.args.scene.now in
    let f = c.in-Some.ensures in
    let same : c.index_mut.result.now ≡ f.0 = read_is s.trials.items c.in-Some.place f.0 c.index_mut.result.now f.1.0 c.index_mut.ensures.value in
    on_err c.from_residual.result _ (subst (λ (t : Trial). Stays s (with_trial s c.in-Some.place t)) (sym (c.in_err-seen-in-Some.ensures.refused ∙ same)) (put_stays s c.in-Some.place f.0 c.requires f.1.0))

pub returns-in_ok-seen-in-Some-clause-ok : goal.returns-in_ok-seen-in-Some-clause-ok
returns-in_ok-seen-in-Some-clause-ok c =
    let s = c.args.scene.now in
    let f = c.in-Some.ensures in
    let x = c.in-Some.x in
    let same : c.index_mut.result.now ≡ f.0 = read_is s.trials.items c.in-Some.place f.0 c.index_mut.result.now f.1.0 c.index_mut.ensures.value in
    let word : c.index-version.result.now ≡ version_now (world_of s) x = word_read s.words.items (2 * x.0 + 1) c.index-version.result.now (omega (arith, c.requires.wide, f.4)) c.index-version.ensures in
    let h : LoadsSecond f.0 x (version_now (world_of s) x) c.in_ok-seen-in-Some.seen c.load_second.new.self =
    subst (λ (t : Trial). LoadsSecond t x (version_now (world_of s) x) c.in_ok-seen-in-Some.seen c.load_second.new.self) same
    (subst (λ (n : ℕ). LoadsSecond c.index_mut.result.now x n c.in_ok-seen-in-Some.seen c.load_second.new.self) word c.in_ok-seen-in-Some.ensures.ok) in
    second_leads s c.args.task x c.in-Some.place f.0 c.load_second.new.self c.in_ok-seen-in-Some.seen c.requires f.1 f.3 f.2 h

pub returns-in-None-clause-ok : goal.returns-in-None-clause-ok
returns-in-None-clause-ok c =
    let s = c.args.scene.now in
    idle_leads s (Second c.args.task) c.requires (λ i first bits y x q. let u = reading_from s c.args.task i y x _ c.requires q in c.in-None.ensures i u.0 x u.1 u.2, refl)

pub returns-in_err-seen-in-Some-clause-checks : goal.returns-in_err-seen-in-Some-clause-checks
returns-in_err-seen-in-Some-clause-checks c h =
    let s = c.args.scene.now in
    let f = c.in-Some.ensures in
    let same : c.index_mut.result.now ≡ f.0 = read_is s.trials.items c.in-Some.place f.0 c.index_mut.result.now f.1.0 c.index_mut.ensures.value in
    let sure = c.load_second.ensures.sure (λ e. checks_now s c.args.task c.in-Some.place f.0 f.1 h (ap (λ (t : Trial). t.check) (sym same) ∙ e)) in
    search (rules, sure)
