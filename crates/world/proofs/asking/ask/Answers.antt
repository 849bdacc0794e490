use Rattle.std.proofs.Common.{◌≡◌, sym, ◌∙◌, subst, arith, true≢false}
use Rattle.std.proofs.lemmas.Option.{slice_get_within}
use Rattle.world_law.specs.declared.events.Event.TheVariants.{Ask}
use Rattle.world_law.specs.declared.events.Seen.TheVariants as seen
use Rattle.world_law.specs.declared.events.Fate.TheVariants as fate
use Rattle.world.specs.declared.trial.Trial.{Trial}
use Rattle.world.specs.Inside.{with_trial, Leads}
use Rattle.world.proofs.Seeing.{read_is}
use Rattle.world.proofs.Putting.{idle_leads}
use Rattle.world.proofs.Ending.{none_by, ask_idle, stale_leads, parked_leads, commits_leads}
use Rattle.world.proofs.asking.ask.Goals as goal

pub returns-then-not-agrees_at-clause-ok : goal.returns-then-not-agrees_at-clause-ok
returns-then-not-agrees_at-clause-ok c =
    let s = c.args.scene.now in
    let f = c.in-Some.ensures in
    let empty = none_by s.committer (sym c.is_some.ensures ∙ c.if-is_some.false) in
    let same : c.index_mut.result.now ≡ f.0 = read_is s.trials.items c.in-Some.place f.0 c.index_mut.result.now f.2.0 c.index_mut.ensures.value in
    subst (λ (t : Trial). Leads s (Ask c.args.task) seen.Stale (with_trial s c.in-Some.place (record t { fate = fate.Stale }))) (sym same)
    (stale_leads s c.args.task c.requires c.in-Some.place f.0 f.1 empty f.2 f.3 (λ agree. true≢false (sym ((c.agrees_at.ensures f.0 f.2.0).1 agree) ∙ c.if-not-agrees_at.true)))

pub index_mut-requires-then-retried : goal.index_mut-requires-then-retried
index_mut-requires-then-retried c = omega (arith, c.args.scene.now.trials.ok.0, slice_get_within c.args.scene.now.trials.items c.in-Some.place c.in-Some.ensures.0 c.in-Some.ensures.2.0)

pub returns-then-retried-clause-ok : goal.returns-then-retried-clause-ok
returns-then-retried-clause-ok c =
    let s = c.args.scene.now in
    let f = c.in-Some.ensures in
    let empty = none_by s.committer (sym c.is_some.ensures ∙ c.if-is_some.false) in
    let same : c.index_mut-then-retried.result.now ≡ f.0 = read_is s.trials.items c.in-Some.place f.0 c.index_mut-then-retried.result.now f.2.0 c.index_mut-then-retried.ensures.value in
    subst (λ (t : Trial). Leads s (Ask c.args.task) seen.Parked (with_trial s c.in-Some.place (record t { fate = fate.Parked }))) (sym same)
    (parked_leads s c.args.task c.requires c.in-Some.place f.0 f.1 empty f.2 f.3 ((c.agrees_at.ensures f.0 f.2.0).0 c.if-not-agrees_at.false) (f.5.0 c.if-retried.true))

pub returns-in_ok-seen-in-Some-clause-ok : goal.returns-in_ok-seen-in-Some-clause-ok
returns-in_ok-seen-in-Some-clause-ok c =
    let s = c.args.scene.now in
    let f = c.in-Some.ensures in
    let empty = none_by s.committer (sym c.is_some.ensures ∙ c.if-is_some.false) in
    commits_leads s c.args.task c.requires c.in-Some.place f.0 f.1 empty f.2 f.3 ((c.agrees_at.ensures f.0 f.2.0).0 c.if-not-agrees_at.false)
    (λ e. true≢false (sym (f.5.1 e) ∙ c.if-retried.false)) c.in_ok-seen-in-Some.seen c.commit.new.scene c.in_ok-seen-in-Some.ensures.ok

pub returns-in-None-clause-ok : goal.returns-in-None-clause-ok
returns-in-None-clause-ok c = idle_leads c.args.scene.now (Ask c.args.task) c.requires (ask_idle c.args.scene.now c.args.task c.requires c.in-None.ensures)
