use Rattle.std.proofs.Common.{◌≡◌, sym, ◌∙◌, subst, refl, arith, true≢false}
use Rattle.std.proofs.lemmas.Option.{slice_get_within}
use Rattle.world_law.specs.declared.events.Event.TheVariants.{Drop}
use Rattle.world_law.specs.declared.events.Seen.TheVariants as seen
use Rattle.world_law.specs.declared.events.Fate.TheVariants as fate
use Rattle.world.specs.declared.trial.Trial.{Trial}
use Rattle.world.specs.Inside.{with_trial, Leads}
use Rattle.world.proofs.Seeing.{read_is}
use Rattle.world.proofs.Standing.{running_from}
use Rattle.world.proofs.Putting.{idle_leads}
use Rattle.world.proofs.Owning.{drop_leads, drop_idle}
use Rattle.world.proofs.dropping.drop_attempt.Goals as goal

pub returns-then-is_committer : goal.returns-then-is_committer
returns-then-is_committer c =
    let s = c.args.scene.now in
    idle_leads s (Drop c.args.task) c.requires (drop_idle s c.args.task c.in-Some.place c.in-Some.ensures.2 (c.is_committer.ensures.0 c.if-is_committer.true))

pub index_mut-requires : goal.index_mut-requires
index_mut-requires c = omega (arith, c.args.scene.now.trials.ok.0, slice_get_within c.args.scene.now.trials.items c.in-Some.place c.in-Some.ensures.0 c.in-Some.ensures.1.0)

pub returns-else-is_committer : goal.returns-else-is_committer
returns-else-is_committer c =
    let s = c.args.scene.now in
    let f = c.in-Some.ensures in
    let same : c.index_mut.result.now ≡ f.0 = read_is s.trials.items c.in-Some.place f.0 c.index_mut.result.now f.1.0 c.index_mut.ensures.value in
    subst (λ (t : Trial). Leads s (Drop c.args.task) seen.Dropped (with_trial s c.in-Some.place (record t { fate = fate.Dropped }))) (sym same)
    (drop_leads s c.args.task c.in-Some.place f.0 c.requires f.1 (λ own. true≢false (sym (c.is_committer.ensures.1 own) ∙ c.if-is_committer.false)))

pub returns-in-None : goal.returns-in-None
returns-in-None c =
    let s = c.args.scene.now in
    idle_leads s (Drop c.args.task) c.requires (λ i y can. let u = running_from s c.args.task i y can.0 in c.in-None.ensures i u.0 u.1, refl)
