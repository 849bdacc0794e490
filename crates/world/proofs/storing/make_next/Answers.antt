use Rattle.std.proofs.Common.{◌≡◌, ◌*◌, length, sym, subst, arith}
use Rattle.std.proofs.lemmas.Option.{slice_get_within}
use Rattle.world_law.proofs.Framed.{sound_by}
use Rattle.world_law.specs.declared.events.Event.TheVariants.{Word}
use Rattle.world_law.specs.declared.events.Seen.TheVariants as seen
use Rattle.world_law.specs.declared.events.Fate.TheVariants as fate
use Rattle.world.specs.declared.trial.Trial.{Trial}
use Rattle.world.specs.Inside.{listing, with_trial, Leads}
use Rattle.world.specs.Steps.{with_committer}
use Rattle.world.proofs.Seeing.{read_is}
use Rattle.world.proofs.Working.{may_write, stored_leads, finished_leads}
use Rattle.world.proofs.storing.make_next.Goals as goal

pub write-requires : goal.write-requires
write-requires c =
    let s = c.args.scene.now in
    may_write s c.args.publishing c.next_store-store.result c.requires.kept c.next_store-store.ensures (sound_by (listing s) c.rules.ensures.names c.rules.ensures.valued) c.requires.reached

pub index_mut-requires : goal.index_mut-requires
index_mut-requires c =
    let r = c.requires.kept.committer.runs in
    omega (arith, c.args.scene.now.trials.ok.0, slice_get_within c.args.scene.now.trials.items c.args.publishing.place r.0 r.1)

pub returns-then-publishing-len : goal.returns-then-publishing-len
returns-then-publishing-len c =
    let s = c.args.scene.now in
    let p = c.args.publishing in
    let r = c.requires.kept.committer.runs in
    let same : c.index_mut.result.now ≡ r.0 = read_is s.trials.items p.place r.0 c.index_mut.result.now r.1 c.index_mut.ensures.value in
    let last : p.stored ≡ 3 * length p.changes.items = omega (arith, c.if-publishing-len.true, c.len.ensures, p.changes.ok.0) in
    subst (λ (t : Trial). Leads (with_committer s p) Word (seen.Committed p.number)
    (with_trial (record s { words = c.write.new.words; count = c.counted-scene.result }) p.place (record t { fate = fate.Committed p.number }))) (sym same)
    (finished_leads s p c.next_store-store.result c.requires.kept c.next_store-store.ensures c.write.new.words c.counted-scene.result c.write.ensures c.counted-scene.ensures
    r.0 s.committer c.requires.none r.1 r.2 last)

pub returns : goal.returns
returns c =
    let s = c.args.scene.now in
    let p = c.args.publishing in
    stored_leads s p c.next_store-store.result c.requires.kept c.next_store-store.ensures c.write.new.words c.counted-scene.result c.write.ensures c.counted-scene.ensures
    (λ e. c.if-publishing-len.false (omega (arith, e, c.len.ensures, p.changes.ok.0)))
