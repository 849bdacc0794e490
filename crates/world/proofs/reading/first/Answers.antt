use Rattle.std.proofs.Common.{◌≡◌, ℕ, ◌+◌, ◌*◌, Some, ap, ◌∙◌, subst, refl, arith}
use Rattle.std.proofs.lemmas.Option.{slice_get_within}
use Rattle.txn_programs.specs.declared.ast.VarId.{VarId}
use Rattle.world_law.specs.declared.events.Event.TheVariants.{First}
use Rattle.world_law.specs.World.{version_now}
use Rattle.world.specs.declared.trial.Trial.{Trial}
use Rattle.world.specs.Trials.{LoadsFirst}
use Rattle.world.specs.Inside.{world_of}
use Rattle.world.proofs.Seeing.{read_is, word_read}
use Rattle.world.proofs.Standing.{reading_from}
use Rattle.world.proofs.Putting.{idle_leads}
use Rattle.world.proofs.Loading.{first_leads, first_idle}
use Rattle.world.proofs.reading.first.Goals as goal

pub returns-then-needed-x : goal.returns-then-needed-x
returns-then-needed-x c =
    let s = c.args.scene.now in
    let f = c.in-Some.ensures in
    idle_leads s (First c.args.task c.args.x) c.requires
    (first_idle s c.args.task c.args.x c.in-Some.needed c.in-Some.place f.0 c.requires f.1 f.3 f.2 (λ e. c.if-needed-x.true (ap (λ (v : VarId). v.0) e)))

pub index_mut-requires : goal.index_mut-requires
index_mut-requires c = omega (arith, c.args.scene.now.trials.ok.0, slice_get_within c.args.scene.now.trials.items c.in-Some.place c.in-Some.ensures.0 c.in-Some.ensures.1.0)

pub returns-else-needed-x : goal.returns-else-needed-x
returns-else-needed-x c =
    let s = c.args.scene.now in
    let f = c.in-Some.ensures in
    let same : c.index_mut.result.now ≡ f.0 = read_is s.trials.items c.in-Some.place f.0 c.index_mut.result.now f.1.0 c.index_mut.ensures.value in
    let x : c.in-Some.needed ≡ c.args.x = ap (λ (n : ℕ). let v : VarId = record { 0 = n } in v) c.if-needed-x.false in
    let word : c.index-version.result.now ≡ version_now (world_of s) c.args.x = word_read s.words.items (2 * c.args.x.0 + 1) c.index-version.result.now (omega (arith, c.requires.wide, f.4, c.if-needed-x.false)) c.index-version.ensures in
    let h : LoadsFirst f.0 (version_now (world_of s) c.args.x) c.load_first.result c.load_first.new.self =
    subst (λ (t : Trial). LoadsFirst t (version_now (world_of s) c.args.x) c.load_first.result c.load_first.new.self) same
    (subst (λ (n : ℕ). LoadsFirst c.index_mut.result.now n c.load_first.result c.load_first.new.self) word c.load_first.ensures) in
    first_leads s c.args.task c.args.x c.in-Some.place f.0 c.load_first.new.self c.load_first.result c.requires f.1 f.3 (f.2 ∙ ap (λ (v : VarId). Some v) x) h

pub returns-in-None : goal.returns-in-None
returns-in-None c =
    let s = c.args.scene.now in
    idle_leads s (First c.args.task c.args.x) c.requires (λ i y q. let u = reading_from s c.args.task i y c.args.x _ c.requires q in c.in-None.ensures i u.0 c.args.x u.1 u.2, refl)
