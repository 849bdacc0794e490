use Rattle.std.proofs.Common.{◌≡◌, ℕ, ◌+◌, ◌*◌, subst, refl, arith}
use Rattle.world_law.specs.declared.events.Event.TheVariants.{Value}
use Rattle.world_law.specs.World.{value_now}
use Rattle.world.specs.declared.trial.Trial.{Trial}
use Rattle.world.specs.Trials.{LoadsValue}
use Rattle.world.specs.Inside.{world_of}
use Rattle.world.proofs.Seeing.{read_is, word_read}
use Rattle.world.proofs.Standing.{reading_from}
use Rattle.world.proofs.Putting.{idle_leads}
use Rattle.world.proofs.Loading.{value_leads}
use Rattle.world.proofs.reading.value.Goals as goal

pub returns-in-Some : goal.returns-in-Some
returns-in-Some c =
    let s = c.args.scene.now in
    let f = c.in-Some.ensures in
    let same : c.index_mut.result.now ≡ f.0 = read_is s.trials.items c.in-Some.place f.0 c.index_mut.result.now f.1.0 c.index_mut.ensures.value in
    let word : c.index-bits.result.now ≡ value_now (world_of s) c.in-Some.x = word_read s.words.items (2 * c.in-Some.x.0 + 2) c.index-bits.result.now (omega (arith, c.requires.wide, f.4)) c.index-bits.ensures in
    let h : LoadsValue f.0 (value_now (world_of s) c.in-Some.x) c.load_value.result c.load_value.new.self =
    subst (λ (t : Trial). LoadsValue t (value_now (world_of s) c.in-Some.x) c.load_value.result c.load_value.new.self) same
    (subst (λ (n : ℕ). LoadsValue c.index_mut.result.now n c.load_value.result c.load_value.new.self) word c.load_value.ensures) in
    value_leads s c.args.task c.in-Some.x c.in-Some.place f.0 c.load_value.new.self c.load_value.result c.requires f.1 f.3 f.2 h

pub returns-in-None : goal.returns-in-None
returns-in-None c =
    let s = c.args.scene.now in
    idle_leads s (Value c.args.task) c.requires (λ i first y x q. let u = reading_from s c.args.task i y x _ c.requires q in c.in-None.ensures i u.0 x u.1 u.2, refl)
