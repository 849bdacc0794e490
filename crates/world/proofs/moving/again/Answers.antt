use Rattle.std.proofs.Common.{◌≡◌, slice_index, subst, arith}
use Rattle.world.specs.declared.trial.Trial.{Trial}
use Rattle.world.specs.Trials.{GoesAgain}
use Rattle.world_law.specs.declared.events.Event.TheVariants.{Again}
use Rattle.world.proofs.Seeing.{read_is, word_read}
use Rattle.world.proofs.Putting.{idle_leads}
use Rattle.world.proofs.Checks.{again_leads, again_idle}
use Rattle.world.proofs.moving.again.Goals as goal

pub returns-in-Some : goal.returns-in-Some
returns-in-Some c =
    let s = c.args.scene.now in
    let f = c.in-Some.ensures in
    let same : c.index_mut.result.now ≡ f.0 = read_is s.trials.items c.in-Some.place f.0 c.index_mut.result.now f.1.0 c.index_mut.ensures.value in
    let word : c.index-clock.result.now ≡ slice_index s.words.items 0 = word_read s.words.items 0 c.index-clock.result.now (omega (arith, c.requires.wide)) c.index-clock.ensures in
    let h : GoesAgain f.0 (slice_index s.words.items 0) c.go_again.result c.go_again.new.self =
    subst (λ (t : Trial). GoesAgain t (slice_index s.words.items 0) c.go_again.result c.go_again.new.self) same
    (subst (λ (n : _). GoesAgain c.index_mut.result.now n c.go_again.result c.go_again.new.self) word c.go_again.ensures) in
    again_leads s c.args.task c.requires c.in-Some.place f.0 c.go_again.new.self c.go_again.result f.1 f.2 f.3 h

pub returns-in-None : goal.returns-in-None
returns-in-None c = idle_leads c.args.scene.now (Again c.args.task) c.requires (again_idle c.args.scene.now c.args.task c.requires c.in-None.ensures)
