use Rattle.std.proofs.Common.{◌≡◌, Some, sym, ap, ◌∙◌, subst}
use Rattle.world.specs.declared.trial.Trial.{Trial}
use Rattle.world.specs.Trials.{shortened_trial}
use Rattle.world.specs.Inside.{with_trial, IsLetGo, Stays}
use Rattle.world.proofs.Seeing.{read_is}
use Rattle.world.proofs.Finished.{shortened_stays}
use Rattle.world.proofs.LetGo.{others_let_go, shortened_let_go, still_about}
use Rattle.world.proofs.finishing.settle.Goals as goal

pub returns-then-is_finished-clause-stays : goal.returns-then-is_finished-clause-stays
returns-then-is_finished-clause-stays c =
    let s = c.args.scene.now in
    let i = c.in-Some.place in
    let f = c.is_finished.ensures.0 c.if-is_finished.true in
    let same : c.index_mut.result.now ≡ f.0 = read_is s.trials.items i f.0 c.index_mut.result.now f.1 c.index_mut.ensures.value in
    subst (λ (t : Trial). Stays s (with_trial s i t)) (sym (c.shorten.ensures ∙ ap shortened_trial same)) (shortened_stays s i c.requires f)

pub returns-then-is_finished-clause-let_go : goal.returns-then-is_finished-clause-let_go
returns-then-is_finished-clause-let_go c =
    let s = c.args.scene.now in
    let i = c.in-Some.place in
    let gone : IsLetGo (with_trial s i c.shorten.new.self) (Some i) = subst (λ (t : Trial). IsLetGo (with_trial s i t) (Some i)) (sym c.shorten.ensures) (shortened_let_go s i c.index_mut.result.now) in
    subst (IsLetGo (with_trial s i c.shorten.new.self)) (sym c.in-Some.is) gone

pub returns-then-is_finished-clause-others : goal.returns-then-is_finished-clause-others
returns-then-is_finished-clause-others c =
    let s = c.args.scene.now in
    let i = c.in-Some.place in
    λ other was. subst (λ (t : Trial). IsLetGo (with_trial s i t) other) (sym c.shorten.ensures) (others_let_go s i c.index_mut.result.now other was)

pub returns-then-is_finished-clause-about : goal.returns-then-is_finished-clause-about
returns-then-is_finished-clause-about c = λ event. still_about c.args.scene.now c.in-Some.place c.shorten.new.self event
