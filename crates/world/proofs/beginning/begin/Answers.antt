use Rattle.std.proofs.Common.{◌≡◌, ◌∙◌, arith, slice_index}
use Rattle.world.specs.Inside.{listing}
use Rattle.world.proofs.Seeing.{on_err, word_read}
use Rattle.world.proofs.Putting.{items_stay}
use Rattle.world.proofs.Starting.{begin_leads, begins_at}
use Rattle.world.proofs.Unspent.{begins_unspent}
use Rattle.world.proofs.beginning.begin.Goals as goal

pub returns-in_err-push-clause-refused : goal.returns-in_err-push-clause-refused
returns-in_err-push-clause-refused c = on_err c.from_residual-in_err-push.result _ (items_stay c.args.scene.now c.push.new.self c.requires c.in_err-push.ensures.items)

pub returns-clause-ok : goal.returns-clause-ok
returns-clause-ok c =
    let s = c.args.scene.now in
    let word : c.index.result.now ≡ slice_index s.words.items 0 = word_read s.words.items 0 c.index.result.now (omega (arith, c.requires.wide)) c.index.ensures in
    begin_leads s c.push.new.self c.args.task _ _ c.len-place.result c.requires (c.can_begin.ensures.0 c.if-not-can_begin.false) c.in_ok-push.ensures.items
    (begins_at (listing s) c.args.task c.index.result.now (slice_index s.words.items 0) _ _ word c.in_ok-trial.ensures) (c.len-place.ensures ∙ s.trials.ok.0)

pub returns-clause-in_place : goal.returns-clause-in_place
returns-clause-in_place c short = begins_unspent (listing c.args.scene.now) c.args.task c.index.result.now _ _ c.in_ok-trial.ensures short
