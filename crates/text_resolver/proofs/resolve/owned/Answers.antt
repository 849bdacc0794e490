use Rattle.text_resolver.proofs.Texts.{one_owned}
use Rattle.text_resolver.proofs.resolve.owned.Goals as goal

pub names-preserved : goal.names-preserved
names-preserved c =
    rw c.in_ok-push.ensures.items (one_owned c.names.made.items c.in_ok-text.text c.args.names.now c.names.name-index _ c.names-test.true c.in_ok-text.ensures.ok c.names.invariant)
