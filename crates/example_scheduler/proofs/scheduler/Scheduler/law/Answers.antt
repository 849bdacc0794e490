use Rattle.example_scheduler.proofs.Ordered.{order_of}
use Rattle.example_scheduler.proofs.scheduler.Scheduler.law.Goals as goal

pub returns : goal.returns
returns g c =
    let s = c.args.self.now in
    order_of _ s.store.catalogue.now _ s.store.book s.named c.requires s.first c.law.ensures.lawful
