use Rattle.std.proofs.Common.{subst}
use Rattle.world_law.specs.declared.events.Event.TheVariants.{First}
use Rattle.world_law.specs.declared.events.Seen.{Seen}
use Rattle.world_law.specs.Next.{Next}
use Rattle.world.proofs.Moved.{first_checking, value_checking}
use Rattle.world.proofs.playing.read.Goals as goal

pub returns-in_ok-step-in-Loaded-clause-sure : goal.returns-in_ok-step-in-Loaded-clause-sure
returns-in_ok-step-in-Loaded-clause-sure c h =
    let a = c.args.world.now in
    let b = c.step.new.self in
    let loaded = subst (λ (s : Seen). Next a.listing a.world (First c.args.task c.args.x) s b.world) c.in-Loaded.is c.in_ok-seen.ensures.ok in
    c.step-in-Loaded-2.ensures.checks (value_checking b.listing b.world c.step-in-Loaded.new.self.world c.args.task c.in_ok-step-in-Loaded.field-0 c.in_ok-step-in-Loaded.ensures.ok
    (first_checking a.listing a.world b.world c.args.task c.args.x loaded h))
