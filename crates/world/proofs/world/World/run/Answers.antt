use Rattle.std.proofs.Common.{◌∙◌}
use Rattle.std.proofs.lemmas.Option.{slice_get-get_or}
use Rattle.world.proofs.Reaching.{leads_more}
use Rattle.world.proofs.world.World.run.Goals as goal

pub loop-place-preserved : goal.loop-place-preserved
loop-place-preserved c =
    let i = c.loop-place.invariant in (
      c.in-Ok.ensures.listing ∙ i.0,
      leads_more c.args.self.now.listing c.loop-place.self.listing c.args.events.now c.loop-place.place c.args.self.now.world c.loop-place.self.world c.step.new.self.world _ c.in-Ok.field-0
          (slice_get-get_or c.args.events.now c.loop-place.place _ c.loop-place-test.true) i.0 i.1 c.in-Ok.ensures.ok,
    )
