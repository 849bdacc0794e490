use Rattle.std.proofs.Common.{◌∙◌, subst}
use Rattle.world_law.specs.declared.events.Event.TheVariants.{Word}
use Rattle.world_law.specs.declared.events.Seen.{Seen}
use Rattle.world_law.specs.Next.{Next}
use Rattle.world.proofs.Stored.{stores_more, goes_on}
use Rattle.world.proofs.playing.store_all.Goals as goal

pub stores-preserved : goal.stores-preserved
stores-preserved c =
    let i = c.stores.invariant in
    let a = c.stores.world in
    let b = c.step.new.self in
    let stored = subst (λ (s : Seen). Next a.listing a.world Word s b.world) c.in-Stored.is c.in_ok-seen.ensures.ok in
    record {
      listing = c.in_ok-seen.ensures.listing ∙ i.listing;
      some = stores_more c.args.world.now.listing a.listing c.args.world.now.world a.world b.world i.listing i.some stored;
      committing = goes_on a.listing a.world b.world c.args.number i.committing stored;
    }
