use Rattle.std.proofs.Common.{subst}
use Rattle.world_law.specs.declared.events.Event.TheVariants.{Ask}
use Rattle.world_law.specs.declared.events.Seen.{Seen}
use Rattle.world_law.specs.Next.{Next}
use Rattle.world.proofs.Stored.{asked}
use Rattle.world.proofs.playing.commit.Goals as goal

pub store_all-requires : goal.store_all-requires
store_all-requires c =
    let a = c.args.world.now in
    let b = c.step.new.self in
    asked a.listing a.world b.world c.args.task c.in-Commits.number (subst (λ (s : Seen). Next a.listing a.world (Ask c.args.task) s b.world) c.in-Commits.is c.in_ok-seen.ensures.ok)
