use Rattle.std.proofs.Common.{subst}
use Rattle.std.specs.List.{All}
use Rattle.txn_programs.specs.Standing.{Upholds}
use Rattle.world_law.specs.Opacity.{Opaque, WordsFit}
use Rattle.world_law.proofs.Framed.{sound_by}
use Rattle.world_law.proofs.Reached.{reached_opaque, reached_words}
use Rattle.world_law.proofs.Upheld.{reached_upheld}
use Rattle.world.specs.View.{WorldView}
use Rattle.world.specs.Inside.{listing, world_of}
use Rattle.world.proofs.world.World.opaque.Goals as goal

pub returns-clause-opaque : goal.returns-clause-opaque
returns-clause-opaque c =
    let s = c.self.inside.scene in
    subst (λ (v : WorldView). Opaque v.listing v.world) c.self.view_is
    (reached_opaque (listing s) (sound_by (listing s) c.rules.ensures.names c.rules.ensures.valued) (world_of s) c.self.invariant.reached)

pub returns-clause-words : goal.returns-clause-words
returns-clause-words c =
    let s = c.self.inside.scene in
    subst (λ (v : WorldView). WordsFit v.listing v.world) c.self.view_is
    (reached_words (listing s) (sound_by (listing s) c.rules.ensures.names c.rules.ensures.valued) (world_of s) c.self.invariant.reached)

pub returns-clause-upheld : goal.returns-clause-upheld
returns-clause-upheld c =
    let s = c.self.inside.scene in
    subst (λ (v : WorldView). All (λ m. Upholds v.listing m) v.world.history) c.self.view_is
    (reached_upheld (listing s) (sound_by (listing s) c.rules.ensures.names c.rules.ensures.valued) c.rules.ensures.upheld (world_of s) c.self.invariant.reached)
