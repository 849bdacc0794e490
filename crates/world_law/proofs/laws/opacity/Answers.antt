use Rattle.world_law.proofs.Framed.{sound_by}
use Rattle.world_law.proofs.Reached.{reached_opaque, reached_words}
use Rattle.world_law.proofs.Upheld.{reached_upheld}
use Rattle.world_law.proofs.laws.opacity.Goals as goal

pub returns-clause-opaque : goal.returns-clause-opaque
returns-clause-opaque c = reached_opaque c.args.catalogue.now (sound_by c.args.catalogue.now c.rules.ensures.names c.rules.ensures.valued)

pub returns-clause-words : goal.returns-clause-words
returns-clause-words c = reached_words c.args.catalogue.now (sound_by c.args.catalogue.now c.rules.ensures.names c.rules.ensures.valued)

pub returns-clause-upheld : goal.returns-clause-upheld
returns-clause-upheld c = reached_upheld c.args.catalogue.now (sound_by c.args.catalogue.now c.rules.ensures.names c.rules.ensures.valued) c.rules.ensures.upheld
