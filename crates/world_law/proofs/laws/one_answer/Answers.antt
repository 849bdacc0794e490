use Rattle.world_law.proofs.Framed.{sound_by}
use Rattle.world_law.proofs.Reached.{reached_holds}
use Rattle.world_law.proofs.Single.{single_answer, single_refusal}
use Rattle.world_law.proofs.laws.one_answer.Goals as goal

pub returns-clause-answer : goal.returns-clause-answer
returns-clause-answer c w reached =
    single_answer c.args.catalogue.now w (reached_holds c.args.catalogue.now (sound_by c.args.catalogue.now c.rules.ensures.names c.rules.ensures.valued) w reached)

pub returns-clause-refusal : goal.returns-clause-refusal
returns-clause-refusal c w reached =
    single_refusal c.args.catalogue.now w (reached_holds c.args.catalogue.now (sound_by c.args.catalogue.now c.rules.ensures.names c.rules.ensures.valued) w reached)
