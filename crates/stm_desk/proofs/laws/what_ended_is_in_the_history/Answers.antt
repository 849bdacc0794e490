use Rattle.stm_desk.proofs.Legal.{ended_stands}
use Rattle.stm_desk.proofs.laws.what_ended_is_in_the_history.Goals as goal

pub returns : goal.returns
returns c first old new h more ticket a b is_open over = ended_stands first old new h more ticket a b is_open over
