use Rattle.stm_desk.proofs.Handing.{hands_both}
use Rattle.stm_desk.proofs.Lending.{nothing_handed}
use Rattle.stm_desk.proofs.Settling.{keeps_both}
use Rattle.stm_desk.proofs.desk.Desk.run_now.Goals as goal

pub returns-clause-hands_on : goal.returns-clause-hands_on
returns-clause-hands_on c = hands_both _ _ _ c.in_ok-turn.ensures.hands_on c.serve.ensures.hands_on

pub returns-clause-kept : goal.returns-clause-kept
returns-clause-kept c = keeps_both _ _ _ c.in_ok-turn.ensures.kept c.serve.ensures.kept

pub returns-in_err-turn-clause-hands_out : goal.returns-in_err-turn-clause-hands_out
returns-in_err-turn-clause-hands_out c = nothing_handed _ _ c.in_err-turn.ensures.hands_out
