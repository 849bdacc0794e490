use Rattle.stm_store.proofs.Lives.{comes_back_never}
use Rattle.stm_store.proofs.laws.no_ticket_comes_back.Goals as goal

pub returns : goal.returns
returns c t later b task ticket h has over l other at = comes_back_never t later b task other ticket h has over l at
