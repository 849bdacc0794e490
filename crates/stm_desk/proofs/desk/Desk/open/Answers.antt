use Rattle.std.proofs.Common.{◌∙◌, subst}
use Rattle.stm_store.specs.declared.store.Store.{Store}
use Rattle.stm_desk.specs.Running.{RunsAt}
use Rattle.stm_desk.proofs.Handing.{hands_nobody}
use Rattle.stm_desk.proofs.desk.Desk.open.Goals as goal

pub invariant_of-result-clause-awaited : goal.invariant_of-result-clause-awaited
invariant_of-result-clause-awaited c =
    c.serve.ensures.awaited (λ k t runs held. absurd (c.requires.still k (subst (λ (s : Store). RunsAt s k) c.new-work.ensures.store runs)))

pub returns-clause-waiters : goal.returns-clause-waiters
returns-clause-waiters c ticket = c.serve.ensures.hands_on.nobody ticket (c.new-work.ensures.waiters ticket)

pub returns-clause-told : goal.returns-clause-told
returns-clause-told c = hands_nobody _ _ c.serve.ensures.hands_on c.new-work.ensures.waiters ∙ c.new-work.ensures.told

pub returns-clause-long : goal.returns-clause-long
returns-clause-long c = c.serve.ensures.goes_on.long ∙ c.new-work.ensures.long
