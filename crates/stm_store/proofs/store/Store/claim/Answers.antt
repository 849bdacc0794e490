use Rattle.stm_store.proofs.Asked.{claimed_within}
use Rattle.stm_store.proofs.store.Store.claim.Goals as goal

pub returns-then-not-claim-clause-claimed : goal.returns-then-not-claim-clause-claimed
returns-then-not-claim-clause-claimed c =
    let h = c.if-not-claim.ensures.claimed in
    (c.in-Some.task, c.in-Some.ensures.0, h.0, h.1)

pub job_of-requires : goal.job_of-requires
job_of-requires c =
    let h = c.if-not-claim.ensures.claimed in
    claimed_within c.args.self.now.book c.claim.new.self c.in-Some.task h.0 h.1
