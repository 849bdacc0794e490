use Rattle.std.proofs.Common.{sym}
use Rattle.stm_service.proofs.behind.Behind.store.Goals as goal

pub returns-clause-of : goal.returns-clause-of
returns-clause-of g c =
    let s = c.args.self.now in
    record { desk = s.desk; named = s.named; placed = s.placed; history = sym s.shown; has = sym c.store.ensures }
