use Rattle.std.proofs.Common.{sym, subst}
use Rattle.txn_programs.specs.Listing.{IsCallable}
use Rattle.stm_store.specs.declared.store.Store.{Store}
use Rattle.stm_service.proofs.Asking.{callable_on}
use Rattle.stm_service.proofs.Looking.{ends_there, memory_there}
use Rattle.stm_service.proofs.behind.Behind.outcome_now.Goals as goal

pub outcome_now-requires : goal.outcome_now-requires
outcome_now-requires g c =
    let s = c.args.self.now in
    record {
      known = subst (λ (x : Store). IsCallable x.catalogue.now c.args.tx c.args.arguments.now) (sym c.store-store.ensures.here)
          (callable_on g.N.Naming.catalogue s.desk s.named c.args.tx c.args.arguments.now c.requires.known);
    }

pub returns-in-Ok : goal.returns-in-Ok
returns-in-Ok g c =
    ends_there g.N.Naming.catalogue g.N.Naming.first c.args.self.now.front c.store-store.result.now c.args.tx c.args.arguments.now c.in-Ok.outcome c.store-store.ensures.of c.in-Ok.ensures.outcome

pub returns : goal.returns
returns g c =
    memory_there g.N.Naming.catalogue g.N.Naming.first c.args.self.now.front c.store-store.result.now c.args.tx c.store-store.ensures.of c.in-Err.ensures.memory
