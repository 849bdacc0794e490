use Rattle.txn_programs.proofs.Lawful.{few_arguments}
use Rattle.stm_service.proofs.service.Service.call.Goals as goal

pub of-requires : goal.of-requires
of-requires g c =
    let s = c.args.self.now in
    few_arguments s.catalogue.now c.args.tx c.args.arguments.now c.rules.ensures.limits (c.is_callable.ensures.0 c.if-not-is_callable.false)
