use Rattle.std.proofs.Common.{refl}
use Rattle.txn_programs.proofs.Lawful.{few_arguments}
use Rattle.stm_store.proofs.Submitted.{called_runs}
use Rattle.stm_store.proofs.store.Store.begin_call.Goals as goal

pub returns-clause-begun : goal.returns-clause-begun
returns-clause-begun c =
    let s = c.in_ok-task.ensures in (
      (s.2, c.if-are_used_up.ensures.left),
      record { task = s.0; ticket = c.give.ensures.ticket; chapter = refl; runs = refl; given = c.of.ensures },
      c.give.ensures.tickets,
      s.1,
    )

pub returns-clause-runs : goal.returns-clause-runs
returns-clause-runs c =
    let s = c.in_ok-task.ensures in
    called_runs c.args.self.now.book c.submit_running.new.self c.args.tx c.args.arguments.now c.in_ok-task.task s.0 s.1

pub of-requires : goal.of-requires
of-requires c = few_arguments c.args.self.now.catalogue.now c.args.tx c.args.arguments.now c.rules.ensures.limits c.requires.known
