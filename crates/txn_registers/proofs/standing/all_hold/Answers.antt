use Rattle.std.proofs.Common.{length}
use Rattle.txn_evaluator.specs.Always.{conditions_of}
use Rattle.txn_registers.proofs.Tests.{tests_tell, retries_upheld}
use Rattle.txn_registers.proofs.standing.all_hold.Goals as goal

pub returns-in-Retries-clause-upheld : goal.returns-in-Retries-clause-upheld
returns-in-Retries-clause-upheld c =
    let qs = conditions_of c.args.always.now in
    let m = c.args.state.now in
    let told = c.in-Ended.ensures.tells _ (tests_tell c.args.tests.now qs (length m) m (c.requires.tests c.if-not-tests.false) c.requires.known) in
    λ yes v. retries_upheld c.in-Ended.o qs m c.run_steps-did.new.state v told c.in-Retries.is
