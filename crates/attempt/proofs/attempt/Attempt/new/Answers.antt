use Rattle.std.proofs.Common.{rules}
use Rattle.txn_programs.proofs.Lawful.{few_arguments}
use Rattle.attempt.proofs.Calls.{call_known, call_cheap}
use Rattle.attempt.proofs.attempt.Attempt.new.Goals as goal

pub invariant_of-result : goal.invariant_of-result
invariant_of-result c =
    let known = call_known c.args.catalogue.now c.args.id c.args.arguments.now c.rules.ensures.names c.rules.ensures.valued c.requires.declared in
    let small = call_cheap c.args.catalogue.now c.args.id c.args.arguments.now c.rules.ensures.limits c.requires.declared in
    search (rules, known, small)

pub of-requires : goal.of-requires
of-requires c = few_arguments c.args.catalogue.now c.args.id c.args.arguments.now c.rules.ensures.limits c.requires
