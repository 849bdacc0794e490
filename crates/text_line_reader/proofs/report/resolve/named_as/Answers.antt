use Rattle.std.proofs.Common.{arith}
use Rattle.txn_programs.proofs.Lawful.{limits_parts}
use Rattle.text_line_reader.proofs.ReportKnown.{named_step, named_stop, named_more}
use Rattle.text_line_reader.proofs.report.resolve.named_as.Goals as goal

pub overflow_cast-i : goal.overflow_cast-i
overflow_cast-i c =
    let few = (limits_parts c.args.catalogue.now c.rules.ensures.limits).variables in
    omega (arith, few, c.vars-test.true, c.requires)

pub returns-then-ne : goal.returns-then-ne
returns-then-ne c =
    let step = named_step c.args.catalogue.now.names c.args.vars.now c.vars.i c.index-vars-i.result c.var_name.result.now c.vars-test.true c.index-vars-i.is c.var_name.ensures in
    named_stop _ c.ne.result _ _ _ c.ne.ensures c.if-ne.true step c.vars.invariant

pub vars-preserved : goal.vars-preserved
vars-preserved c =
    let step = named_step c.args.catalogue.now.names c.args.vars.now c.vars.i c.index-vars-i.result c.var_name.result.now c.vars-test.true c.index-vars-i.is c.var_name.ensures in
    named_more _ c.ne.result _ _ _ c.ne.ensures c.if-ne.false step c.vars.invariant
