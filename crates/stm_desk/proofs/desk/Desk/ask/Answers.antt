use Rattle.std.proofs.Common.{ℤ, Bool, List, subst}
use Rattle.txn_programs.proofs.Lawful.{few_arguments}
use Rattle.stm_desk.specs.Running.{IsBegun, IsLong}
use Rattle.stm_desk.proofs.Answered.{begun_asked, begun_lent}
use Rattle.stm_desk.proofs.Within.{stays_both, stays_same, stays_then, stays_turned}
use Rattle.stm_desk.proofs.desk.Desk.ask.Goals as goal

pub of-requires : goal.of-requires
of-requires c = few_arguments c.catalogue-catalogue.result.now c.args.tx c.args.arguments.now c.rules.ensures.limits (c.is_callable.ensures.0 c.if-not-is_callable.false)

pub returns-then-is_begun-clause-asked : goal.returns-then-is_begun-clause-asked
returns-then-is_begun-clause-asked c =
    let s = c.args.self.now in
    let long = c.is_begun.ensures.begun c.if-is_begun.true in
    let begun = subst (λ (xs : List ℤ). IsBegun s.work (record { tx = c.args.tx; arguments = xs }) c.args.whose c.begin.result c.begin.new.self) c.of.ensures c.begin.ensures.begun in
    begun_asked s _ (record { tx = c.args.tx; arguments = c.args.arguments.now }) c.args.way c.args.whose c.begin.result c.if-self.false long.0 (subst (λ (xs : List Bool). IsLong xs c.args.tx) c.deref.ensures.value long.1) begun

pub returns-then-is_begun-clause-lent : goal.returns-then-is_begun-clause-lent
returns-then-is_begun-clause-lent c waits long = begun_lent _ _ _ _ c.begin.result c.begin.ensures.begun
