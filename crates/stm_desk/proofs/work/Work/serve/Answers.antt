use Rattle.std.proofs.Common.{refl}
use Rattle.stm_desk.proofs.Handing.{goes_both, goes_nothing, hands_both, hands_nothing}
use Rattle.stm_desk.proofs.Lending.{lends_both, lends_nothing}
use Rattle.stm_desk.proofs.Settling.{keeps_both, keeps_nothing}
use Rattle.stm_desk.proofs.work.Work.serve.Goals as goal

pub loop-init : goal.loop-init
loop-init c =
    let s = c.args.self.now in
    record {
      goes_on = goes_nothing s;
      hands_on = hands_nothing s.waiters s.waiters refl;
      lends = lends_nothing s s refl refl;
      kept = keeps_nothing s.store;
      awaited = λ all. all;
    }

pub loop-preserved : goal.loop-preserved
loop-preserved c =
    let so_far = c.loop.invariant in
    let one = c.serve_next.ensures in
    record {
      goes_on = goes_both _ _ _ so_far.goes_on one.goes_on;
      hands_on = hands_both _ _ _ so_far.hands_on one.hands_on;
      lends = lends_both _ _ _ one.kept so_far.goes_on.long so_far.lends one.lends;
      kept = keeps_both _ _ _ so_far.kept one.kept;
      awaited = λ all. one.awaited (so_far.awaited all);
    }

pub returns-clause-goes_on : goal.returns-clause-goes_on
returns-clause-goes_on c = goes_both _ _ _ c.loop.invariant.goes_on c.serve_next.ensures.goes_on

pub returns-clause-hands_on : goal.returns-clause-hands_on
returns-clause-hands_on c = hands_both _ _ _ c.loop.invariant.hands_on c.serve_next.ensures.hands_on

pub returns-clause-hands_out : goal.returns-clause-hands_out
returns-clause-hands_out c = (lends_both _ _ _ c.serve_next.ensures.kept c.loop.invariant.goes_on.long c.loop.invariant.lends c.serve_next.ensures.lends).hands_out

pub returns-clause-kept : goal.returns-clause-kept
returns-clause-kept c = keeps_both _ _ _ c.loop.invariant.kept c.serve_next.ensures.kept
