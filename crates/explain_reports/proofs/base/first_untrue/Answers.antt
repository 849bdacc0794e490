use Rattle.std.proofs.Common.{◌∙◌, ◌≤◌, length, Ok, sym, ap}
use Rattle.std.proofs.lemmas.List.{length-map}
use Rattle.txn_programs.specs.Tree.{condition_of}
use Rattle.txn_evaluator.specs.Always.{conditions_of}
use Rattle.explain_reports.specs.Parts.{IsTrueOf}
use Rattle.explain_reports.proofs.First.{one_before, all_before}
use Rattle.explain_reports.proofs.Bases.{condition_at, known_more}
use Rattle.explain_reports.proofs.base.first_untrue.Goals as goal

pub conditions-preserved : goal.conditions-preserved
conditions-preserved c =
    let m = c.args.values.now in
    let i = c.conditions.i in
    let at = condition_at c.args.always.now i c.index-always-i.result c.conditions-test.true c.index-always-i.is in
    record {
      before = one_before (IsTrueOf m) (conditions_of c.args.always.now) i (condition_of c.index-always-i.result.1) at
          (sym c.standing_truth.ensures ∙ (c.in-Ok-true.is ∙ ap Ok c.in-Ok-true.field-0-test)) c.conditions.invariant.before;
      known = known_more (length m) c.args.always.now i c.conditions-test.true c.conditions.invariant.known;
    }

pub returns : goal.returns
returns c =
    let past : length (conditions_of c.args.always.now) ≤ c.conditions.i = rw length-map c.conditions-test.false in
    all_before (IsTrueOf c.args.values.now) (conditions_of c.args.always.now) c.conditions.i past c.conditions.invariant.before
