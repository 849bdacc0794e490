use Rattle.std.proofs.lemmas.Result.{IfOk-weaker}
use Rattle.std.proofs.Common.{◌≡◌}
use Rattle.text_line_reader.proofs.Reading.{rules_of}
use Rattle.checker.specs.Verdicts.{IsVerdictOn}
use Rattle.explain_reports.specs.Explaining.{IsExplained, verdict_of}
use Rattle.explain_reports.proofs.Verdicts.{verdict_is, same_verdict}
use Rattle.explain_reports.proofs.explaining.explain.Goals as goal

pub returns-clause-verdict : goal.returns-clause-verdict
returns-clause-verdict c =
    let l = c.args.catalogue.now in
    let bytes = c.args.bytes.now in
    IfOk-weaker c.explained.result (IsExplained l bytes) (λ x. IsVerdictOn l bytes (verdict_of x)) (λ x h. verdict_is l bytes x h) c.explained.ensures

pub returns-clause-alone : goal.returns-clause-alone
returns-clause-alone c v on =
    let l = c.args.catalogue.now in
    let bytes = c.args.bytes.now in
    let rules = rules_of l c.rules.ensures.valued c.rules.ensures.names c.rules.ensures.limits in
    IfOk-weaker c.explained.result (IsExplained l bytes) (λ x. verdict_of x ≡ v)
    (λ x h. same_verdict l bytes (verdict_of x) v rules (λ r a b. c.one_verdict.ensures l r (verdict_of x) v a b) (verdict_is l bytes x h) on) c.explained.ensures
