use Rattle.std.proofs.Common.{List, ℕ, ap, sym, subst, string_bytes}
use Rattle.std.proofs.lemmas.Result.{IfOk-weaker}
use Rattle.checker.specs.declared.verdict.Verdict.{Verdict}
use Rattle.checker.specs.declared.verdict.Verdict.TheVariants.{Good, Bad}
use Rattle.checker.specs.Verdicts.{IsVerdictOn}
use Rattle.explain_reports.specs.Writing.{IsAnswer}
use Rattle.explain_reports.specs.Chapters.{IsSaid, IsSaidAfter}
use Rattle.explain_reports.proofs.Sayings.{SpellsOnly, answer_on, said_with_good}
use Rattle.explain_reports.proofs.chapters.said_of.Goals as goal

pub returns-in-Ok-Good-default-clause-said : goal.returns-in-Ok-Good-default-clause-said
returns-in-Ok-Good-default-clause-said c =
    let f = c.args.file.now in
    let r = c.args.report.now in
    let e = c.args.earlier.now in
    let s = c.args.earlier_report.now in
    let next = c.args.next.now in
    let only : SpellsOnly f next = λ m spells. c.spells_one.ensures f m next spells c.requires in
    let text = string_bytes c.in-Ok-Good-default.field-0-1 in
    let answer : IsAnswer f r Good text = subst (λ (v : Verdict). IsAnswer f r v text) c.in-Ok-Good-default.field-0-0-is c.in-Ok-Good-default.ensures.answered in
    let good : IsVerdictOn next r Good = answer_on f r next Good text only answer in
    IfOk-weaker c.said_behind.result (λ x. IsSaidAfter e s next x.verdict x.text.items) (λ x. IsSaid f r e s x.verdict x.text.items)
    (λ x h. said_with_good f r e s next c.requires good x.verdict x.text.items h) c.said_behind.ensures.said

pub returns-in-Ok-Bad-default-clause-said : goal.returns-in-Ok-Bad-default-clause-said
returns-in-Ok-Bad-default-clause-said c =
    let f = c.args.file.now in
    let r = c.args.report.now in
    let next = c.args.next.now in
    let part = c.in-Ok-Bad-default.part in
    let only : SpellsOnly f next = λ m spells. c.spells_one.ensures f m next spells c.requires in
    let text = string_bytes c.in-Ok-Bad-default.text in
    let answer : IsAnswer f r (Bad part) text = subst (λ (v : Verdict). IsAnswer f r v text) c.in-Ok-Bad-default.field-0-0-is c.in-Ok-Bad-default.ensures.answered in
    record {
      verdict = record { listing = next; spelled = c.requires; verdict = answer_on f r next (Bad part) text only answer };
      says = subst (λ (t : List ℕ). IsAnswer f r (Bad part) t) (sym (ap (λ v. v.items) c.into_bytes.ensures.value)) answer;
    }
