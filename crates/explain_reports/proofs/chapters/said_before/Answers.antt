use Rattle.std.proofs.Common.{◌≡◌, ◌∙◌, ◌++◌, List, ℕ, refl, ap, subst, string_bytes}
use Rattle.std.specs.Prelude.{codes}
use Rattle.checker.specs.declared.verdict.Verdict.{Verdict}
use Rattle.checker.specs.declared.verdict.Verdict.TheVariants.{Bad}
use Rattle.explain_reports.specs.Writing.{IsAnswer}
use Rattle.explain_reports.proofs.Sayings.{SpellsOnly, answer_alone}
use Rattle.explain_reports.proofs.chapters.said_before.Goals as goal

pub returns-in_ok-extend_from_slice-in-Ok-2 : goal.returns-in_ok-extend_from_slice-in-Ok-2
returns-in_ok-extend_from_slice-in-Ok-2 c =
    let e = c.args.earlier.now in
    let s = c.args.report.now in
    let l = c.args.catalogue.now in
    let only : SpellsOnly e l = λ m spells. c.spells_one.ensures e m l spells c.requires.spelled in
    let said = string_bytes c.in-Ok.said in
    let is : c.in-Ok.field-0-0 ≡ Bad c.args.part = answer_alone e s l c.in-Ok.field-0-0 (Bad c.args.part) said c.one_verdict.ensures c.requires.spelled only c.in-Ok.ensures.answered c.requires.bad in
    let answer : IsAnswer e s (Bad c.args.part) said = subst (λ (v : Verdict). IsAnswer e s v said) is c.in-Ok.ensures.answered in
    let front = c.in_ok-extend_from_slice-in-Ok.ensures.items ∙ ap (λ (xs : List ℕ). xs ++ codes "before ") c.new-text.ensures.items in (
      refl,
      (
        said,
        answer,
        c.in_ok-extend_from_slice-in-Ok-2.ensures.items
            ∙ (ap (λ (xs : List ℕ). xs ++ c.as_bytes.result.now) front ∙ ap (λ (xs : List ℕ). codes "before " ++ xs) c.as_bytes.ensures.value),
      ),
    )
