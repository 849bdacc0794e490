use Rattle.std.proofs.Common.{◌∙◌, sym}
use Rattle.checker.specs.declared.verdict.Verdict.TheVariants.{Good, Bad}
use Rattle.checker.proofs.Chapterings.{SpellsOnly, IsOnly, behind, bad_alone}
use Rattle.checker.proofs.chapter.verdict_on_chapter.Goals as goal

pub returns-in-Ok-Good-clause-alone : goal.returns-in-Ok-Good-clause-alone
returns-in-Ok-Good-clause-alone c v h =
    let l = c.args.next.now in
    let file = c.args.file.now in
    let only : SpellsOnly file l = λ m spells. c.spells_one.ensures file m l spells c.requires in
    let alone : IsOnly l c.args.report.now Good = λ w a. sym c.in-Ok-Good.field-0-is ∙ c.in-Ok-Good.ensures.alone w a in
    c.read_and_compared.ensures.alone v (behind file c.args.report.now c.args.earlier.now c.args.earlier_report.now l only alone v h)

pub returns-in-Ok-Bad-clause-alone : goal.returns-in-Ok-Bad-clause-alone
returns-in-Ok-Bad-clause-alone c v h =
    let l = c.args.next.now in
    let file = c.args.file.now in
    let only : SpellsOnly file l = λ m spells. c.spells_one.ensures file m l spells c.requires in
    let alone : IsOnly l c.args.report.now (Bad c.in-Ok-Bad.part) = λ w a. sym c.in-Ok-Bad.field-0-is ∙ c.in-Ok-Bad.ensures.alone w a in
    bad_alone file c.args.report.now c.args.earlier.now c.args.earlier_report.now l c.in-Ok-Bad.part only alone v h
