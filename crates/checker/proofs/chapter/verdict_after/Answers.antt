use Rattle.std.proofs.Common.{◌≡◌, subst}
use Rattle.txn_programs.specs.Told.{Told, told}
use Rattle.text_line_reader.specs.Reports.{IsReport}
use Rattle.checker.specs.declared.verdict.Verdict.{Verdict}
use Rattle.checker.specs.declared.verdict.Verdict.TheVariants.{Good, Bad}
use Rattle.checker.specs.declared.judging.Judgement.{Judgement}
use Rattle.checker.specs.Verdicts.{IsVerdictOn}
use Rattle.checker.specs.Judging.{IsOf, verdict_of}
use Rattle.checker.specs.Chapters.{GoesOnAfter, GoesElsewhere}
use Rattle.checker.proofs.Chapterings.{SpellsOnly, IsOnly, before_alone, good_alone, elsewhere_alone}
use Rattle.checker.proofs.chapter.verdict_after.Goals as goal

pub returns-in-Bad-clause-alone : goal.returns-in-Bad-clause-alone
returns-in-Bad-clause-alone c v h =
    let l = c.args.earlier.now in
    let e = c.args.bytes.now in
    let s = c.args.report.now in
    let only : SpellsOnly e l = λ m spells. c.spells_one.ensures e m l spells c.requires in
    let alone : IsOnly l s (Bad c.in-Bad.part) = subst (λ (j : Judgement). (w : Verdict) → IsVerdictOn l s w → verdict_of j ≡ w) c.in-Bad.is c.in_ok-part.ensures.alone in
    before_alone e s l c.args.next.now c.in-Bad.part only alone v h

pub returns-then-branch-clause-alone : goal.returns-then-branch-clause-alone
returns-then-branch-clause-alone c v h =
    let l = c.args.earlier.now in
    let e = c.args.bytes.now in
    let s = c.args.report.now in
    let r = told c.in-Lawful.report in
    let only : SpellsOnly e l = λ m spells. c.spells_one.ensures e m l spells c.requires in
    let alone : IsOnly l s Good = subst (λ (j : Judgement). (w : Verdict) → IsVerdictOn l s w → verdict_of j ≡ w) c.in-Lawful.is c.in_ok-part.ensures.alone in
    let one : (t : Told) → IsReport l s t → r ≡ t = subst (λ (j : Judgement). (t : Told) → IsReport l s t → IsOf t j) c.in-Lawful.is c.in_ok-part.ensures.only in
    let goes : GoesOnAfter l r c.args.next.now = c.in_ok-goes_on_after-in-Lawful.ensures.0 c.if-branch.true in
    good_alone e s l c.args.next.now r only alone one goes v h

pub returns-clause-alone : goal.returns-clause-alone
returns-clause-alone c v h =
    let l = c.args.earlier.now in
    let e = c.args.bytes.now in
    let s = c.args.report.now in
    let r = told c.in-Lawful.report in
    let only : SpellsOnly e l = λ m spells. c.spells_one.ensures e m l spells c.requires in
    let alone : IsOnly l s Good = subst (λ (j : Judgement). (w : Verdict) → IsVerdictOn l s w → verdict_of j ≡ w) c.in-Lawful.is c.in_ok-part.ensures.alone in
    let one : (t : Told) → IsReport l s t → r ≡ t = subst (λ (j : Judgement). (t : Told) → IsReport l s t → IsOf t j) c.in-Lawful.is c.in_ok-part.ensures.only in
    let not : GoesElsewhere l r c.args.next.now = λ goes. let yes = c.in_ok-goes_on_after-in-Lawful.ensures.1 goes in let no = c.if-branch.false in absurd (cc) in
    elsewhere_alone e s l c.args.next.now r only alone one not v h
