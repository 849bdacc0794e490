use Rattle.std.proofs.Common.{◌∙◌, ◌+◌, refl, sym, ap}
use Rattle.txn_programs.specs.Told.{told}
use Rattle.explain_reports.proofs.Order.{falls, tasks_hold}
use Rattle.explain_reports.proofs.tasks.order_flaw.Goals as goal

pub returns-in-Some : goal.returns-in-Some
returns-in-Some c =
    let l = c.args.catalogue.now in
    let r = told c.args.report.now in
    record { fails = falls l r c.in-Some.at c.in-Some.ensures; part = refl; flaw_is = (c.requires.own, c.requires.new, c.in-Some.ensures) }

pub returns : goal.returns
returns c =
    let l = c.args.catalogue.now in
    let r = told c.args.report.now in
    let counted = c.if-not-are_accounted.ensures.0 refl ∙ c.tasks.ensures.value in
    tasks_hold l r c.requires.own c.requires.new c.in_default.ensures.0 c.in_default.ensures.1 (ap (λ n. r.base + n) (sym c.requires.lines) ∙ counted)
