use Rattle.std.proofs.Common.{◌∙◌, ℤ, ℕ, List, sym, subst}
use Rattle.txn_programs.specs.Told.{told}
use Rattle.explain_reports.specs.First.{AllRight}
use Rattle.explain_reports.specs.Parts.{StandsAt}
use Rattle.checker.specs.View.{view}
use Rattle.explain_reports.proofs.Presents.{stands}
use Rattle.explain_reports.proofs.present.present_flaw.Goals as goal

pub returns-in-None : goal.returns-in-None
returns-in-None c =
    let r = told c.args.report.now in
    let s = view c.args.stage.now in
    let right : AllRight (StandsAt s) r.current_vars = subst (λ (vs : List (ℤ × ℕ)). AllRight (StandsAt s) vs) c.deref.ensures.value c.in-None.ensures in
    stands s r.current r.current_vars c.if-report-stage.false (c.requires.values ∙ sym c.requires.sized) (c.requires.versions ∙ sym c.requires.sized) right
    ∙ c.requires.led
