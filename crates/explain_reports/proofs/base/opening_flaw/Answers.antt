use Rattle.std.proofs.Common.{ℤ, ℕ, List, subst}
use Rattle.txn_programs.specs.Meaning.{State}
use Rattle.txn_programs.specs.Told.{told}
use Rattle.explain_reports.specs.First.{AllRight}
use Rattle.explain_reports.specs.Parts.{Opens}
use Rattle.explain_reports.proofs.Bases.{base_opens}
use Rattle.explain_reports.proofs.base.opening_flaw.Goals as goal

pub returns-in-None : goal.returns-in-None
returns-in-None c =
    let l = c.args.catalogue.now in
    let r = told c.args.report.now in
    let right : AllRight (Opens l.initial) r.base_vars =
    subst (λ (vs : List (ℤ × ℕ)). AllRight (Opens l.initial) vs) c.deref.ensures.value
    (subst (λ (m : State). AllRight (Opens m) c.deref.result.now) c.initial-initial.ensures.value c.in-None.ensures) in
    base_opens l r c.requires.opening c.requires.sized c.rules.ensures.upheld right
