use Rattle.std.proofs.Common.{◌≡◌, ◌∙◌, ◌≤◌, ◌+◌, ◌*◌, ℕ, List, ◌++◌, length, ap, sym, subst, string_bytes}
use Rattle.txn_programs.specs.Told.{told}
use Rattle.txn_programs.specs.Listing.{cells}
use Rattle.text_report_printer.specs.ReportText.{report_text}
use Rattle.text_report_printer.proofs.Lengths.{report_short}
use Rattle.text_report_printer.proofs.report.print_report.Goals as goal

pub returns-clause-at_most : goal.returns-clause-at_most
returns-clause-at_most c =
    let l = c.args.catalogue.now in
    let r = told c.args.report.now in
    let e : string_bytes c.put_report.new.out ≡ report_text l r = c.in_ok-put_report.ensures ∙ ap (λ (bs : List ℕ). bs ++ report_text l r) c.in_ok-out.ensures.bytes in
    λ counts. subst (λ (bs : List ℕ). length bs ≤ 8388608 + 160 * cells l) (sym e)
    (report_short l r c.rules.ensures.limits c.rules.ensures.valued c.requires c.values_fit.ensures counts)
