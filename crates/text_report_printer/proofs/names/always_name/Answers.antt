use Rattle.std.proofs.Common.{◌<◌, ◌≤◌, ℕ, List, length, arith, sym, subst}
use Rattle.text_report_printer.proofs.Lengths.{condition_short}
use Rattle.text_report_printer.proofs.names.always_name.Goals as goal

pub returns-then-id-always-clause-at_most : goal.returns-then-id-always-clause-at_most
returns-then-id-always-clause-at_most c =
    let l = c.args.catalogue.now in
    let known : c.args.id.0 < length l.always = omega (arith, c.always.ensures.count, c.if-id-always.true) in
    subst (λ (name : List ℕ). length name ≤ 32) (sym c.always_name.ensures) (condition_short l c.rules.ensures.limits c.args.id known)
