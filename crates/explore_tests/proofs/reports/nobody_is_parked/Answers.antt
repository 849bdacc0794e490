use Rattle.std.proofs.Common.{◌≡◌, ℕ, [], length, ◌==◌, ◌∙◌, ap, arith}
use Rattle.txn_programs.specs.Told.{told}
use Rattle.explore_tests.proofs.reports.nobody_is_parked.Goals as goal

pub returns : goal.returns
returns c =
    let report = c.args.report.now in
    let none : report.parked.items ≡ [] = c.nobody_waits_for_ever.ensures c.args.found.now (told report) c.requires.explored c.requires.nobody c.requires.whole in
    let short : report.parked.len ≡ 0 = omega (arith, report.parked.ok.0, ap length none) in
    c.is_empty.ensures ∙ ap (λ (n : ℕ). n == 0) short
