use Rattle.std.proofs.Common.{◌≡◌, ℕ, List, inl, inr, refl, arith}
use Rattle.std.specs.Prelude.{Option, None, Some}
use Rattle.std.proofs.lemmas.Bool.{OnFalse_at}
use Rattle.txn_programs.specs.Listing.{Listing, cells}
use Rattle.txn_programs.proofs.Lawful.{limits_parts}
use Rattle.text_words.specs.declared.fault.ReadFault.{ReadFault}
use Rattle.txn_text.specs.Spelling.{Spells, first_fault}
use Rattle.commands.specs.Files.{IsReportLimit}
use Rattle.commands.proofs.reading.report_limit.Goals as goal

without_cells : (file : List ℕ) (found : Option ReadFault) → first_fault file ≡ found → (first_fault file ≡ None → (l : Listing) × Spells file l) → ((l : Listing) → Spells file l → cells l ≡ 0)
    → IsReportLimit file 8388608
without_cells file None is spelled none =
    let s = spelled is in
    let few : cells s.0 ≡ 0 = none s.0 s.1 in
    inl (s.0, s.1, omega (arith, few))
without_cells file (Some kind) is spelled none = inr (kind, is, refl)

pub returns-then-not-announces_tables-clause-limit : goal.returns-then-not-announces_tables-clause-limit
returns-then-not-announces_tables-clause-limit c =
    let file = c.args.file.now in
    let none : (l : Listing) → Spells file l → cells l ≡ 0 = OnFalse_at c.if-not-announces_tables.true c.announces_tables.ensures.cells in
    without_cells file (first_fault file) refl (c.faults_where_none_is_spelled.ensures.faultless file) none

pub returns-in-Ok-clause-small : goal.returns-in-Ok-clause-small
returns-in-Ok-clause-small c = omega (arith, c.max_report.ensures, (limits_parts c.in-Ok.catalogue c.rules.ensures.limits).cells)
