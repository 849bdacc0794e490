use Rattle.std.proofs.Common.{◌∙◌, ◌++◌, ◌∷◌, ℕ, List, [], Some, sym, ap, subst, arith}
use Rattle.std.specs.Str.{IsAscii}
use Rattle.std.proofs.lemmas.Option.{same_Some, none-some}
use Rattle.txn_programs.specs.Told.{told}
use Rattle.text_line_reader.specs.Lines.{Whole, lines}
use Rattle.explain_reports.specs.Rows.{place_of_flaw, IsRow}
use Rattle.explain_reports.specs.Explaining.{whole_at}
use Rattle.explain_reports.proofs.Letters.{line_is_ascii}
use Rattle.explain_reports.proofs.Numbered.{is_at}
use Rattle.explain_reports.proofs.explaining.line_of.Goals as goal

pub place_of_flaw-place-requires-clause-few : goal.place_of_flaw-place-requires-clause-few
place_of_flaw-place-requires-clause-few c =
    let there = is_at c.args.catalogue.now c.args.bytes.now (told c.args.report.now) c.args.flaw c.rules.ensures.valued c.rules.ensures.names c.rules.ensures.limits c.requires.read c.requires.flaw in
    let within = there.within in
    omega arith

pub overflow_add-result : goal.overflow_add-result
overflow_add-result c =
    let there = is_at c.args.catalogue.now c.args.bytes.now (told c.args.report.now) c.args.flaw c.rules.ensures.valued c.rules.ensures.names c.rules.ensures.limits c.requires.read c.requires.flaw in
    let within = there.within in
    let same = c.place_of_flaw-place.ensures in
    omega arith

pub unreachable-requires : goal.unreachable-requires
unreachable-requires c =
    let there = is_at c.args.catalogue.now c.args.bytes.now (told c.args.report.now) c.args.flaw c.rules.ensures.valued c.rules.ensures.names c.rules.ensures.limits c.requires.read c.requires.flaw in
    none-some there.text (c.in-None.ensures ∙ (ap (λ (n : ℕ). whole_at n (lines c.args.bytes.now)) c.place_of_flaw-place.ensures ∙ there.whole))

pub as_text-requires : goal.as_text-requires
as_text-requires c =
    let l = c.args.catalogue.now in
    let r = told c.args.report.now in
    let there = is_at l c.args.bytes.now r c.args.flaw c.rules.ensures.valued c.rules.ensures.names c.rules.ensures.limits c.requires.read c.requires.flaw in
    let same = same_Some c.in-Some.text.now there.text (c.in-Some.ensures ∙ (ap (λ (n : ℕ). whole_at n (lines c.args.bytes.now)) c.place_of_flaw-place.ensures ∙ there.whole)) in
    subst (λ (t : List ℕ). IsAscii t) (sym same)
    (line_is_ascii l c.args.bytes.now r (place_of_flaw l r c.args.flaw) there.text c.rules.ensures.valued c.rules.ensures.names c.rules.ensures.limits c.requires.read there.stands)

pub returns-clause-stands : goal.returns-clause-stands
returns-clause-stands c =
    let l = c.args.catalogue.now in
    let r = told c.args.report.now in
    let there = is_at l c.args.bytes.now r c.args.flaw c.rules.ensures.valued c.rules.ensures.names c.rules.ensures.limits c.requires.read c.requires.flaw in
    let same = same_Some c.in-Some.text.now there.text (c.in-Some.ensures ∙ (ap (λ (n : ℕ). whole_at n (lines c.args.bytes.now)) c.place_of_flaw-place.ensures ∙ there.whole)) in
    there.stands ∙ ap (λ (t : List ℕ). Some (Whole t)) (sym (c.as_text.ensures ∙ same))

pub returns-clause-row : goal.returns-clause-row
returns-clause-row c =
    let l = c.args.catalogue.now in
    let r = told c.args.report.now in
    let there = is_at l c.args.bytes.now r c.args.flaw c.rules.ensures.valued c.rules.ensures.names c.rules.ensures.limits c.requires.read c.requires.flaw in
    let same = same_Some c.in-Some.text.now there.text (c.in-Some.ensures ∙ (ap (λ (n : ℕ). whole_at n (lines c.args.bytes.now)) c.place_of_flaw-place.ensures ∙ there.whole)) in
    subst (λ (t : List ℕ). IsRow l r c.args.flaw (t ++ 10 ∷ [])) (sym (c.as_text.ensures ∙ same)) there.row
