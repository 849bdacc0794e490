use Rattle.std.proofs.Common.{◌≡◌, ◌∙◌, Result, Ok, ap, sym, subst}
use Rattle.txn_programs.specs.Listing.{Listing}
use Rattle.txn_programs.specs.Told.{Told}
use Rattle.txn_text.specs.Canonical.{file_text}
use Rattle.text_words.specs.declared.fault.ReadFault.{ReadFault}
use Rattle.text_line_reader.specs.Reports.{IsReport}
use Rattle.text_line_reader.proofs.ReportReading.{Rules, report_read}
use Rattle.checker.specs.Chapters.{next_chapter}
use Rattle.file_chains.proofs.chains.next_chapters_are_printed.Goals as goal

abbrev read_as : Told → Result Told ReadFault
read_as t = Ok t

same_told : (t u : Told) → read_as t ≡ read_as u → t ≡ u
same_told t u e = cc

pub returns : goal.returns
returns c b file report text fits idle pair printed =
    let same : printed.file ≡ b.catalogue = c.spells_one.ensures file printed.file b.catalogue printed.spelled pair.spelled in
    let read : IsReport b.catalogue report printed.told = subst (λ (l : Listing). IsReport l report printed.told) same printed.read in
    let declared = pair.spelled.declared in
    let rules : Rules b.catalogue = record { valued = sym declared.valued; names = declared.names; limits = declared.limits } in
    let told : printed.told ≡ pair.told = same_told printed.told pair.told (sym (report_read b.catalogue report printed.told rules read) ∙ report_read b.catalogue report pair.told rules pair.read) in
    printed.printed.canonical
    ∙ ap file_text (ap (λ (l : Listing). next_chapter l printed.told) same ∙ (ap (next_chapter b.catalogue) told ∙ sym (c.next_chapters_are_told.ensures b pair.told fits idle pair.tells)))
