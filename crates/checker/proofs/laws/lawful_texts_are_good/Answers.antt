use Rattle.std.proofs.Common.{◌≡◌, ◌≤◌, ◌+◌, refl, sym, length, arith}
use Rattle.txn_programs.specs.Listing.{tasks, values}
use Rattle.txn_programs.proofs.Lawful.{few_tasks}
use Rattle.text_report_printer.proofs.Lengths.{report_short}
use Rattle.checker.proofs.Inside.{outside_told}
use Rattle.checker.proofs.laws.lawful_texts_are_good.Goals as goal

pub returns : goal.returns
returns c file l r spells lawful fit =
    let few : length (tasks l) ≤ 65536 = few_tasks l spells.declared.limits in
    let counts : length r.entries + (length r.parked + length r.memory) ≤ 65536 = omega (arith, lawful.accounted, few) in
    let valued : values l ≡ length l.initial = sym spells.declared.valued in
    let short = report_short l r spells.declared.limits valued lawful.fits fit counts in
    record {
      listing = l;
      spelled = spells;
      verdict = record { report = r; read = record { short = short; text = refl; fits = lawful.fits; values = fit; outside = outside_told l r spells.declared.names lawful }; verdict = lawful };
    }
