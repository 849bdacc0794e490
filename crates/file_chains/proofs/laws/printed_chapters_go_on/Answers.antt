use Rattle.std.proofs.Common.{◌≡◌, subst}
use Rattle.txn_programs.specs.Listing.{Listing}
use Rattle.checker.specs.Chapters.{GoesOnAfter, next_chapter}
use Rattle.file_chains.proofs.laws.printed_chapters_go_on.Goals as goal

pub returns : goal.returns
returns c input report text l p short spells =
    let same : next_chapter p.file p.told ≡ l = c.spells_one.ensures text (next_chapter p.file p.told) l (p.printed.read short) spells in
    record {
      listing = p.file;
      spelled = p.spelled;
      told = p.told;
      read = p.read;
      lawful = p.lawful;
      holds = subst (λ (m : Listing). GoesOnAfter p.file p.told m) same (c.next_chapters_go_on.ensures p.file p.told);
    }
