use Rattle.std.proofs.Common.{sym, subst}
use Rattle.txn_programs.specs.Listing.{Listing}
use Rattle.book.specs.Chapters.{next_catalogue}
use Rattle.checker.specs.Chapters.{GoesOnAfter}
use Rattle.file_chains.proofs.chains.chapters_are_good.Goals as goal

pub returns : goal.returns
returns c b d more file report later later_report fits idle first within last =
    let l = b.catalogue in
    let r = first.told in
    let began : GoesOnAfter l r (next_catalogue b) = subst (λ (m : Listing). GoesOnAfter l r m) (sym (c.next_chapters_are_told.ensures b r fits idle first.tells)) (c.next_chapters_go_on.ensures l r) in
    let here : GoesOnAfter l r d.catalogue = subst (λ (m : Listing). GoesOnAfter l r m) (sym within) (c.grown_chapters_go_on.ensures l r (next_catalogue b) more began) in
    record {
      listing = d.catalogue;
      spelled = last.spelled;
      good = record { listing = d.catalogue; spelled = last.spelled; verdict = record { report = last.told; read = last.read; verdict = last.lawful } };
      verdict = record { listing = l; spelled = first.spelled; told = r; read = first.read; lawful = first.lawful; holds = here };
    }
