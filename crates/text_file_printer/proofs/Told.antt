-- In which form a listing is told.
use Rattle.std.proofs.Common.{◌≡◌, Bool, true, false, cond, ap}
use Rattle.txn_programs.specs.Listing.{Listing}
use Rattle.text_grammar.specs.declared.file.FileForm.TheVariants.{Three}
use Rattle.text_grammar.specs.Written.{form_for}
use Rattle.text_file_printer.specs.Canonical.{text_in, is_short_enough, form_told}

pub told_first : (l : Listing) → is_short_enough (text_in (form_for l) l) ≡ true → form_told l ≡ form_for l
unfolding form_told
told_first l e = ap (λ (b : Bool). cond b (form_for l) Three) e

pub told_three : (l : Listing) → is_short_enough (text_in (form_for l) l) ≡ false → form_told l ≡ Three
unfolding form_told
told_three l e = ap (λ (b : Bool). cond b (form_for l) Three) e
