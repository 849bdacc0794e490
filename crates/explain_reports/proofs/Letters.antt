-- The lines of a report's text are ASCII.
use Rattle.std.proofs.Common.{◌≡◌, ◌∙◌, ℕ, zero, suc, ◌<◌, true, List, [], ◌∷◌, ◌++◌, length, Some, sym, ap, subst, arith}
use Rattle.std.specs.Str.{IsAscii}
use Rattle.std.specs.List.{list_all, slice_get}
use Rattle.std.proofs.lemmas.Bool.{and_parts}
use Rattle.std.proofs.lemmas.List.Folds.{list_all-append}
use Rattle.std.proofs.lemmas.Grind.{common_steps}
use Rattle.txn_programs.specs.Limits.{limits_hold}
use Rattle.txn_programs.specs.Listing.{Listing, values}
use Rattle.txn_programs.specs.Names.{names_hold}
use Rattle.txn_programs.specs.Told.{Told}
use Rattle.txn_programs.proofs.Lawful.{few_tasks}
use Rattle.text_words.specs.Bytes.{is_allowed}
use Rattle.text_line_reader.specs.Lines.{Line, Whole, Cut, lines}
use Rattle.text_line_reader.specs.Reports.{IsReport, IsWritten}
use Rattle.text_line_reader.proofs.Parting.{bytes_of, bytes_lines}
use Rattle.text_line_reader.proofs.ReportAgains.{report_again, written_report}
use Rattle.text_line_reader.proofs.ReportAllowed.{raw_allowed}

none : IsAscii []
none i = omega arith

one_more : (c : ℕ) (cs : List ℕ) → c < 128 → IsAscii cs → IsAscii (c ∷ cs)
one_more c cs h more zero = h
one_more c cs h more (suc i) = more i

low : (c : ℕ) → is_allowed c ≡ true → c < 128
low c h = grind (arith, common_steps)

allowed_is_ascii : (cs : List ℕ) → list_all is_allowed cs ≡ true → IsAscii cs
allowed_is_ascii [] h = none
allowed_is_ascii (c ∷ cs) h = let q = and_parts (is_allowed c) (list_all is_allowed cs) h in one_more c cs (low c q.0) (allowed_is_ascii cs q.1)

parts_of : (a b : List ℕ) → list_all is_allowed (a ++ b) ≡ true → (list_all is_allowed a ≡ true) × (list_all is_allowed b ≡ true)
parts_of a b h = and_parts (list_all is_allowed a) (list_all is_allowed b) (sym (list_all-append is_allowed a b) ∙ h)

line_allowed : (ls : List Line) (k : ℕ) (text : List ℕ) → list_all is_allowed (bytes_of ls) ≡ true → slice_get ls k ≡ Some (Whole text) → list_all is_allowed text ≡ true
line_allowed [] k text h e = absurd (cc)
line_allowed (Whole t ∷ ls) zero text h e = let same : t ≡ text = cc in subst (λ (x : List ℕ). list_all is_allowed x ≡ true) same (parts_of t (10 ∷ bytes_of ls) h).0
line_allowed (Whole t ∷ ls) (suc k) text h e =
    let rest = (parts_of t (10 ∷ bytes_of ls) h).1 in
    line_allowed ls k text (and_parts (is_allowed 10) (list_all is_allowed (bytes_of ls)) rest).1 e
line_allowed (Cut t ∷ ls) zero text h e = absurd (cc)
line_allowed (Cut t ∷ ls) (suc k) text h e = line_allowed ls k text (parts_of t (bytes_of ls) h).1 e

pub line_is_ascii : (l : Listing) (bytes : List ℕ) (r : Told) (k : ℕ) (text : List ℕ) → values l ≡ length l.initial → names_hold l ≡ true → limits_hold l ≡ true → IsReport l bytes r → slice_get (lines bytes) k ≡ Some (Whole text) → IsAscii text
line_is_ascii l bytes r k text valued names limits is e =
    let a = report_again l r valued names limits (few_tasks l limits) is.fits is.values is.outside in
    let w : IsWritten l bytes (written_report l r) = record { short = is.short; text = is.text ∙ a.text; words = a.words } in
    let allowed : list_all is_allowed (bytes_of (lines bytes)) ≡ true = ap (list_all is_allowed) (bytes_lines bytes) ∙ raw_allowed l bytes (written_report l r) w in
    allowed_is_ascii text (line_allowed (lines bytes) k text allowed e)
