-- Lines of bytes, at their places.
use Rattle.std.proofs.Common.{◌≡◌, ◌∙◌, ℕ, zero, suc, ◌-◌, ◌<◌, ◌≤◌, true, List, [], ◌∷◌, ◌++◌, length, Some, None, refl, sym, ap, subst, arith, inl, inr}
use Rattle.std.specs.List.{slice_get}
use Rattle.std.proofs.lemmas.Option.{same_Some, slice_get_within}
use Rattle.std.proofs.lemmas.Bool.Decides.{eqb_tells}
use Rattle.txn_programs.specs.Listing.{Listing, cells, values}
use Rattle.txn_programs.specs.Limits.{limits_hold}
use Rattle.txn_programs.specs.Names.{names_hold}
use Rattle.txn_programs.specs.Told.{Told}
use Rattle.txn_programs.proofs.Lawful.{few_tasks, limits_parts}
use Rattle.text_line_reader.specs.Lines.{Line, Whole, Cut, with_byte, lines, first_line}
use Rattle.text_line_reader.specs.Reports.{IsReport}
use Rattle.explain_reports.specs.declared.flaw.Flaw.{Flaw}
use Rattle.explain_reports.specs.Flaws.{IsFlaw}
use Rattle.explain_reports.specs.Rows.{place_of_flaw, IsRow}
use Rattle.explain_reports.specs.Explaining.{whole_at}
use Rattle.explain_reports.proofs.Lined.{report_rows, report_lined}
use Rattle.explain_reports.proofs.Places.{Sized, row_at}

-- ---- one line after another

whole_suc : (n : ℕ) (ls : List Line) (x : List ℕ × List Line) → first_line ls ≡ Some x → whole_at (suc n) ls ≡ whole_at n x.1
whole_suc n [] x e = absurd (cc)
whole_suc n (Cut text ∷ ls) x e = absurd (cc)
whole_suc n (Whole text ∷ ls) x e = ap (λ (y : List ℕ × List Line). whole_at n y.1) (same_Some (text, ls) x e)

pub whole_next : (n : ℕ) (ls : List Line) (x : List ℕ × List Line) → 0 < n → first_line ls ≡ Some x → whole_at n ls ≡ whole_at (n - 1) x.1
whole_next zero ls x h e = absurd (omega arith)
whole_next (suc n) ls x h e = let same : suc n - 1 ≡ n = omega arith in whole_suc n ls x e ∙ ap (λ (k : ℕ). whole_at k x.1) (sym same)

pub whole_first : (ls : List Line) (x : List ℕ × List Line) → first_line ls ≡ Some x → whole_at 0 ls ≡ Some x.0
whole_first [] x e = absurd (cc)
whole_first (Cut text ∷ ls) x e = absurd (cc)
whole_first (Whole text ∷ ls) x e = ap (λ (y : List ℕ × List Line). Some y.0) (same_Some (text, ls) x e)

pub whole_none : (n : ℕ) (ls : List Line) → first_line ls ≡ None → whole_at n ls ≡ None
whole_none n [] e = refl
whole_none n (Cut text ∷ ls) e = refl
whole_none n (Whole text ∷ ls) e = absurd (cc)

-- ---- only the last line can want a newline

abbrev CutLast : List Line → Type 0
CutLast [] = Unit {0}
CutLast (Whole text ∷ ls) = CutLast ls
CutLast (Cut text ∷ ls) = ls ≡ []

byte_last : (b : ℕ) (ls : List Line) → CutLast ls → CutLast (with_byte b ls)
byte_last b [] h = refl
byte_last b (Whole text ∷ ls) h = h
byte_last b (Cut text ∷ ls) h = h

lines_last : (bs : List ℕ) → CutLast (lines bs)
unfolding lines
lines_last [] = tt
lines_last (b ∷ bs) =
    elim (eqb_tells b 10) [
      | inl e ↦ rw e.0 (lines_last bs)
      | inr e ↦ rw e.0 (byte_last b (lines bs) (lines_last bs))
    ]

whole_there : (ls : List Line) (n : ℕ) (text : List ℕ) → CutLast ls → slice_get ls n ≡ Some (Whole text) → whole_at n ls ≡ Some text
whole_there [] n text h e = absurd (cc)
whole_there (Whole t ∷ ls) zero text h e = let same : t ≡ text = cc in ap (λ (x : List ℕ). Some x) same
whole_there (Whole t ∷ ls) (suc n) text h e = whole_there ls n text h e
whole_there (Cut t ∷ ls) zero text h e = absurd (cc)
whole_there (Cut t ∷ ls) (suc n) text h e = let nothing : slice_get {X = Line} [] n ≡ Some (Whole text) = subst (λ (xs : List Line). slice_get xs n ≡ Some (Whole text)) h e in absurd (cc)

-- ---- there are no more lines than bytes

byte_length : (b : ℕ) (ls : List Line) → length (with_byte b ls) ≤ suc (length ls)
byte_length b [] = omega arith
byte_length b (Whole text ∷ ls) = omega arith
byte_length b (Cut text ∷ ls) = omega arith

lines_length : (bs : List ℕ) → length (lines bs) ≤ length bs
unfolding lines
lines_length [] = omega arith
lines_length (b ∷ bs) =
    let more = lines_length bs in
    let byte = byte_length b (lines bs) in
    elim (eqb_tells b 10) [
      | inl e ↦ rw e.0 (omega arith)
      | inr e ↦ rw e.0 (omega arith)
    ]

-- ---- the line of a flaw

pub record IsAt (l : Listing) (bytes : List ℕ) (r : Told) (flaw : Flaw) : Type 0 where
  pub text : List ℕ
  pub stands : slice_get (lines bytes) (place_of_flaw l r flaw) ≡ Some (Whole text)
  pub whole : whole_at (place_of_flaw l r flaw) (lines bytes) ≡ Some text
  pub row : IsRow l r flaw (text ++ 10 ∷ [])
  pub within : place_of_flaw l r flaw < 200000000

pub is_at : (l : Listing) (bytes : List ℕ) (r : Told) (flaw : Flaw) → values l ≡ length l.initial → names_hold l ≡ true → limits_hold l ≡ true → IsReport l bytes r → IsFlaw l r flaw → IsAt l bytes r flaw
is_at l bytes r flaw valued names limits is f =
    let sized : Sized l r = record { valued = valued; base = is.fits.base_vars ∙ sym valued; present = is.fits.current_vars ∙ sym valued; begun = is.fits.base_cells } in
    let there = row_at l r flaw sized f in
    let rows : lines bytes ≡ report_rows l r = ap lines is.text ∙ report_lined l r valued names limits (few_tasks l limits) is.fits is.values in
    let stands : slice_get (lines bytes) (place_of_flaw l r flaw) ≡ Some (Whole there.text) =
    subst (λ (ls : List Line). slice_get ls (place_of_flaw l r flaw) ≡ Some (Whole there.text)) (sym rows) there.stands in
    let inside = slice_get_within (lines bytes) (place_of_flaw l r flaw) (Whole there.text) stands in
    let few = lines_length bytes in
    let few_cells : cells l ≤ 1048576 = (limits_parts l limits).cells in
    let short = is.short in
    record {
      text = there.text;
      stands = stands;
      whole = whole_there (lines bytes) (place_of_flaw l r flaw) there.text (lines_last bytes) stands;
      row = there.row;
      within = omega arith;
    }
