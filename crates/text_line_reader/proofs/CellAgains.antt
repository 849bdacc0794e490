-- The lines of cells that were written fill the values again.
use Rattle.std.proofs.Common.{◌≡◌, ◌∙◌, ℕ, suc, ◌≤◌, true, false, eqb, List, [], ◌∷◌, ◌++◌, length, Ok, refl, sym, ap, arith, inl, inr}
use Rattle.std.specs.Prelude.{ℤ, FitsSigned, ◌==◌, if◌then◌else◌}
use Rattle.std.specs.Int.{w64}
use Rattle.std.specs.Fmt.{decimal, signed_decimal}
use Rattle.std.specs.List.{flat_map, AllByRecursion}
use Rattle.std.proofs.lemmas.Bool.{and_from, eqb-true, ne_eqb, eq-eqb, le-leb}
use Rattle.std.proofs.lemmas.Bool.Decides.{eqb_tells}
use Rattle.txn_programs.specs.declared.ast.VarId.{VarId}
use Rattle.txn_programs.specs.declared.limits.TheConstants.{MAX_TASKS}
use Rattle.txn_programs.specs.LawfulReport.{UnwrittenBegin}
use Rattle.txn_programs.specs.Listing.{Listing}
use Rattle.text_words.specs.Words.{line}
use Rattle.text_report_printer.specs.ReportText.{variable_line, cell_name}
use Rattle.text_line_reader.specs.ReportRaw.{Cell, cell_words, IsCell}
use Rattle.text_line_reader.specs.ReportResolving.{in_order, cell_told, filled}
use Rattle.text_line_reader.specs.Rows.{each}
use Rattle.text_line_reader.proofs.Agains.{small}
use Rattle.text_line_reader.proofs.Numbers.{decimal_number, int_printed}
use Rattle.text_line_reader.proofs.Spots.{spot_lines}
use Rattle.text_line_reader.proofs.CellPlaces.{IsSpelled, AreSpelled}
use Rattle.text_line_reader.proofs.WordsTold.{value_again, count_again}

-- the line of a cell
abbrev pub written_cell : List ℕ × ℕ → ℤ × ℕ → Cell
written_cell s v = record { table = s.0; index = decimal s.1; value = signed_decimal v.0; version = decimal v.1 }

-- those of cells that an entry wrote
abbrev with_line : {A : Type 0} → ℕ → A → List A → List A
with_line version x xs = if version == 0 then xs else x ∷ xs

abbrev pub written_cells : List (List ℕ × ℕ) → List (ℤ × ℕ) → List Cell
written_cells [] vs = []
written_cells (s ∷ ss) [] = []
written_cells (s ∷ ss) (v ∷ vs) = with_line v.1 (written_cell s v) (written_cells ss vs)

-- and what they tell
abbrev pub told_cells : ℕ → List (ℤ × ℕ) → List (VarId × (ℤ × ℕ))
told_cells x [] = []
told_cells x (v ∷ vs) = with_line v.1 (record { 0 = x }, v) (told_cells (suc x) vs)

pub record CellsAgain (l : Listing) (x : ℕ) (ss : List (List ℕ × ℕ)) (initial : List ℤ) (vs : List (ℤ × ℕ)) : Type 0 where
  pub words : AllByRecursion IsCell (written_cells ss vs)
  pub order : (least : ℕ) → least ≤ x → in_order l least (written_cells ss vs) ≡ true
  pub told : each (cell_told l) (written_cells ss vs) ≡ Ok (told_cells x vs)
  pub filled_is : filled initial x (told_cells x vs) ≡ vs
  pub text : spot_lines ss vs ≡ flat_map (λ c. line (cell_words c)) (written_cells ss vs)

-- the first that is told comes later
IsLater : ℕ → List (VarId × (ℤ × ℕ)) → Type 0
IsLater x [] = Unit {0}
IsLater x (t ∷ ts) = x ≤ t.0.0

told_later : (x y : ℕ) (vs : List (ℤ × ℕ)) → x ≤ y → IsLater x (told_cells y vs)
unfolding IsLater
told_later x y [] le = tt
told_later x y (v ∷ vs) le =
    elim (eqb_tells v.1 0) [
      | inl e ↦ rw e.0 (told_later x (suc y) vs (omega (arith, le)))
      | inr e ↦ rw e.0 le
    ]

-- a cell that no entry wrote
not_told : (x : ℕ) (first : ℤ) (initial : List ℤ) (ts : List (VarId × (ℤ × ℕ))) → IsLater (suc x) ts → filled (first ∷ initial) x ts ≡ (first, 0) ∷ filled initial (suc x) ts
unfolding IsLater
not_told x first initial [] h = refl
not_told x first initial (t ∷ ts) h = let other : eqb t.0.0 x ≡ false = ne_eqb t.0.0 x (λ e. absurd (omega (arith, h, e))) in rw other refl

is_told : (x : ℕ) (v : ℤ × ℕ) (first : ℤ) (initial : List ℤ) (ts : List (VarId × (ℤ × ℕ))) → filled (first ∷ initial) x ((record { 0 = x }, v) ∷ ts) ≡ v ∷ filled initial (suc x) ts
is_told x v first initial ts = let same : eqb x x ≡ true = eq-eqb x x refl in rw same refl

cell_again : (l : Listing) (x : ℕ) (s : List ℕ × ℕ) (v : ℤ × ℕ) → IsSpelled l x s → FitsSigned w64 v.0 → v.1 ≤ MAX_TASKS → eqb v.1 0 ≡ false → cell_told l (written_cell s v) ≡ Ok (record { 0 = x }, v)
unfolding cell_told
cell_again l x s v h f m w = rw (h.id, value_again v.0 f, count_again v.1 m, w) refl

unwritten : (l : Listing) (x : ℕ) (s : List ℕ × ℕ) (ss : List (List ℕ × ℕ)) (first : ℤ) (initial : List ℤ) (v : ℤ × ℕ) (vs : List (ℤ × ℕ)) → eqb v.1 0 ≡ true → v.0 ≡ first
    → CellsAgain l (suc x) ss initial vs → CellsAgain l x (s ∷ ss) (first ∷ initial) (v ∷ vs)
unwritten l x s ss first initial v vs e same h =
    let zero_is : 0 ≡ v.1 = sym (eqb-true v.1 0 e) in
    record {
      words = rw e h.words;
      order = λ least le. rw e (h.order least (omega (arith, le)));
      told = rw e h.told;
      filled_is = rw e (not_told x first initial (told_cells (suc x) vs) (told_later (suc x) (suc x) vs (omega arith))
          ∙ ap (λ (z : ℤ). (z, 0) ∷ filled initial (suc x) (told_cells (suc x) vs)) (sym same)
          ∙ ap (λ (n : ℕ). (v.0, n) ∷ filled initial (suc x) (told_cells (suc x) vs)) zero_is
          ∙ ap (λ (us : List (ℤ × ℕ)). v ∷ us) h.filled_is);
      text = rw e h.text;
    }

written : (l : Listing) (x : ℕ) (s : List ℕ × ℕ) (ss : List (List ℕ × ℕ)) (first : ℤ) (initial : List ℤ) (v : ℤ × ℕ) (vs : List (ℤ × ℕ)) → IsSpelled l x s → FitsSigned w64 v.0 → v.1 ≤ MAX_TASKS → eqb v.1 0 ≡ false
    → CellsAgain l (suc x) ss initial vs → CellsAgain l x (s ∷ ss) (first ∷ initial) (v ∷ vs)
written l x s ss first initial v vs sp f m e h =
    let word : IsCell (written_cell s v) = record { table = sp.name; index = decimal_number s.1 sp.small; value = int_printed v.0 f; version = small v.1 m } in
    record {
      words = rw e (word, h.words);
      order = λ least le. rw (e, sp.id) (and_from _ _ (le-leb least x le) (h.order (suc x) (omega arith)));
      told = rw (e, cell_again l x s v sp f m e, h.told) refl;
      filled_is = rw e (is_told x v first initial (told_cells (suc x) vs) ∙ ap (λ (us : List (ℤ × ℕ)). v ∷ us) h.filled_is);
      text = rw e (ap (λ (t : List ℕ). variable_line (cell_name s.0 s.1) v ++ t) h.text);
    }

pub cells_again : (l : Listing) (x : ℕ) (ss : List (List ℕ × ℕ)) (initial : List ℤ) (vs : List (ℤ × ℕ)) → length initial ≡ length ss → length vs ≡ length ss → AreSpelled l x ss → UnwrittenBegin initial vs
    → AllByRecursion (λ v. FitsSigned w64 v.0) vs → AllByRecursion (λ v. v.1 ≤ MAX_TASKS) vs → CellsAgain l x ss initial vs
cells_again l x [] (first ∷ initial) vs a b spelled begin values versions = absurd (omega (arith, a))
cells_again l x [] [] (v ∷ vs) a b spelled begin values versions = absurd (omega (arith, b))
cells_again l x [] [] [] a b spelled begin values versions = record { words = tt; order = λ least le. refl; told = refl; filled_is = refl; text = refl }
cells_again l x (s ∷ ss) [] vs a b spelled begin values versions = absurd (omega (arith, a))
cells_again l x (s ∷ ss) (first ∷ initial) [] a b spelled begin values versions = absurd (omega (arith, b))
cells_again l x (s ∷ ss) (first ∷ initial) (v ∷ vs) a b spelled begin values versions =
    let rest = cells_again l (suc x) ss initial vs (omega (arith, a)) (omega (arith, b)) spelled.1 begin.1 values.1 versions.1 in
    elim (eqb_tells v.1 0) [
      | inl h ↦ unwritten l x s ss first initial v vs h.0 (begin.0 h.1) rest
      | inr h ↦ written l x s ss first initial v vs spelled.0 values.0 versions.0 h.0 rest
    ]
