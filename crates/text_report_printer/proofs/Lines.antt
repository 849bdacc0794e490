-- The lines of variables and of cells, one more at a time.
use Rattle.std.proofs.Common.{◌≡◌, ℕ, zero, suc, ◌+◌, ◌<◌, List, [], ◌∷◌, ◌++◌, length, take, get_or, Some, sym, ap, ◌∙◌, arith, append_assoc, add-one, add-zero, drop, refl, ℤ}
use Rattle.std.specs.List.{slice_get}
use Rattle.std.proofs.lemmas.Option.{same_Some}
use Rattle.std.proofs.lemmas.List.{append-nil}
use Rattle.txn_programs.specs.Listing.{Listing}
use Rattle.text_report_printer.specs.ReportText.{variable_line, variable_lines, cell_line, cell_lines, table_lines, value_lines}

-- one line more, in plain successors
lines_suc : (names : List (List ℕ)) (vs : List (ℤ × ℕ)) (i : ℕ) (name : List ℕ) (d : ℤ × ℕ) → i < length vs → slice_get names i ≡ Some name → variable_lines names (take (suc i) vs) ≡ variable_lines names (take i vs) ++ variable_line name (get_or vs i d)
lines_suc names [] i name d lt e = absurd (omega arith)
lines_suc [] (v ∷ vs) i name d lt e = absurd (cc)
lines_suc (n ∷ names) (v ∷ vs) zero name d lt e =
    let s : n ≡ name = same_Some _ _ e in
    ap (λ (x : List ℕ). x ++ []) (ap (λ (m : List ℕ). variable_line m v) s) ∙ append-nil (variable_line name v)
lines_suc (n ∷ names) (v ∷ vs) (suc i) name d lt e =
    let h = lines_suc names vs i name d (omega arith) e in
    ap (λ (x : List ℕ). variable_line n v ++ x) h ∙ sym (append_assoc (variable_line n v) (variable_lines names (take i vs)) (variable_line name (get_or vs i d)))

-- one line more
pub lines_more : (names : List (List ℕ)) (vs : List (ℤ × ℕ)) (i : ℕ) (name : List ℕ) (d : ℤ × ℕ) (front out after : List ℕ) → i < length vs → slice_get names i ≡ Some name → out ≡ front ++ variable_lines names (take i vs) → after ≡ out ++ variable_line name (get_or vs i d) → after ≡ front ++ variable_lines names (take (i + 1) vs)
lines_more names vs i name d front out after lt e so_far more =
    let step : variable_lines names (take (i + 1) vs) ≡ variable_lines names (take i vs) ++ variable_line name (get_or vs i d) = rw add-one (lines_suc names vs i name d lt e) in
    more ∙ ap (λ (x : List ℕ). x ++ variable_line name (get_or vs i d)) so_far ∙ append_assoc front (variable_lines names (take i vs)) (variable_line name (get_or vs i d)) ∙ ap (λ (x : List ℕ). front ++ x) (sym step)

-- one cell more, in plain successors
cells_suc : (name : List ℕ) (first : ℕ) (vs : List (ℤ × ℕ)) (i : ℕ) (d : ℤ × ℕ) → i < length vs → cell_lines name first (take (suc i) vs) ≡ cell_lines name first (take i vs) ++ cell_line name (first + i) (get_or vs i d)
cells_suc name first [] i d lt = absurd (omega arith)
cells_suc name first (v ∷ vs) zero d lt = append-nil (cell_line name first v) ∙ ap (λ (n : ℕ). cell_line name n v) (sym (add-zero first))
cells_suc name first (v ∷ vs) (suc i) d lt =
    let h = cells_suc name (suc first) vs i d (omega arith) in
    let front = cell_line name first v in
    let same : suc first + i ≡ first + suc i = omega arith in
    ap (λ (x : List ℕ). front ++ x) h ∙ sym (append_assoc front (cell_lines name (suc first) (take i vs)) (cell_line name (suc first + i) (get_or vs i d)))
    ∙ ap (λ (n : ℕ). (front ++ cell_lines name (suc first) (take i vs)) ++ cell_line name n (get_or vs i d)) same

-- one cell more
pub cells_more : (name : List ℕ) (first : ℕ) (vs : List (ℤ × ℕ)) (i : ℕ) (d : ℤ × ℕ) (front out after : List ℕ) → i < length vs → out ≡ front ++ cell_lines name first (take i vs) → after ≡ out ++ cell_line name (first + i) (get_or vs i d) → after ≡ front ++ cell_lines name first (take (i + 1) vs)
cells_more name first vs i d front out after lt so_far more =
    let last = cell_line name (first + i) (get_or vs i d) in
    let step : cell_lines name first (take (i + 1) vs) ≡ cell_lines name first (take i vs) ++ last = rw add-one (cells_suc name first vs i d lt) in
    more ∙ ap (λ (x : List ℕ). x ++ last) so_far ∙ append_assoc front (cell_lines name first (take i vs)) last ∙ ap (λ (x : List ℕ). front ++ x) (sym step)

-- the lines of a table's cells, where those of the tables behind it are to come
pub table_more : (t : List ℕ × ℕ) (ts : List (List ℕ × ℕ)) (vs : List (ℤ × ℕ)) (whole out after : List ℕ) → out ++ table_lines (t ∷ ts) vs ≡ whole → after ≡ out ++ cell_lines t.0 0 (take t.1 vs) → after ++ table_lines ts (drop t.1 vs) ≡ whole
table_more t ts vs whole out after e more =
    ap (λ (x : List ℕ). x ++ table_lines ts (drop t.1 vs)) more ∙ append_assoc out (cell_lines t.0 0 (take t.1 vs)) (table_lines ts (drop t.1 vs)) ∙ e

-- what stands behind the variables has no line among theirs
pub named_lines : (names : List (List ℕ)) (vs : List (ℤ × ℕ)) → variable_lines names (take (length names) vs) ≡ variable_lines names vs
named_lines [] [] = refl
named_lines [] (v ∷ vs) = refl
named_lines (n ∷ names) [] = refl
named_lines (n ∷ names) (v ∷ vs) = ap (λ (x : List ℕ). variable_line n v ++ x) (named_lines names vs)

-- the lines of the variables, and those of the tables put behind them
pub values_put : (l : Listing) (vs front back : List (ℤ × ℕ)) (out after : List ℕ) (n : ℕ) → n ≡ length l.names → front ≡ take n vs → back ≡ drop n vs → after ≡ out ++ variable_lines l.names front → after ++ table_lines l.tables back ≡ out ++ value_lines l vs
values_put l vs front back out after n count is_front is_back put =
    let first : variable_lines l.names front ≡ variable_lines l.names vs = ap (variable_lines l.names) (is_front ∙ ap (λ (k : ℕ). take k vs) count) ∙ named_lines l.names vs in
    let last : back ≡ drop (length l.names) vs = is_back ∙ ap (λ (k : ℕ). drop k vs) count in
    let tables = table_lines l.tables (drop (length l.names) vs) in
    ap (λ (x : List (ℤ × ℕ)). after ++ table_lines l.tables x) last ∙ ap (λ (x : List ℕ). x ++ tables) (put ∙ ap (λ (x : List ℕ). out ++ x) first) ∙ append_assoc out (variable_lines l.names vs) tables

-- the lines of a table's first cells, and of the others behind them
pub cells_split : (name : List ℕ) (first n : ℕ) (vs : List (ℤ × ℕ)) → cell_lines name first vs ≡ cell_lines name first (take n vs) ++ cell_lines name (first + n) (drop n vs)
cells_split name first zero vs = ap (λ (k : ℕ). cell_lines name k vs) (sym (add-zero first))
cells_split name first (suc n) [] = refl
cells_split name first (suc n) (v ∷ vs) =
    let front = cell_line name first v in
    let same : suc first + n ≡ first + suc n = omega arith in
    ap (λ (x : List ℕ). front ++ x) (cells_split name (suc first) n vs ∙ ap (λ (k : ℕ). cell_lines name (suc first) (take n vs) ++ cell_lines name k (drop n vs)) same)
    ∙ sym (append_assoc front (cell_lines name (suc first) (take n vs)) (cell_lines name (first + suc n) (drop n vs)))
