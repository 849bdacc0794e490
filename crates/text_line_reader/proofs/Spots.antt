-- The cells of all tables in their order: each with its table's name and its number in it.
use Rattle.std.proofs.Common.{◌≡◌, ◌∙◌, ℕ, zero, suc, ◌+◌, ◌<◌, ◌≤◌, List, [], ◌∷◌, ◌++◌, length, map, take, drop, get_or, Some, refl, sym, ap, append_assoc, arith}
use Rattle.std.specs.Prelude.{ℤ, sum_by, slice_get, string_bytes}
use Rattle.std.specs.declared.alloc.Global.{Global}
use Rattle.std.specs.declared.string.String.{String}
use Rattle.std.proofs.lemmas.List.{append-nil, drop_all}
use Rattle.std.proofs.lemmas.List.Sums.{sum_by-cons}
use Rattle.txn_programs.specs.declared.ast.Span.{Span}
use Rattle.txn_programs.specs.Listing.{spans_from}
use Rattle.text_line_reader.proofs.Each.{next_item}
use Rattle.text_report_printer.specs.ReportText.{cell_line, cell_lines, table_lines}

-- those of one table from this number on, so many
abbrev pub row : List ℕ → ℕ → ℕ → List (List ℕ × ℕ)
row name index zero = []
row name index (suc n) = (name, index) ∷ row name (suc index) n

abbrev pub spots : List (List ℕ × ℕ) → List (List ℕ × ℕ)
spots [] = []
spots (t ∷ ts) = row t.0 0 t.1 ++ spots ts

-- the lines of cells, one by one
abbrev pub spot_lines : List (List ℕ × ℕ) → List (ℤ × ℕ) → List ℕ
spot_lines [] vs = []
spot_lines (s ∷ ss) [] = []
spot_lines (s ∷ ss) (v ∷ vs) = cell_line s.0 s.1 v ++ spot_lines ss vs

no_values : (ss : List (List ℕ × ℕ)) → spot_lines ss [] ≡ []
no_values [] = refl
no_values (s ∷ ss) = refl

row_lines : (name : List ℕ) (index n : ℕ) (ss : List (List ℕ × ℕ)) (vs : List (ℤ × ℕ)) → spot_lines (row name index n ++ ss) vs ≡ cell_lines name index (take n vs) ++ spot_lines ss (drop n vs)
row_lines name index zero ss vs = refl
row_lines name index (suc n) ss [] = sym (no_values ss)
row_lines name index (suc n) ss (v ∷ vs) =
    ap (λ (t : List ℕ). cell_line name index v ++ t) (row_lines name (suc index) n ss vs)
    ∙ sym (append_assoc (cell_line name index v) (cell_lines name (suc index) (take n vs)) (spot_lines ss (drop n vs)))

pub tables_lined : (ts : List (List ℕ × ℕ)) (vs : List (ℤ × ℕ)) → spot_lines (spots ts) vs ≡ table_lines ts vs
tables_lined [] vs = refl
tables_lined (t ∷ ts) vs = row_lines t.0 0 t.1 (spots ts) vs ∙ ap (λ (u : List ℕ). cell_lines t.0 0 (take t.1 vs) ++ u) (tables_lined ts (drop t.1 vs))

-- ---- how many there are

row_length : (name : List ℕ) (index n : ℕ) (ss : List (List ℕ × ℕ)) → length (row name index n ++ ss) ≡ n + length ss
row_length name index zero ss = omega arith
row_length name index (suc n) ss = let h = row_length name (suc index) n ss in omega (arith, h)

pub spots_length : (ts : List (List ℕ × ℕ)) → length (spots ts) ≡ sum_by (λ t. t.1) ts
spots_length [] = refl
spots_length (t ∷ ts) =
    let s : sum_by (λ (u : List ℕ × ℕ). u.1) (t ∷ ts) ≡ t.1 + sum_by (λ (u : List ℕ × ℕ). u.1) ts = sum_by-cons (λ (u : List ℕ × ℕ). u.1) t ts in
    row_length t.0 0 t.1 (spots ts) ∙ ap (λ n. t.1 + n) (spots_length ts) ∙ sym s

-- ---- where a table's are

pub row_at : (name : List ℕ) (index n k : ℕ) (ss : List (List ℕ × ℕ)) → k < n → slice_get (row name index n ++ ss) k ≡ Some (name, index + k)
row_at name index zero k ss lt = absurd (omega arith)
row_at name index (suc n) zero ss lt = let same : index ≡ index + 0 = omega arith in ap (λ i. Some (name, i)) same
row_at name index (suc n) (suc k) ss lt =
    let same : suc index + k ≡ index + suc k = omega arith in
    row_at name (suc index) n k ss (omega arith) ∙ ap (λ i. Some (name, i)) same

pub behind_row : (name : List ℕ) (index n k : ℕ) (ss : List (List ℕ × ℕ)) → slice_get (row name index n ++ ss) (n + k) ≡ slice_get ss k
behind_row name index zero k ss = let same : 0 + k ≡ k = omega arith in ap (slice_get ss) same
behind_row name index (suc n) k ss =
    let next : suc n + k ≡ suc (n + k) = omega arith in
    ap (slice_get ((name, index) ∷ (row name (suc index) n ++ ss))) next ∙ behind_row name (suc index) n k ss

abbrev pub no_table : List ℕ × ℕ
no_table = ([], 0)

abbrev pub no_span : Span
no_span = record { first = 0; length = 0 }

-- a cell of the table at a place lies behind the first by so many
pub record SpotAt (first : ℕ) (ts : List (List ℕ × ℕ)) (place index : ℕ) : Type 0 where
  pub far : ℕ
  pub first_is : (get_or (spans_from first ts) place no_span).first ≡ first + far
  pub length_is : (get_or (spans_from first ts) place no_span).length ≡ (get_or ts place no_table).1
  pub inside : index < sum_by (λ t. t.1) ts
  pub is : slice_get (spots ts) (far + index) ≡ Some ((get_or ts place no_table).0, index)

pub spot_at : (first : ℕ) (ts : List (List ℕ × ℕ)) (place index : ℕ) → place < length ts → index < (get_or (spans_from first ts) place no_span).length → SpotAt first ts place index
spot_at first [] place index lt inside = absurd (omega arith)
spot_at first (t ∷ ts) zero index lt inside =
    let s : sum_by (λ (u : List ℕ × ℕ). u.1) (t ∷ ts) ≡ t.1 + sum_by (λ (u : List ℕ × ℕ). u.1) ts = sum_by-cons (λ (u : List ℕ × ℕ). u.1) t ts in
    record { far = 0; first_is = omega arith; length_is = refl; inside = omega (arith, inside, s); is = let same : 0 + index ≡ index = omega arith in ap (slice_get (row t.0 0 t.1 ++ spots ts)) same ∙ row_at t.0 0 t.1 index (spots ts) inside ∙ ap (λ i. Some (t.0, i)) same }
spot_at first (t ∷ ts) (suc place) index lt inside =
    let s = spot_at (first + t.1) ts place index (omega arith) inside in
    let f = s.first_is in
    let below = s.inside in
    let total : sum_by (λ (u : List ℕ × ℕ). u.1) (t ∷ ts) ≡ t.1 + sum_by (λ (u : List ℕ × ℕ). u.1) ts = sum_by-cons (λ (u : List ℕ × ℕ). u.1) t ts in
    let on : t.1 + s.far + index ≡ t.1 + (s.far + index) = omega arith in
    record {
      far = t.1 + s.far;
      first_is = omega (arith, f);
      length_is = s.length_is;
      inside = omega (arith, below, total);
      is = ap (slice_get (row t.0 0 t.1 ++ spots ts)) on ∙ behind_row t.0 0 t.1 (s.far + index) (spots ts) ∙ s.is;
    }

-- ---- the tables as the code has them

abbrev pub sized : String Global × ℕ → List ℕ × ℕ
sized t = (string_bytes t.0, t.1)

-- one table more
pub spans_more : (made : List Span) (first : ℕ) (tables : List (String Global × ℕ)) (i : ℕ) (t : String Global × ℕ) (total : List Span) → i < length tables → t ≡ get_or tables i t
    → made ++ spans_from first (map sized (drop i tables)) ≡ total → (made ++ record { first = first; length = t.1 } ∷ []) ++ spans_from (first + t.1) (map sized (drop (i + 1) tables)) ≡ total
spans_more made first tables i t total lt is so_far =
    append_assoc made (record { first = first; length = t.1 } ∷ []) (spans_from (first + t.1) (map sized (drop (i + 1) tables)))
    ∙ ap (λ (ts : List (String Global × ℕ)). made ++ spans_from first (map sized ts)) (sym (next_item tables i t lt is)) ∙ so_far

pub room_more : (first : ℕ) (tables : List (String Global × ℕ)) (i : ℕ) (t : String Global × ℕ) → i < length tables → t ≡ get_or tables i t
    → first + sum_by (λ u. u.1) (map sized (drop i tables)) ≡ first + t.1 + sum_by (λ u. u.1) (map sized (drop (i + 1) tables))
room_more first tables i t lt is =
    let rest : List (List ℕ × ℕ) = map sized (drop (i + 1) tables) in
    let s : sum_by (λ (u : List ℕ × ℕ). u.1) (sized t ∷ rest) ≡ t.1 + sum_by (λ (u : List ℕ × ℕ). u.1) rest = sum_by-cons (λ (u : List ℕ × ℕ). u.1) (sized t) rest in
    ap (λ (ts : List (String Global × ℕ)). first + sum_by (λ (u : List ℕ × ℕ). u.1) (map sized ts)) (next_item tables i t lt is) ∙ omega (arith, s)

-- all of them
pub spans_done : (made : List Span) (first : ℕ) (tables : List (String Global × ℕ)) (i : ℕ) (total : List Span) → length tables ≤ i → made ++ spans_from first (map sized (drop i tables)) ≡ total → made ≡ total
spans_done made first tables i total le so_far =
    sym (append-nil made) ∙ ap (λ (ts : List (String Global × ℕ)). made ++ spans_from first (map sized ts)) (sym (drop_all i tables le)) ∙ so_far
