-- The lines of values, each at its place.
use Rattle.std.proofs.Common.{◌≡◌, ◌≢◌, ◌∙◌, ◌==◌, ℕ, ℤ, zero, suc, ◌+◌, ◌-◌, ◌<◌, ◌≤◌, Bool, true, false, if◌then◌else◌, List, [], ◌∷◌, ◌++◌, length, length-append, length-drop, take, drop, get_or, sum_by, Some, refl, sym, ap, subst, arith, inl, inr}
use Rattle.std.specs.List.{slice_get}
use Rattle.std.proofs.lemmas.Bool.Decides.{eqb_tells, leb_tells}
use Rattle.std.proofs.lemmas.List.{take_rest}
use Rattle.std.proofs.lemmas.List.Sums.{sum_by-cons}
use Rattle.std.proofs.lemmas.Option.{same_Some, slice_get-get_or, slice_get_within}
use Rattle.txn_programs.specs.LawfulReport.{UnwrittenBegin}
use Rattle.txn_programs.specs.Listing.{Listing, cells, values}
use Rattle.text_line_reader.specs.Lines.{Line, Whole, Cut}
use Rattle.text_report_printer.specs.Names.{named_cell, value_name}
use Rattle.text_report_printer.specs.ReportText.{cell_name}
use Rattle.explain_reports.specs.Rows.{written, lines_before, lines_of, HasLine}
use Rattle.explain_reports.proofs.Lined.{variable_row, variable_rows, cell_row, cell_rows, table_rows, value_rows}

-- ---- places in lists

pub in_front : {A : Type 0} (xs ys : List A) (k : ℕ) (y : A) → slice_get xs k ≡ Some y → slice_get (xs ++ ys) k ≡ Some y
in_front [] ys k y e = absurd (cc)
in_front (x ∷ xs) ys zero y e = e
in_front (x ∷ xs) ys (suc k) y e = in_front xs ys k y e

behind_all : {A : Type 0} (xs ys : List A) (k : ℕ) (y : A) → slice_get ys k ≡ Some y → slice_get (xs ++ ys) (length xs + k) ≡ Some y
behind_all [] ys k y e = let same : 0 + k ≡ k = omega arith in ap (slice_get ys) same ∙ e
behind_all (x ∷ xs) ys k y e = let next : suc (length xs) + k ≡ suc (length xs + k) = omega arith in ap (slice_get (x ∷ (xs ++ ys))) next ∙ behind_all xs ys k y e

pub behind : {A : Type 0} (n : ℕ) (xs ys : List A) (k : ℕ) (y : A) → length xs ≡ n → slice_get ys k ≡ Some y → slice_get (xs ++ ys) (n + k) ≡ Some y
behind n xs ys k y sized e = subst (λ m. slice_get (xs ++ ys) (m + k) ≡ Some y) sized (behind_all xs ys k y e)

pub some_at : {A : Type 0} (xs : List A) (i : ℕ) → i < length xs → (x : A) × (slice_get xs i ≡ Some x)
some_at [] i lt = absurd (omega arith)
some_at (x ∷ xs) zero lt = (x, refl)
some_at (x ∷ xs) (suc i) lt = some_at xs i (omega arith)

-- what stands behind the first n
at_drop : {A : Type 0} (n : ℕ) (xs : List A) (i : ℕ) (x : A) → n ≤ i → slice_get xs i ≡ Some x → slice_get (drop n xs) (i - n) ≡ Some x
at_drop zero xs i x le e = let same : i - 0 ≡ i = omega arith in ap (slice_get xs) same ∙ e
at_drop (suc n) xs zero x le e = absurd (omega arith)
at_drop (suc n) [] (suc i) x le e = absurd (cc)
at_drop (suc n) (y ∷ xs) (suc i) x le e =
    let same : suc i - suc n ≡ i - n = omega arith in
    ap (slice_get (drop n xs)) same ∙ at_drop n xs i x (omega arith) e

at_take : {A : Type 0} (n : ℕ) (xs : List A) (i : ℕ) (x : A) → i < n → slice_get xs i ≡ Some x → slice_get (take n xs) i ≡ Some x
at_take zero xs i x lt e = absurd (omega arith)
at_take (suc n) [] i x lt e = absurd (cc)
at_take (suc n) (y ∷ xs) zero x lt e = e
at_take (suc n) (y ∷ xs) (suc i) x lt e = at_take n xs i x (omega arith) e

-- ---- how many were written

more_written : (none : Bool) (a b c : ℕ) → a ≡ b + c → (if none then a else suc a) ≡ (if none then b else suc b) + c
more_written true a b c e = e
more_written false a b c e = omega (arith, e)

written_parts : (n : ℕ) (vs : List (ℤ × ℕ)) → written vs ≡ written (take n vs) + written (drop n vs)
written_parts zero vs = omega arith
written_parts (suc n) [] = refl
written_parts (suc n) (v ∷ vs) = more_written (v.1 == 0) (written vs) (written (take n vs)) (written (drop n vs)) (written_parts n vs)

written_within : (n i : ℕ) (vs : List (ℤ × ℕ)) → i ≤ n → written (take i (take n vs)) ≡ written (take i vs)
written_within n zero vs le = refl
written_within zero (suc i) vs le = absurd (omega arith)
written_within (suc n) (suc i) [] le = refl
written_within (suc n) (suc i) (v ∷ vs) le =
    ap (λ (k : ℕ). if v.1 == 0 then k else suc k) (written_within n i vs (omega arith))

written_past : (n i : ℕ) (vs : List (ℤ × ℕ)) → n ≤ i → written (take i vs) ≡ written (take n vs) + written (take (i - n) (drop n vs))
written_past zero i vs le = let same : i - 0 ≡ i = omega arith in ap (λ (k : ℕ). written (take k vs)) (sym same) ∙ omega arith
written_past (suc n) zero vs le = absurd (omega arith)
written_past (suc n) (suc i) [] le = no_more (suc i - suc n)
  where
    no_more : (k : ℕ) → 0 ≡ 0 + written (take k [])
    no_more zero = refl
    no_more (suc k) = refl
written_past (suc n) (suc i) (v ∷ vs) le =
    let same : suc i - suc n ≡ i - n = omega arith in
    more_written (v.1 == 0) (written (take i vs)) (written (take n vs)) (written (take (suc i - suc n) (drop n vs)))
    (written_past n i vs (omega arith) ∙ ap (λ (k : ℕ). written (take n vs) + written (take k (drop n vs))) (sym same))

-- no more than all of them
written_at_most : (i : ℕ) (vs : List (ℤ × ℕ)) → written (take i vs) ≤ written vs
written_at_most i vs = let all = written_parts i vs in omega (arith, all)

-- ---- cells

row_sized : (name : List ℕ) (index : ℕ) (v : ℤ × ℕ) (rest : List Line) (n : ℕ) → length rest ≡ n → length (cell_row name index v ++ rest) ≡ (if v.1 == 0 then n else suc n)
row_sized name index v rest n e =
    elim (v.1 == 0) as (λ none. length ((if none then [] else Whole (variable_row (cell_name name index) v) ∷ []) ++ rest) ≡ (if none then n else suc n)) [
      | true ↦ e
      | false ↦ ap suc e
    ]

cells_sized : (name : List ℕ) (index : ℕ) (vs : List (ℤ × ℕ)) → length (cell_rows name index vs) ≡ written vs
cells_sized name index [] = refl
cells_sized name index (v ∷ vs) = row_sized name index v (cell_rows name (suc index) vs) (written vs) (cells_sized name (suc index) vs)

behind_row : (name : List ℕ) (index : ℕ) (v : ℤ × ℕ) (rest : List Line) (k : ℕ) (x : Line) → slice_get rest k ≡ Some x → slice_get (cell_row name index v ++ rest) (if v.1 == 0 then k else suc k) ≡ Some x
behind_row name index v rest k x e =
    elim (v.1 == 0) as (λ none. slice_get ((if none then [] else Whole (variable_row (cell_name name index) v) ∷ []) ++ rest) (if none then k else suc k) ≡ Some x) [
      | true ↦ e
      | false ↦ e
    ]

first_row : (name : List ℕ) (index : ℕ) (v : ℤ × ℕ) (rest : List Line) → v.1 ≢ 0 → slice_get (cell_row name index v ++ rest) 0 ≡ Some (Whole (variable_row (cell_name name index) v))
first_row name index v rest h =
    elim (eqb_tells v.1 0) [
      | inl e ↦ absurd (h e.1)
      | inr e ↦ ap (λ (none : Bool). slice_get ((if none then [] else Whole (variable_row (cell_name name index) v) ∷ []) ++ rest) 0) e.0
    ]

cell_at : (name : List ℕ) (index : ℕ) (vs : List (ℤ × ℕ)) (j : ℕ) (v : ℤ × ℕ) → slice_get vs j ≡ Some v → v.1 ≢ 0 → slice_get (cell_rows name index vs) (written (take j vs)) ≡ Some (Whole (variable_row (cell_name name (index + j)) v))
cell_at name index [] j v e h = absurd (cc)
cell_at name index (w ∷ vs) zero v e h =
    let same : w ≡ v = same_Some w v e in
    let here : index ≡ index + 0 = omega arith in
    subst (λ (x : ℤ × ℕ). slice_get (cell_row name index x ++ cell_rows name (suc index) vs) 0 ≡ Some (Whole (variable_row (cell_name name (index + 0)) v))) (sym same)
    (first_row name index v (cell_rows name (suc index) vs) h ∙ ap (λ (k : ℕ). Some (Whole (variable_row (cell_name name k) v))) here)
cell_at name index (w ∷ vs) (suc j) v e h =
    let next : suc index + j ≡ index + suc j = omega arith in
    behind_row name index w (cell_rows name (suc index) vs) (written (take j vs)) (Whole (variable_row (cell_name name (index + suc j)) v))
    (cell_at name (suc index) vs j v e h ∙ ap (λ (k : ℕ). Some (Whole (variable_row (cell_name name k) v))) next)

nothing_written : (vs : List (ℤ × ℕ)) → length vs ≡ 0 → written vs ≡ 0
nothing_written [] e = refl
nothing_written (v ∷ vs) e = absurd (omega arith)

tables_sized : (ts : List (List ℕ × ℕ)) (vs : List (ℤ × ℕ)) → length vs ≡ sum_by (λ t. t.1) ts → length (table_rows ts vs) ≡ written vs
tables_sized [] vs e = sym (nothing_written vs e)
tables_sized (t ∷ ts) vs e =
    let whole = sum_by-cons (λ (u : List ℕ × ℕ). u.1) t ts in
    let rest : length (drop t.1 vs) ≡ sum_by (λ (u : List ℕ × ℕ). u.1) ts = omega (arith, length-drop t.1 vs, whole, e) in
    omega (arith, length-append (cell_rows t.0 0 (take t.1 vs)) (table_rows ts (drop t.1 vs)), cells_sized t.0 0 (take t.1 vs), tables_sized ts (drop t.1 vs) rest, written_parts t.1 vs)

table_at : (ts : List (List ℕ × ℕ)) (vs : List (ℤ × ℕ)) (j : ℕ) (v : ℤ × ℕ) → length vs ≡ sum_by (λ t. t.1) ts → slice_get vs j ≡ Some v → v.1 ≢ 0 → slice_get (table_rows ts vs) (written (take j vs)) ≡ Some (Whole (variable_row (named_cell ts j) v))
table_at [] vs j v sized e h = let inside = slice_get_within vs j v e in let none : length vs ≡ 0 = sized in absurd (omega (arith, inside, none))
table_at (t ∷ ts) vs j v sized e h =
    let whole = sum_by-cons (λ (u : List ℕ × ℕ). u.1) t ts in
    let rest : length (drop t.1 vs) ≡ sum_by (λ (u : List ℕ × ℕ). u.1) ts = omega (arith, length-drop t.1 vs, whole, sized) in
    let front = cell_rows t.0 0 (take t.1 vs) in
    let back = table_rows ts (drop t.1 vs) in
    elim (leb_tells (suc j) t.1) [
      | inl d ↦
          let here = cell_at t.0 0 (take t.1 vs) j v (at_take t.1 vs j v d.1 e) h in
          let place = written_within t.1 j vs (omega (arith, d.1)) in
          let name : 0 + j ≡ j = omega arith in
          let row : Line = Whole (variable_row (cell_name t.0 j) v) in
          let at : slice_get (front ++ back) (written (take j vs)) ≡ Some row =
          in_front front back (written (take j vs)) row (ap (slice_get front) (sym place) ∙ here ∙ ap (λ (k : ℕ). Some (Whole (variable_row (cell_name t.0 k) v))) name) in
          at ∙ ap (λ (b : Bool). Some (Whole (variable_row (if b then cell_name t.0 j else named_cell ts (j - t.1)) v))) (sym d.0)
      | inr d ↦
          let past : t.1 ≤ j = omega (arith, d.1) in
          let there = table_at ts (drop t.1 vs) (j - t.1) v rest (at_drop t.1 vs j v past e) h in
          let row : Line = Whole (variable_row (named_cell ts (j - t.1)) v) in
          let at : slice_get (front ++ back) (written (take j vs)) ≡ Some row =
          ap (slice_get (front ++ back)) (written_past t.1 j vs past)
          ∙ behind (written (take t.1 vs)) front back (written (take (j - t.1) (drop t.1 vs))) row (cells_sized t.0 0 (take t.1 vs)) there in
          at ∙ ap (λ (b : Bool). Some (Whole (variable_row (if b then cell_name t.0 j else named_cell ts (j - t.1)) v))) (sym d.0)
    ]

-- ---- variables

variable_at : (names : List (List ℕ)) (vs : List (ℤ × ℕ)) (i : ℕ) (name : List ℕ) (v : ℤ × ℕ) → slice_get names i ≡ Some name → slice_get vs i ≡ Some v → slice_get (variable_rows names vs) i ≡ Some (Whole (variable_row name v))
variable_at names [] i name v a b = absurd (cc)
variable_at [] (w ∷ vs) i name v a b = absurd (cc)
variable_at (m ∷ names) (w ∷ vs) zero name v a b =
    ap (λ (x : List ℕ). Some (Whole (variable_row x w))) (same_Some m name a) ∙ ap (λ (x : ℤ × ℕ). Some (Whole (variable_row name x))) (same_Some w v b)
variable_at (m ∷ names) (w ∷ vs) (suc i) name v a b = variable_at names vs i name v a b

variables_sized : (names : List (List ℕ)) (vs : List (ℤ × ℕ)) → length names ≤ length vs → length (variable_rows names vs) ≡ length names
variables_sized [] [] h = refl
variables_sized [] (v ∷ vs) h = refl
variables_sized (name ∷ names) [] h = absurd (omega arith)
variables_sized (name ∷ names) (v ∷ vs) h = ap suc (variables_sized names vs (omega arith))

-- ---- values

behind_variables : (l : Listing) (vs : List (ℤ × ℕ)) → length vs ≡ values l → length (drop (length l.names) vs) ≡ cells l
behind_variables l vs sized = omega (arith, length-drop (length l.names) vs, sized)

all_lines : (l : Listing) (vs : List (ℤ × ℕ)) → length vs ≡ values l → lines_of l vs ≡ length l.names + written (drop (length l.names) vs)
all_lines l vs sized =
    let n = length l.names in
    let few : n ≤ length vs = omega (arith, sized) in
    let rest : take (length vs - n) (drop n vs) ≡ drop n vs = take_rest vs n in
    elim (leb_tells (suc (length vs)) n) [
      | inl d ↦ absurd (omega (arith, d.1, few))
      | inr d ↦ ap (λ (b : Bool). if b then length vs else n + written (take (length vs - n) (drop n vs))) d.0 ∙ ap (λ (ws : List (ℤ × ℕ)). n + written ws) rest
    ]

pub values_sized : (l : Listing) (vs : List (ℤ × ℕ)) → length vs ≡ values l → length (value_rows l vs) ≡ lines_of l vs
values_sized l vs sized =
    let rest = drop (length l.names) vs in
    let front = variables_sized l.names vs (omega (arith, sized)) in
    let back = tables_sized l.tables rest (behind_variables l vs sized) in
    omega (arith, length-append (variable_rows l.names vs) (table_rows l.tables rest), front, back, all_lines l vs sized)

pub value_at : (l : Listing) (vs : List (ℤ × ℕ)) (i : ℕ) (v : ℤ × ℕ) → length vs ≡ values l → slice_get vs i ≡ Some v → HasLine l i v → slice_get (value_rows l vs) (lines_before l vs i) ≡ Some (Whole (variable_row (value_name l i) v))
value_at l vs i v sized e h =
    let n = length l.names in
    let rest = drop n vs in
    let front = variable_rows l.names vs in
    let back = table_rows l.tables rest in
    let place : Bool → ℕ = λ b. if b then i else n + written (take (i - n) rest) in
    let name : Bool → List ℕ = λ b. if b then get_or l.names i [] else named_cell l.tables (i - n) in
    elim (leb_tells (suc i) n) [
      | inl d ↦
          let at : slice_get l.names i ≡ Some (get_or l.names i []) = slice_get-get_or l.names i [] d.1 in
          let row : Line = Whole (variable_row (get_or l.names i []) v) in
          let there : slice_get (front ++ back) i ≡ Some row = in_front front back i row (variable_at l.names vs i (get_or l.names i []) v at e) in
          ap (λ (b : Bool). slice_get (front ++ back) (place b)) d.0 ∙ there ∙ ap (λ (b : Bool). Some (Whole (variable_row (name b) v))) (sym d.0)
      | inr d ↦
          let past : n ≤ i = omega (arith, d.1) in
          let changed : v.1 ≢ 0 = elim h [ inl lt ↦ absurd (omega (arith, lt, past)) | inr w ↦ w ] in
          let row : Line = Whole (variable_row (named_cell l.tables (i - n)) v) in
          let there : slice_get (front ++ back) (n + written (take (i - n) rest)) ≡ Some row =
          behind n front back (written (take (i - n) rest)) row (variables_sized l.names vs (omega (arith, sized)))
          (table_at l.tables rest (i - n) v (behind_variables l vs sized) (at_drop n vs i v past e) changed) in
          ap (λ (b : Bool). slice_get (front ++ back) (place b)) d.0 ∙ there ∙ ap (λ (b : Bool). Some (Whole (variable_row (name b) v))) (sym d.0)
    ]

-- no value is told behind all of them
pub before_end : (l : Listing) (vs : List (ℤ × ℕ)) (i : ℕ) → length vs ≡ values l → lines_before l vs i ≤ lines_of l vs
before_end l vs i sized =
    let n = length l.names in
    let rest = drop n vs in
    let all = all_lines l vs sized in
    let some = written_at_most (i - n) rest in
    elim (leb_tells (suc i) n) [
      | inl d ↦
          let is : lines_before l vs i ≡ i = ap (λ (b : Bool). if b then i else n + written (take (i - n) rest)) d.0 in
          omega (arith, is, d.1, all)
      | inr d ↦
          let is : lines_before l vs i ≡ n + written (take (i - n) rest) = ap (λ (b : Bool). if b then i else n + written (take (i - n) rest)) d.0 in
          omega (arith, is, all, some)
    ]

-- ---- a cell that begins otherwise was written

begun_at : (initial : List ℤ) (vars : List (ℤ × ℕ)) (k : ℕ) (v : ℤ × ℕ) → length vars ≡ length initial → UnwrittenBegin initial vars → slice_get vars k ≡ Some v → v.1 ≡ 0 → slice_get initial k ≡ Some v.0
begun_at initial [] k v sized h e none = absurd (cc)
begun_at [] (w ∷ vars) k v sized h e none = absurd (omega arith)
begun_at (first ∷ initial) (w ∷ vars) zero v sized h e none =
    let same : w ≡ v = same_Some w v e in
    ap Some (sym (h.0 (ap (λ (x : ℤ × ℕ). x.1) same ∙ none)) ∙ ap (λ (x : ℤ × ℕ). x.0) same)
begun_at (first ∷ initial) (w ∷ vars) (suc k) v sized h e none = begun_at initial vars k v (omega arith) h.1 e none

from_drop : {A : Type 0} (n : ℕ) (xs : List A) (i : ℕ) (x : A) → n ≤ i → slice_get (drop n xs) (i - n) ≡ Some x → slice_get xs i ≡ Some x
from_drop zero xs i x le e = let same : i - 0 ≡ i = omega arith in ap (slice_get xs) (sym same) ∙ e
from_drop (suc n) xs zero x le e = absurd (omega arith)
from_drop (suc n) [] (suc i) x le e = absurd (cc)
from_drop (suc n) (y ∷ xs) (suc i) x le e =
    let same : suc i - suc n ≡ i - n = omega arith in
    from_drop n xs i x (omega arith) (ap (slice_get (drop n xs)) (sym same) ∙ e)

pub begun_value : (l : Listing) (vars : List (ℤ × ℕ)) (i : ℕ) (v : ℤ × ℕ) → length vars ≡ length l.initial → UnwrittenBegin (drop (length l.names) l.initial) (drop (length l.names) vars) → length l.names ≤ i → slice_get vars i ≡ Some v → v.1 ≡ 0 → slice_get l.initial i ≡ Some v.0
begun_value l vars i v sized h past e none =
    let n = length l.names in
    let same : length (drop n vars) ≡ length (drop n l.initial) = omega (arith, length-drop n vars, length-drop n l.initial, sized) in
    from_drop n l.initial i v.0 past (begun_at (drop n l.initial) (drop n vars) (i - n) v same h (at_drop n vars i v past e) none)

-- ---- each line of values is whole

abbrev pub AreWhole : List Line → Type 0
AreWhole [] = Unit {0}
AreWhole (Whole text ∷ ls) = AreWhole ls
AreWhole (Cut text ∷ ls) = ⊥

pub whole_behind : (xs ys : List Line) → AreWhole xs → AreWhole ys → AreWhole (xs ++ ys)
whole_behind [] ys h k = k
whole_behind (Whole text ∷ xs) ys h k = whole_behind xs ys h k
whole_behind (Cut text ∷ xs) ys h k = absurd h

pub whole_line : (ls : List Line) (k : ℕ) (x : Line) → AreWhole ls → slice_get ls k ≡ Some x → (text : List ℕ) × (x ≡ Whole text)
whole_line [] k x h e = absurd (cc)
whole_line (Whole text ∷ ls) zero x h e = (text, sym (same_Some (Whole text) x e))
whole_line (Whole text ∷ ls) (suc k) x h e = whole_line ls k x h e
whole_line (Cut text ∷ ls) k x h e = absurd h

whole_variables : (names : List (List ℕ)) (vs : List (ℤ × ℕ)) → AreWhole (variable_rows names vs)
whole_variables names [] = tt
whole_variables [] (v ∷ vs) = tt
whole_variables (name ∷ names) (v ∷ vs) = whole_variables names vs

whole_row : (name : List ℕ) (index : ℕ) (v : ℤ × ℕ) → AreWhole (cell_row name index v)
whole_row name index v = elim (v.1 == 0) as (λ none. AreWhole (if none then [] else Whole (variable_row (cell_name name index) v) ∷ [])) [ true ↦ tt | false ↦ tt ]

whole_cells : (name : List ℕ) (index : ℕ) (vs : List (ℤ × ℕ)) → AreWhole (cell_rows name index vs)
whole_cells name index [] = tt
whole_cells name index (v ∷ vs) = whole_behind (cell_row name index v) (cell_rows name (suc index) vs) (whole_row name index v) (whole_cells name (suc index) vs)

whole_tables : (ts : List (List ℕ × ℕ)) (vs : List (ℤ × ℕ)) → AreWhole (table_rows ts vs)
whole_tables [] vs = tt
whole_tables (t ∷ ts) vs = whole_behind (cell_rows t.0 0 (take t.1 vs)) (table_rows ts (drop t.1 vs)) (whole_cells t.0 0 (take t.1 vs)) (whole_tables ts (drop t.1 vs))

pub whole_values : (l : Listing) (vs : List (ℤ × ℕ)) → AreWhole (value_rows l vs)
whole_values l vs = whole_behind (variable_rows l.names vs) (table_rows l.tables (drop (length l.names) vs)) (whole_variables l.names vs) (whole_tables l.tables (drop (length l.names) vs))
