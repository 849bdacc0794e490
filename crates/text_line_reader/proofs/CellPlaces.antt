-- The cell that is written so, and how the cell at a place is written.
use Rattle.std.proofs.Common.{◌≡◌, ◌∙◌, ℕ, zero, suc, ◌+◌, ◌-◌, ◌<◌, ◌≤◌, ◌^◌, Bool, true, false, List, [], ◌∷◌, ◌++◌, length, get_or, Option, Some, None, Ok, Err, refl, sym, ap, subst, arith, inl, inr}
use Rattle.std.specs.Prelude.{sum_by, bytes_eq, position, slice_get, nat_lt}
use Rattle.std.specs.Fmt.{decimal}
use Rattle.std.specs.Str.Parse.{digits_value}
use Rattle.std.proofs.lemmas.Bool.{lt-ltb, ltb-true, ltb-false}
use Rattle.std.proofs.lemmas.List.{get_or-map, length-map}
use Rattle.std.proofs.lemmas.List.Quantifiers.{position-Some}
use Rattle.std.proofs.lemmas.List.Sums.{sum_by-cons}
use Rattle.std.proofs.lemmas.Option.{same_Some, slice_get-get_or}
use Rattle.std.proofs.lemmas.Slice.Eq.{bytes_eq-Decides}
use Rattle.txn_programs.specs.declared.ast.Span.{Span}
use Rattle.txn_programs.specs.declared.ast.VarId.{VarId}
use Rattle.txn_programs.specs.declared.limits.TheConstants.{MAX_VALUES}
use Rattle.txn_programs.specs.Limits.{most_tables, limits_hold}
use Rattle.txn_programs.specs.Listing.{Listing, cells, spans, spans_from, table_names, table_named}
use Rattle.txn_programs.specs.Names.{is_name, names_hold}
use Rattle.txn_programs.proofs.Lawful.{names_parts, limits_parts, passes_at}
use Rattle.text_words.specs.Answers.{Fails}
use Rattle.text_words.specs.declared.fault.ReadFault.{ReadFault}
use Rattle.text_words.specs.declared.fault.ReadFault.TheVariants.{Limit}
use Rattle.text_words.proofs.Steps.{done, chosen}
use Rattle.text_report_printer.specs.Names.{named_cell}
use Rattle.text_report_printer.specs.ReportText.{cell_name}
use Rattle.text_line_reader.specs.Counts.{below}
use Rattle.text_line_reader.specs.CellNames.{cell_of, cell_at, cell_named}
use Rattle.text_line_reader.proofs.Numbers.{decimal_value, below_gives}
use Rattle.text_line_reader.proofs.Places.{place_again}
use Rattle.text_line_reader.proofs.Spots.{row, spots, row_at, behind_row, no_table, no_span, spot_at}

-- ---- a cell that is written so

-- it stands so far behind the first
pub record CellAt (l : Listing) (name : List ℕ) (index : ℕ) (x : VarId) : Type 0 where
  pub far : ℕ
  pub place : x.0 ≡ length l.names + far
  pub inside : index < cells l
  pub is : slice_get (spots l.tables) far ≡ Some (name, index)

abbrev table_text : List ℕ × ℕ → List ℕ
table_text t = t.0

cell_in_table : (l : Listing) (name : List ℕ) (o : Option ℕ) (index : ℕ) (x : VarId) → table_named l name ≡ o → cell_at (spans l) o index ≡ Some x → CellAt l name index x
cell_in_table l name None index x e is = absurd cc
cell_in_table l name (Some p) index x e is =
    let names = table_names l in
    let span = get_or (spans l) p no_span in
    let found = position-Some (bytes_eq name) names p [] e in
    let lt : p < length l.tables = let inside = found.0 in let n = length-map l.tables table_text in omega arith in
    let first : Option VarId = Some (record { 0 = span.first + index }) in
    elim (chosen (nat_lt index span.length) first None (Some x) is) [
      | inr q ↦ absurd (let h = q.1 in cc)
      | inl q ↦
          let s = spot_at (length l.names) l.tables p index lt (ltb-true index span.length q.0) in
          let far = s.first_is in
          let named : get_or names p [] ≡ (get_or l.tables p no_table).0 = get_or-map table_text l.tables p no_table [] lt in
          let same : name ≡ (get_or l.tables p no_table).0 = (bytes_eq-Decides name (get_or names p [])).0 found.1 ∙ named in
          let id : span.first + index ≡ x.0 = ap (λ (y : VarId). y.0) (same_Some _ _ q.1) in
          record {
            far = s.far + index;
            place = sym id ∙ omega (arith, far);
            inside = s.inside;
            is = s.is ∙ ap (λ (t : List ℕ). Some (t, index)) (sym same);
          }
    ]

pub cell_back : (l : Listing) (name index : List ℕ) (x : VarId) → cell_named l name index ≡ Some x → CellAt l name (digits_value 10 index) x
unfolding cell_named
cell_back l name index x e = cell_in_table l name (table_named l name) (digits_value 10 index) x refl e

-- ---- how a cell is written

-- what is written so is the cell with this id
pub record IsSpelled (l : Listing) (x : ℕ) (s : List ℕ × ℕ) : Type 0 where
  pub name : is_name s.0 ≡ true
  pub small : s.1 < 2 ^ 64
  pub id : cell_named l s.0 (decimal s.1) ≡ Some (record { 0 = x })

abbrev pub AreSpelled : Listing → ℕ → List (List ℕ × ℕ) → Type 0
AreSpelled l x [] = Unit {0}
AreSpelled l x (s ∷ ss) = IsSpelled l x s × AreSpelled l (suc x) ss

one_spelled : (l : Listing) (p first index : ℕ) (t : List ℕ × ℕ) → names_hold l ≡ true → p < length l.tables → get_or l.tables p no_table ≡ t → get_or (spans l) p no_span ≡ record { first = first; length = t.1 }
    → index < t.1 → t.1 < 2 ^ 64 → IsSpelled l (first + index) (t.0, index)
unfolding cell_named
one_spelled l p first index t h lt table span inside few =
    let names = table_names l in
    let in_names : p < length names = rw length-map lt in
    let name : get_or names p [] ≡ t.0 = get_or-map table_text l.tables p no_table [] lt ∙ ap table_text table in
    let formed : is_name (get_or names p []) ≡ true = passes_at is_name names p (get_or names p []) (names_parts l h).table_forms (slice_get-get_or names p [] in_names) in
    let found : table_named l t.0 ≡ Some p = subst (λ (n : List ℕ). position (bytes_eq n) names ≡ Some p) name (place_again names p (names_parts l h).tables_distinct in_names) in
    record {
      name = subst (λ (n : List ℕ). is_name n ≡ true) name formed;
      small = omega arith;
      id = rw (found, decimal_value index (omega arith), span, lt-ltb index t.1 inside) refl;
    }

row_spelled : (l : Listing) (p first index n : ℕ) (t : List ℕ × ℕ) (ss : List (List ℕ × ℕ)) → names_hold l ≡ true → p < length l.tables → get_or l.tables p no_table ≡ t → get_or (spans l) p no_span ≡ record { first = first; length = t.1 }
    → index + n ≡ t.1 → t.1 < 2 ^ 64 → AreSpelled l (first + t.1) ss → AreSpelled l (first + index) (row t.0 index n ++ ss)
row_spelled l p first index zero t ss h lt table span e few rest = let same : t.1 ≡ index = omega (arith, e) in subst (λ (k : ℕ). AreSpelled l (first + k) ss) same rest
row_spelled l p first index (suc n) t ss h lt table span e few rest =
    let next : first + suc index ≡ suc (first + index) = omega arith in (
      one_spelled l p first index t h lt table span (omega (arith, e)) few,
      subst (λ (k : ℕ). AreSpelled l k (row t.0 (suc index) n ++ ss)) next (row_spelled l p first (suc index) n t ss h lt table span (omega (arith, e)) few rest),
    )

tables_spelled : (l : Listing) (p first : ℕ) (ts : List (List ℕ × ℕ)) → names_hold l ≡ true → p + length ts ≡ length l.tables → sum_by (λ t. t.1) ts < 2 ^ 64
    → ((q : ℕ) → get_or l.tables (p + q) no_table ≡ get_or ts q no_table) → ((q : ℕ) → get_or (spans l) (p + q) no_span ≡ get_or (spans_from first ts) q no_span) → AreSpelled l first (spots ts)
tables_spelled l p first [] h e few table span = tt
tables_spelled l p first (t ∷ ts) h e few table span =
    let s : sum_by (λ (u : List ℕ × ℕ). u.1) (t ∷ ts) ≡ t.1 + sum_by (λ (u : List ℕ × ℕ). u.1) ts = sum_by-cons (λ (u : List ℕ × ℕ). u.1) t ts in
    let here : p + 0 ≡ p = omega arith in
    let next : (q : ℕ) → suc p + q ≡ p + suc q = λ q. omega arith in
    let begin : first ≡ first + 0 = omega arith in
    subst (λ (k : ℕ). AreSpelled l k (spots (t ∷ ts))) (sym begin)
    (row_spelled l p first 0 t.1 t (spots ts) h (omega (arith, e)) (ap (λ k. get_or l.tables k no_table) (sym here) ∙ table 0) (ap (λ k. get_or (spans l) k no_span) (sym here) ∙ span 0) (omega arith) (omega (arith, s, few))
    (tables_spelled l (suc p) (first + t.1) ts h (omega (arith, e)) (omega (arith, s, few))
    (λ q. ap (λ k. get_or l.tables k no_table) (next q) ∙ table (suc q)) (λ q. ap (λ k. get_or (spans l) k no_span) (next q) ∙ span (suc q))))

pub all_spelled : (l : Listing) → names_hold l ≡ true → limits_hold l ≡ true → AreSpelled l (length l.names) (spots l.tables)
all_spelled l h limits =
    let few = (limits_parts l limits).cells in
    let same : (q : ℕ) → 0 + q ≡ q = λ q. omega arith in
    tables_spelled l 0 (length l.names) l.tables h (omega arith) (omega (arith, few)) (λ q. ap (λ k. get_or l.tables k no_table) (same q)) (λ q. ap (λ k. get_or (spans l) k no_span) (same q))

pub spelled_at : (l : Listing) (x : ℕ) (ss : List (List ℕ × ℕ)) (k : ℕ) (s : List ℕ × ℕ) → AreSpelled l x ss → slice_get ss k ≡ Some s → IsSpelled l (x + k) s
spelled_at l x [] k s h e = absurd cc
spelled_at l x (t ∷ ss) zero s h e =
    let here : x ≡ x + 0 = omega arith in
    subst (IsSpelled l (x + 0)) (same_Some _ _ e) (subst (λ (k : ℕ). IsSpelled l k t) here h.0)
spelled_at l x (t ∷ ss) (suc k) s h e =
    let next : suc x + k ≡ x + suc k = omega arith in
    subst (λ (k : ℕ). IsSpelled l k s) next (spelled_at l (suc x) ss k s h.1 e)

-- ---- a cell's name, as a schedule has it

pub record Spelled (ts : List (List ℕ × ℕ)) (place : ℕ) : Type 0 where
  pub name : List ℕ
  pub index : ℕ
  pub is : slice_get (spots ts) place ≡ Some (name, index)
  pub text : named_cell ts place ≡ cell_name name index

later_spelled : (t : List ℕ × ℕ) (ts : List (List ℕ × ℕ)) (place : ℕ) → nat_lt place t.1 ≡ false → t.1 ≤ place → Spelled ts (place - t.1) → Spelled (t ∷ ts) place
later_spelled t ts place past le s =
    let on : place ≡ t.1 + (place - t.1) = omega arith in
    record {
      name = s.name;
      index = s.index;
      is = ap (slice_get (row t.0 0 t.1 ++ spots ts)) on ∙ behind_row t.0 0 t.1 (place - t.1) (spots ts) ∙ s.is;
      text = rw past s.text;
    }

in_table : (t : List ℕ × ℕ) (ts : List (List ℕ × ℕ)) (place : ℕ) (b : Bool) → nat_lt place t.1 ≡ b → (t.1 ≤ place → Spelled ts (place - t.1)) → Spelled (t ∷ ts) place
in_table t ts place true e others =
    let same : 0 + place ≡ place = omega arith in
    record { name = t.0; index = place; is = row_at t.0 0 t.1 place (spots ts) (ltb-true place t.1 e) ∙ ap (λ i. Some (t.0, i)) same; text = rw e refl }
in_table t ts place false e others = let le = ltb-false place t.1 e in later_spelled t ts place e le (others le)

pub spelled : (ts : List (List ℕ × ℕ)) (place : ℕ) → place < sum_by (λ t. t.1) ts → Spelled ts place
spelled [] place lt = absurd (omega arith)
spelled (t ∷ ts) place lt =
    let s : sum_by (λ (u : List ℕ × ℕ). u.1) (t ∷ ts) ≡ t.1 + sum_by (λ (u : List ℕ × ℕ). u.1) ts = sum_by-cons (λ (u : List ℕ × ℕ). u.1) t ts in
    in_table t ts place (nat_lt place t.1) refl (λ le. spelled ts (place - t.1) (omega (arith, s, lt)))

-- ---- a number, as it is parsed

pub below_err : (bound n : ℕ) → below bound n ≡ Err Limit → nat_lt n bound ≡ false
unfolding below
below_err bound n h =
    elim (chosen (nat_lt n bound) (done n) (Err Limit) (Err Limit) h) [
      | inl p ↦ absurd (let e = p.1 in cc)
      | inr p ↦ p.0
    ]

pub cell_of_number : (span : Span) (v n : ℕ) → below span.length v ≡ Ok n → Some (record { 0 = span.first + n }) ≡ cell_of span v
cell_of_number span v n e =
    let b = below_gives span.length v n e in
    let same = b.0 in
    let lt = b.1 in
    let inside : nat_lt v span.length ≡ true = lt-ltb v span.length (omega (arith, same, lt)) in
    rw inside (ap (λ (k : ℕ). Some (record { 0 = span.first + k })) (sym same))

pub no_cell_of : (span : Span) (v : ℕ) (e : ReadFault) → e ≡ Limit → Fails e (below span.length v) → None ≡ cell_of span v
no_cell_of span v e is fails =
    let past : nat_lt v span.length ≡ false = below_err span.length v (subst (λ (d : ReadFault). Fails d (below span.length v)) is fails) in
    rw past refl

-- each table's cells end before all values do
pub tables_end : (first : ℕ) (ts : List (List ℕ × ℕ)) (place : ℕ) → (get_or (spans_from first ts) place no_span).first + (get_or (spans_from first ts) place no_span).length ≤ first + sum_by (λ t. t.1) ts
tables_end first [] place = omega arith
tables_end first (t ∷ ts) zero =
    let s : sum_by (λ (u : List ℕ × ℕ). u.1) (t ∷ ts) ≡ t.1 + sum_by (λ (u : List ℕ × ℕ). u.1) ts = sum_by-cons (λ (u : List ℕ × ℕ). u.1) t ts in
    omega (arith, s)
tables_end first (t ∷ ts) (suc place) =
    let s : sum_by (λ (u : List ℕ × ℕ). u.1) (t ∷ ts) ≡ t.1 + sum_by (λ (u : List ℕ × ℕ). u.1) ts = sum_by-cons (λ (u : List ℕ × ℕ). u.1) t ts in
    let h = tables_end (first + t.1) ts place in
    omega (arith, s, h)

-- ---- the tables of the code

spans_length : (first : ℕ) (ts : List (List ℕ × ℕ)) → length (spans_from first ts) ≡ length ts
spans_length first [] = refl
spans_length first (t ∷ ts) = ap suc (spans_length (first + t.1) ts)

pub place_known : (l : Listing) (name : List ℕ) (p : ℕ) → Some p ≡ table_named l name → p < length (spans l)
place_known l name p e =
    let found = position-Some (bytes_eq name) (table_names l) p [] (sym e) in
    let inside = found.0 in
    let n = length-map l.tables table_text in
    let m = spans_length (length l.names) l.tables in
    omega (arith, inside, n, m)

pub few_spans : (l : Listing) → limits_hold l ≡ true → length (spans l) ≤ most_tables
few_spans l limits =
    let m = spans_length (length l.names) l.tables in
    let few = (limits_parts l limits).tables in
    omega (arith, few, m)

pub span_inside : (l : Listing) (tables : List Span) (p : ℕ) → limits_hold l ≡ true → tables ≡ spans l → (get_or tables p no_span).first + (get_or tables p no_span).length ≤ MAX_VALUES
span_inside l tables p limits same =
    let ends = tables_end (length l.names) l.tables p in
    let a = (limits_parts l limits).variables in
    let b = (limits_parts l limits).cells in
    subst (λ (ts : List Span). (get_or ts p no_span).first + (get_or ts p no_span).length ≤ MAX_VALUES) (sym same) (omega (arith, ends, a, b))
