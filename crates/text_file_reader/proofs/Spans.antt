-- Tables by their cells: each has its own, so that a table is known by them as by its name.
use Rattle.std.proofs.Common.{◌≡◌, ℕ, zero, suc, ◌+◌, ◌<◌, ◌≤◌, Bool, true, false, List, [], ◌∷◌, length, Option, Some, None, Ok, Err, sum_by, refl, sym, ap, subst, ◌∙◌, arith, inl, inr}
use Rattle.std.specs.Prelude.{position, bytes_eq, nat_lt, ◌^◌, ◌==◌}
use Rattle.std.specs.List.{list_any, list_all, slice_index_or, position_or_len}
use Rattle.std.proofs.lemmas.Slice.Eq.{bytes_eq-Decides}
use Rattle.std.proofs.lemmas.Bool.{lt-ltb, ltb-true, eqb-true, eq-eqb, ne_eqb}
use Rattle.std.proofs.lemmas.List.{length-map}
use Rattle.std.proofs.lemmas.List.Quantifiers.{position-Some}
use Rattle.std.proofs.lemmas.List.Folds.{list_any_at}
use Rattle.std.proofs.lemmas.List.Sums.{sum_by-cons}
use Rattle.txn_programs.specs.declared.ast.Span.{Span}
use Rattle.txn_programs.specs.Listing.{Listing, spans_from, spans, table_names}
use Rattle.txn_programs.specs.Limits.{is_short, table_fits}
use Rattle.txn_programs.specs.Names.{are_distinct, same_span, knows_table}
use Rattle.text_words.specs.declared.fault.ReadFault.TheVariants as faults
use Rattle.text_words.proofs.Steps.{bind_ok, ok_is, done, chosen}
use Rattle.text_grammar.specs.Scope.{Scope}
use Rattle.text_grammar.specs.Written.{name_at, name_where, name_of, scope_of}
use Rattle.text_grammar.specs.Resolving.{is_known, span_at, table_in, span_behind, spans_in}
use Rattle.text_file_reader.proofs.Declared.{both, place_again}

-- ---- the cells of each table

abbrev pub no_cells : Span
no_cells = record { first = 0; length = 0 }

pub spans_back : (first : ℕ) (ts : List (List ℕ × ℕ)) (spans : List Span) → spans_in first ts ≡ Ok spans → spans ≡ spans_from first ts
spans_back first [] spans h = sym (ok_is [] spans h)
spans_back first (t ∷ ts) spans h =
    let made : Span = record { first = first; length = t.1 } in
    let a = bind_ok (span_behind first t.1) _ spans h in
    let b = bind_ok (spans_in (first + t.1) ts) _ spans a.2 in
    elim (chosen (nat_lt (first + t.1) (2 ^ 32)) (done made) (Err faults.Limit) (Ok a.0) a.1) [
      | inl p ↦ sym (ok_is (a.0 ∷ b.0) spans b.2) ∙ ap (λ (s : Span). s ∷ b.0) (sym (ok_is made a.0 p.1)) ∙ ap (λ (ss : List Span). made ∷ ss) (spans_back (first + t.1) ts b.0 b.1)
      | inr p ↦ absurd (let g = p.1 in cc)
    ]

-- ids have room for the cells of a listing
pub spans_again : (first : ℕ) (ts : List (List ℕ × ℕ)) → first + sum_by (λ t. t.1) ts < 2 ^ 32 → spans_in first ts ≡ Ok (spans_from first ts)
spans_again first [] h = refl
spans_again first (t ∷ ts) h =
    let s : sum_by (λ (u : List ℕ × ℕ). u.1) (t ∷ ts) ≡ t.1 + sum_by (λ (u : List ℕ × ℕ). u.1) ts = sum_by-cons (λ (u : List ℕ × ℕ). u.1) t ts in
    let small : nat_lt (first + t.1) (2 ^ 32) ≡ true = lt-ltb (first + t.1) (2 ^ 32) (omega (arith, h, s)) in
    rw (small, spans_again (first + t.1) ts (omega (arith, h, s))) refl

length-spans : (first : ℕ) (ts : List (List ℕ × ℕ)) → length (spans_from first ts) ≡ length ts
length-spans first [] = refl
length-spans first (t ∷ ts) = let h = length-spans (first + t.1) ts in omega (arith, h)

pub spans_of_all : (l : Listing) → length (spans l) ≡ length (table_names l)
spans_of_all l = length-spans (length l.names) l.tables ∙ sym (length-map l.tables (λ (t : List ℕ × ℕ). t.0))

-- ---- the same cells

same_is : (t u : Span) → same_span t u ≡ true → t ≡ u
same_is t u h =
    let p = both (t.first == u.first) (t.length == u.length) h in
    let a : t.first ≡ u.first = eqb-true _ _ p.0 in
    let b : t.length ≡ u.length = eqb-true _ _ p.1 in
    rw (a, b) refl

is_same : (t : Span) → same_span t t ≡ true
is_same t = rw (eq-eqb t.first t.first refl, eq-eqb t.length t.length refl) refl

-- the cells of a table that stands somewhere begin there or behind
begins_behind : (first : ℕ) (ts : List (List ℕ × ℕ)) (i : ℕ) → i < length ts → first ≤ (slice_index_or (spans_from first ts) i no_cells).first
begins_behind first [] i lt = absurd (omega arith)
begins_behind first (t ∷ ts) zero lt = omega arith
begins_behind first (t ∷ ts) (suc i) lt = let h = begins_behind (first + t.1) ts i (omega arith) in omega (arith, h)

first_place : (first : ℕ) (ts : List (List ℕ × ℕ)) (i : ℕ) → list_all table_fits ts ≡ true → i < length ts
    → position_or_len (same_span (slice_index_or (spans_from first ts) i no_cells)) (spans_from first ts) ≡ i
first_place first [] i h lt = absurd (omega arith)
first_place first (t ∷ ts) zero h lt = rw (is_same (record { first = first; length = t.1 })) refl
first_place first (t ∷ ts) (suc i) h lt =
    let p = both (table_fits t) _ h in
    let some : 0 < t.1 = ltb-true 0 t.1 (both (is_short t.0) _ p.0).1 in
    let u : Span = slice_index_or (spans_from (first + t.1) ts) i no_cells in
    let behind : first + t.1 ≤ u.first = begins_behind (first + t.1) ts i (omega arith) in
    let other : (u.first == first) ≡ false = ne_eqb u.first first (λ e. omega (arith, e, behind, some)) in
    let ih : position_or_len (same_span u) (spans_from (first + t.1) ts) ≡ i = first_place (first + t.1) ts i p.1 (omega arith) in
    rw (other, ih) (omega arith)

-- ---- tables in scope

-- the same scope while names alone are judged
abbrev pub names_alone : Scope → Scope
names_alone s = record { variables = s.variables; tables = s.tables; spans = []; parameters = s.parameters }

-- each table in scope has cells, by which none is taken for another
pub record Apart (s : Scope) : Type 0 where
  pub as_many : length s.spans ≡ length s.tables
  pub place : (i : ℕ) → i < length s.tables → position (same_span (slice_index_or s.spans i no_cells)) s.spans ≡ Some i

pub scope_apart : (l : Listing) → list_all table_fits l.tables ≡ true → Apart (scope_of l)
scope_apart l fit =
    let all = spans_of_all l in
    let names : length (table_names l) ≡ length l.tables = length-map l.tables (λ (t : List ℕ × ℕ). t.0) in
    record {
      as_many = all;
      place = λ i lt.
          let there : nat_lt i (length (spans l)) ≡ true = lt-ltb _ _ (omega (arith, all, lt)) in
          rw (first_place (length l.names) l.tables i fit (omega (arith, lt, names)), there) refl;
    }

placed_at : (spans : List Span) (o : Option ℕ) (t : Span) → span_at spans o ≡ Ok t → (i : ℕ) × (o ≡ Some i) × (slice_index_or spans i no_cells ≡ t)
placed_at spans None t e = absurd cc
placed_at spans (Some i) t e = (i, refl, ok_is (slice_index_or spans i no_cells) t e)

-- the place of a table in scope
pub table_place : (s : Scope) (name : List ℕ) (t : Span) → table_in s name ≡ Ok t → (i : ℕ) × (position (bytes_eq name) s.tables ≡ Some i) × (slice_index_or s.spans i no_cells ≡ t)
unfolding table_in
table_place s name t e = placed_at s.spans (position (bytes_eq name) s.tables) t e

pub table_known : (s : Scope) (name : List ℕ) (t : Span) → table_in s name ≡ Ok t → is_known s.tables name ≡ true
table_known s name t e = rw (table_place s name t e).1 refl

-- its cells are those of one of the tables
pub table_knows : (s : Scope) (name : List ℕ) (t : Span) → length s.spans ≡ length s.tables → table_in s name ≡ Ok t → knows_table s.spans t ≡ true
table_knows s name t as_many e =
    let p = table_place s name t e in
    let lt : p.0 < length s.spans = let q = (position-Some (bytes_eq name) s.tables p.0 [] p.1).0 in omega (arith, q, as_many) in
    list_any_at (same_span t) s.spans p.0 no_cells lt (ap (same_span t) p.2 ∙ is_same t)

-- by its cells its name is found
pub table_back : (s : Scope) (name : List ℕ) (t : Span) → Apart s → table_in s name ≡ Ok t → name_of s t ≡ name
table_back s name t apart e =
    let p = table_place s name t e in
    let found = position-Some (bytes_eq name) s.tables p.0 [] p.1 in
    let place : position (same_span t) s.spans ≡ Some p.0 = subst (λ (u : Span). position (same_span u) s.spans ≡ Some p.0) p.2 (apart.place p.0 found.0) in
    ap (name_where s.tables) place ∙ sym ((bytes_eq-Decides name (name_at s.tables p.0)).0 found.1)

place_below : {A : Type 0} (p : A → Bool) (xs : List A) → list_any p xs ≡ true → position_or_len p xs < length xs
place_below p [] h = absurd cc
place_below p (x ∷ xs) h = by (p x) refl (place_below p xs)
  where
    by : (b : Bool) → p x ≡ b → (list_any p xs ≡ true → position_or_len p xs < length xs) → position_or_len p (x ∷ xs) < length (x ∷ xs)
    by true e below = rw e (omega arith)
    by false e below = let g = rw e at h in let lt = below g in rw e (omega (arith, lt))

-- a table that is known by its cells stands at a place
known_place : (spans : List Span) (t : Span) → knows_table spans t ≡ true → (i : ℕ) × (position (same_span t) spans ≡ Some i) × (i < length spans) × (slice_index_or spans i no_cells ≡ t)
known_place spans t k =
    let i = position_or_len (same_span t) spans in
    let lt : i < length spans = place_below (same_span t) spans k in
    let e : position (same_span t) spans ≡ Some i = rw (lt-ltb i (length spans) lt) refl in
    let p = position-Some (same_span t) spans i no_cells e in
    (i, e, lt, sym (same_is t (slice_index_or spans i no_cells) p.1))

pub table_again : (s : Scope) (t : Span) → are_distinct s.tables ≡ true → length s.spans ≡ length s.tables → knows_table s.spans t ≡ true → table_in s (name_of s t) ≡ Ok t
unfolding table_in
table_again s t new as_many k =
    let p = known_place s.spans t k in
    let there : nat_lt p.0 (length s.tables) ≡ true = lt-ltb _ _ (let q = p.2 in omega (arith, q, as_many)) in
    rw (p.1, place_again [] s.tables p.0 new there) (ap done p.3)

pub table_known_again : (s : Scope) (t : Span) → are_distinct s.tables ≡ true → length s.spans ≡ length s.tables → knows_table s.spans t ≡ true → is_known s.tables (name_of s t) ≡ true
table_known_again s t new as_many k = table_known s (name_of s t) t (table_again s t new as_many k)
