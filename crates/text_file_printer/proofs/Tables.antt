-- Tables by their cells, and the values of these as they are written.
use Rattle.std.proofs.Common.{◌≡◌, ◌∙◌, ℕ, suc, ◌+◌, ◌<◌, ◌≤◌, ℤ, pos, Bool, true, false, eqb, Option, Some, None, cond, ◌||◌, List, [], ◌∷◌, ◌++◌, length, map, take, drop, replicate, sum_by, add-one, refl, sym, ap, arith, String, Global}
use Rattle.std.specs.List.{flat_map, list_all, position, position_from}
use Rattle.std.specs.Option.{option_map}
use Rattle.std.specs.Ordering.{int_eq}
use Rattle.std.proofs.lemmas.Bool.Decides.{Decides-int_eq}
use Rattle.std.proofs.lemmas.Bool.{and_parts, ltb-true, ne_eqb}
use Rattle.std.proofs.lemmas.List.{nil_from_length, length-take, length-drop, take-append-drop}
use Rattle.std.proofs.lemmas.List.Sums.{sum_by-cons}
use Rattle.std.proofs.lemmas.Iterator.Adapters.{position_from-zero}
use Rattle.txn_programs.specs.declared.ast.Span.{Span}
use Rattle.txn_programs.specs.Names.{is_name, same_span, knows_table}
use Rattle.txn_programs.specs.Limits.{limits_hold, is_short, table_fits}
use Rattle.txn_programs.specs.Listing.{Listing, cells, spans_from, values}
use Rattle.txn_declarations.specs.Counted.{counted}
use Rattle.txn_programs.proofs.Lawful.{limits_parts}
use Rattle.text_grammar.specs.Tree.{Table}
use Rattle.text_grammar.specs.Written.{name_where, numbers_of, written_table, written_tables, DeclareTables}

-- ---- by their cells

-- the name of the table with these cells, where those of the first begin with this variable
abbrev pub table_name : Span → ℕ → List (List ℕ × ℕ) → List ℕ
table_name t first [] = []
table_name t first (u ∷ ts) = cond (same_span t (record { first = first; length = u.1 })) u.0 (table_name t (first + u.1) ts)

shifted_at : (b : Bool) (i : ℕ) (r s : Option ℕ) → r ≡ option_map suc s → cond b (Some (i + 1)) r ≡ option_map suc (cond b (Some i) s)
shifted_at true i r s e = ap Some (add-one i)
shifted_at false i r s e = e

shifted : {X : Type 0} (p : X → Bool) (i : ℕ) (xs : List X) → position_from p (i + 1) xs ≡ option_map suc (position_from p i xs)
shifted p i [] = refl
shifted p i (x ∷ xs) = shifted_at (p x) i (position_from p (i + 1 + 1) xs) (position_from p (i + 1) xs) (shifted p (i + 1) xs)

later : {X : Type 0} (p : X → Bool) (xs : List X) → position_from p (0 + 1) xs ≡ option_map suc (position p xs)
later p xs = shifted p 0 xs ∙ ap (option_map suc) (sym (position_from-zero p xs))

name_step : (name : List ℕ) (names : List (List ℕ)) (b : Bool) (r : Option ℕ) → name_where (name ∷ names) (cond b (Some 0) (option_map suc r)) ≡ cond b name (name_where names r)
name_step name names true r = refl
name_step name names false None = refl
name_step name names false (Some place) = refl

name_first : {X : Type 0} (p : X → Bool) (x : X) (xs : List X) (name : List ℕ) (names : List (List ℕ)) → name_where (name ∷ names) (position p (x ∷ xs)) ≡ cond (p x) name (name_where names (position p xs))
name_first p x xs name names =
    ap (name_where (name ∷ names)) (position_from-zero p (x ∷ xs) ∙ ap (cond (p x) (Some 0)) (later p xs))
    ∙ name_step name names (p x) (position p xs)

pub table_named : (t : Span) (first : ℕ) (ts : List (List ℕ × ℕ)) → name_where (map (λ (u : List ℕ × ℕ). u.0) ts) (position (same_span t) (spans_from first ts)) ≡ table_name t first ts
table_named t first [] = refl
table_named t first (u ∷ ts) =
    name_first (same_span t) (record { first = first; length = u.1 }) (spans_from (first + u.1) ts) u.0 (map (λ (v : List ℕ × ℕ). v.0) ts)
    ∙ ap (cond (same_span t (record { first = first; length = u.1 })) u.0) (table_named t (first + u.1) ts)

-- the name of a table that is known has the form of one
known_step : (b c : Bool) (name other : List ℕ) → is_name name ≡ true → (c ≡ true → is_name other ≡ true) → (b || c) ≡ true → is_name (cond b name other) ≡ true
known_step true c name other here there h = here
known_step false c name other here there h = there h

pub known_named : (names : List (List ℕ)) (ts : List Span) (t : Span) → list_all is_name names ≡ true → length ts ≤ length names → knows_table ts t ≡ true → is_name (name_where names (position (same_span t) ts)) ≡ true
known_named names [] t forms few h = absurd cc
known_named [] (u ∷ ts) t forms few h = absurd (omega arith)
known_named (name ∷ names) (u ∷ ts) t forms few h =
    let parts = and_parts (is_name name) (list_all is_name names) forms in
    ap is_name (name_first (same_span t) u ts name names)
    ∙ known_step (same_span t u) (knows_table ts t) name (name_where names (position (same_span t) ts)) parts.0 (known_named names ts t parts.1 (omega arith)) h

pub length-spans : (first : ℕ) (ts : List (List ℕ × ℕ)) → length (spans_from first ts) ≡ length ts
length-spans first [] = refl
length-spans first (t ∷ ts) = ap suc (length-spans (first + t.1) ts)

-- ---- values

abbrev Held : Type 0
Held = String Global × ℕ

counted_cells : (ts : List Held) → sum_by (λ (t : List ℕ × ℕ). t.1) (map counted ts) ≡ sum_by (λ (t : Held). t.1) ts
counted_cells [] = refl
counted_cells (t ∷ ts) =
    sum_by-cons (λ (u : List ℕ × ℕ). u.1) (counted t) (map counted ts) ∙ ap (λ n. t.1 + n) (counted_cells ts)
    ∙ sym (sum_by-cons (λ (u : Held). u.1) t ts)

-- the tables of the code have all cells of the listing
pub all_cells : (ts : List Held) (l : Listing) → map counted ts ≡ l.tables → sum_by (λ (t : Held). t.1) ts ≡ cells l
all_cells ts l e = sym (counted_cells ts) ∙ ap (sum_by (λ (t : List ℕ × ℕ). t.1)) e

all_same : (v : ℤ) (vs : List ℤ) → list_all (int_eq v) vs ≡ true → replicate (length vs) v ≡ vs
all_same v [] h = refl
all_same v (u ∷ vs) h =
    let parts = and_parts (int_eq v u) (list_all (int_eq v) vs) h in
    ap (λ w. w ∷ replicate (length vs) v) ((Decides-int_eq v u).0 parts.0) ∙ ap (λ us. u ∷ us) (all_same v vs parts.1)

-- the values of a table's cells, as it is written
numbers_by : (t : List ℕ × ℕ) (v : ℤ) (vs : List ℤ) (b : Bool) → list_all (int_eq v) vs ≡ b → t.1 ≡ suc (length vs) → numbers_of (record { name = t.0; count = pos t.1; first = v; others = cond b [] vs }) ≡ v ∷ vs
numbers_by t v vs true e n = ap (λ k. replicate k v) n ∙ ap (λ us. v ∷ us) (all_same v vs e)
numbers_by t v [] false e n = absurd cc
numbers_by t v (u ∷ vs) false e n =
    let more : eqb (length (u ∷ vs)) 0 ≡ false = ne_eqb (length (u ∷ vs)) 0 (λ e. absurd (omega arith)) in
    ap (λ b. cond b (replicate t.1 v) (v ∷ u ∷ vs)) more

numbers_are : (t : List ℕ × ℕ) (vs : List ℤ) → 0 < t.1 → length vs ≡ t.1 → numbers_of (written_table t vs) ≡ vs
numbers_are t [] some n = absurd (omega arith)
numbers_are t (v ∷ vs) some n = numbers_by t v vs (list_all (int_eq v) vs) refl (sym n)

told_as : (t : List ℕ × ℕ) (vs : List ℤ) → ◌≡◌ {A = List ℕ × ℤ} ((written_table t vs).name, (written_table t vs).count) (t.0, pos t.1)
told_as t [] = refl
told_as t (v ∷ vs) = refl

abbrev Told : Type 0
Told = List ℕ × ℤ

told : (ts : List (List ℕ × ℕ)) (vs : List ℤ) → map {B = Told} (λ (t : Table). (t.name, t.count)) (written_tables ts vs) ≡ map {B = Told} (λ (t : List ℕ × ℕ). (t.0, pos t.1)) ts
told [] vs = refl
told (t ∷ ts) vs =
    ap (λ (c : Told). c ∷ map {B = Told} (λ (u : Table). (u.name, u.count)) (written_tables ts (drop t.1 vs))) (told_as t (take t.1 vs))
    ∙ ap (λ (cs : List Told). (t.0, pos t.1) ∷ cs) (told ts (drop t.1 vs))

begun : (ts : List (List ℕ × ℕ)) (vs : List ℤ) → list_all table_fits ts ≡ true → sum_by (λ (t : List ℕ × ℕ). t.1) ts ≡ length vs → flat_map numbers_of (written_tables ts vs) ≡ vs
begun [] vs h n = sym (nil_from_length vs (omega arith))
begun (t ∷ ts) vs h n =
    let parts = and_parts (table_fits t) (list_all table_fits ts) h in
    let some = ltb-true _ _ (and_parts (is_short t.0) _ parts.0).1 in
    let all : t.1 + sum_by (λ (u : List ℕ × ℕ). u.1) ts ≡ length vs = sym (sum_by-cons (λ (u : List ℕ × ℕ). u.1) t ts) ∙ n in
    ap (λ (us : List ℤ). us ++ flat_map numbers_of (written_tables ts (drop t.1 vs))) (numbers_are t (take t.1 vs) some (omega (arith, length-take t.1 vs)))
    ∙ ap (λ (us : List ℤ). take t.1 vs ++ us) (begun ts (drop t.1 vs) parts.1 (omega (arith, all, length-drop t.1 vs)))
    ∙ take-append-drop t.1 vs

filled : (ts : List (List ℕ × ℕ)) (vs : List ℤ) → list_all table_fits ts ≡ true → sum_by (λ (t : List ℕ × ℕ). t.1) ts ≡ length vs → map (λ (t : Table). length (numbers_of t)) (written_tables ts vs) ≡ map (λ (t : List ℕ × ℕ). t.1) ts
filled [] vs h n = refl
filled (t ∷ ts) vs h n =
    let parts = and_parts (table_fits t) (list_all table_fits ts) h in
    let some = ltb-true _ _ (and_parts (is_short t.0) _ parts.0).1 in
    let all : t.1 + sum_by (λ (u : List ℕ × ℕ). u.1) ts ≡ length vs = sym (sum_by-cons (λ (u : List ℕ × ℕ). u.1) t ts) ∙ n in
    let own : length (take t.1 vs) ≡ t.1 = omega (arith, all, length-take t.1 vs) in
    ap (λ k. k ∷ map (λ (u : Table). length (numbers_of u)) (written_tables ts (drop t.1 vs))) (ap length (numbers_are t (take t.1 vs) some own) ∙ own)
    ∙ ap (λ ks. t.1 ∷ ks) (filled ts (drop t.1 vs) parts.1 (omega (arith, all, length-drop t.1 vs)))

-- the tables that are written say those of the listing
pub tables_declared : (l : Listing) → limits_hold l ≡ true → values l ≡ length l.initial → DeclareTables (written_tables l.tables (drop (length l.names) l.initial)) l
tables_declared l h n =
    let behind = drop (length l.names) l.initial in
    let all : sum_by (λ (t : List ℕ × ℕ). t.1) l.tables ≡ length behind = omega (arith, n, length-drop (length l.names) l.initial) in
    record {
      counted = told l.tables behind;
      filled = filled l.tables behind (limits_parts l h).each_table all;
      begun = begun l.tables behind (limits_parts l h).each_table all;
    }
