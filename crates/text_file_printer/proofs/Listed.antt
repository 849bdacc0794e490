-- The form that a listing is written in.
use Rattle.std.proofs.Common.{◌≡◌, ◌∙◌, ℕ, zero, suc, ◌<◌, Bool, true, false, ◌||◌, not, eqb, max, nat_lt, List, [], ◌∷◌, length, map, get_or, cond, refl, sym, ap, arith, ◌≤◌}
use Rattle.std.specs.Prelude.{ℤ}
use Rattle.std.proofs.lemmas.Bool.{eqb-true, ne_eqb, lt-ltb}
use Rattle.std.specs.List.{list_any, AllByRecursion}
use Rattle.txn_programs.specs.declared.arguments.Call.{Call}
use Rattle.txn_programs.specs.Tree.{Condition, Transaction}
use Rattle.txn_programs.specs.Listing.{Listing, IsCallable, arity, spans, spans_from}
use Rattle.txn_programs.specs.declared.ast.Span.{Span}
use Rattle.txn_programs.specs.Names.{knows_table}
use Rattle.text_grammar.specs.Tree.{has_tables}
use Rattle.txn.specs.Arities.{most_arity}
use Rattle.text_grammar.specs.declared.file.FileForm.TheVariants.{One, Two, Three}
use Rattle.text_grammar.specs.Written.{has_list, form_for_conditions, form_with, form_for}

neither : (a b : Bool) → (a || b) ≡ false → (a ≡ false) × (b ≡ false)
neither true b h = absurd cc
neither false b h = (refl, h)

not_false : (b : Bool) → not b ≡ false → b ≡ true
not_false true h = refl
not_false false h = absurd cc

none_listed : (names : List (List ℕ)) → not (eqb (length names) 0) ≡ false → names ≡ []
none_listed [] h = refl
none_listed (name ∷ names) h = absurd (let none = eqb-true _ _ (not_false _ h) in omega arith)

pub no_parameters : (ts : List Transaction) → list_any has_list ts ≡ false → AllByRecursion (λ (t : Transaction). t.parameters ≡ []) ts
no_parameters [] h = tt
no_parameters (t ∷ ts) h = let a = neither (has_list t) (list_any has_list ts) h in (none_listed t.parameters a.0, no_parameters ts a.1)

none_at : (ts : List Transaction) (i : ℕ) (d : Transaction) → list_any has_list ts ≡ false → i < length ts → (get_or ts i d).parameters ≡ []
none_at [] i d h lt = absurd (omega arith)
none_at (t ∷ ts) zero d h lt = none_listed t.parameters (neither (has_list t) (list_any has_list ts) h).0
none_at (t ∷ ts) (suc i) d h lt = none_at ts i d (neither (has_list t) (list_any has_list ts) h).1 (omega arith)

none_given : (given : List ℤ) → length given ≡ 0 → given ≡ []
none_given [] h = refl
none_given (n ∷ given) h = absurd (omega arith)

-- a call of a listing without parameters gives no arguments
pub no_arguments : (l : Listing) (c : Call) → list_any has_list l.transactions ≡ false → IsCallable l c.tx c.arguments → c.arguments ≡ []
no_arguments l c h callable = none_given c.arguments (callable.each ∙ ap length (none_at l.transactions c.tx.0 _ h callable.declared))

more_than_none : (a m : ℕ) → nat_lt 0 (max a m) ≡ (not (eqb a 0) || nat_lt 0 m)
more_than_none zero m = ap (nat_lt 0) (omega arith)
more_than_none (suc a) m =
    let some : eqb (suc a) 0 ≡ false = ne_eqb (suc a) 0 (λ e. absurd (omega arith)) in
    lt-ltb 0 (max (suc a) m) (omega arith) ∙ ap (λ b. not b || nat_lt 0 m) (sym some)

-- the most parameters tell whether there are any
most_listed : (ts : List Transaction) → nat_lt 0 (most_arity ts) ≡ list_any has_list ts
most_listed [] = refl
most_listed (t ∷ ts) = more_than_none (arity t) (most_arity ts) ∙ ap (λ b. has_list t || b) (most_listed ts)

-- with tables in form 3
pub with_tables : {X : Type 0} (l : Listing) (f : X → List ℕ × ℕ) (xs : List X) → map f xs ≡ l.tables → 0 < length xs → form_for l ≡ Three
with_tables l f [] mapped some = absurd (omega arith)
with_tables l f (x ∷ xs) mapped some = ap (λ ts. form_with ts l) (sym mapped)

-- without tables in the form of the rest
without_tables : {X : Type 0} (l : Listing) (f : X → List ℕ × ℕ) (xs : List X) → map f xs ≡ l.tables → length xs ≤ 0 → form_for l ≡ form_with [] l
without_tables l f [] mapped none = ap (λ ts. form_with ts l) (sym mapped)
without_tables l f (x ∷ xs) mapped none = absurd (omega arith)

with_lists_alone : (l : Listing) → 0 < most_arity l.transactions → form_with [] l ≡ Three
with_lists_alone l h =
    let some : list_any has_list l.transactions ≡ true = sym (most_listed l.transactions) ∙ lt-ltb 0 (most_arity l.transactions) h in
    ap (λ b. cond b Three (form_for_conditions l.always)) some

-- with parameters in form 3
form_three : (ts : List (List ℕ × ℕ)) (l : Listing) → form_with [] l ≡ Three → form_with ts l ≡ Three
form_three [] l h = h
form_three (t ∷ ts) l h = refl

pub with_lists : (l : Listing) → 0 < most_arity l.transactions → form_for l ≡ Three
with_lists l h = form_three l.tables l (with_lists_alone l h)

-- without them in the form of the conditions
without_lists : (l : Listing) → most_arity l.transactions ≤ 0 → form_with [] l ≡ form_for_conditions l.always
without_lists l h =
    let zero : most_arity l.transactions ≡ 0 = omega arith in
    let none : list_any has_list l.transactions ≡ false = sym (most_listed l.transactions) ∙ ap (nat_lt 0) zero in
    ap (λ b. cond b Three (form_for_conditions l.always)) none

conditions_are : {X : Type 0} (f : X → List ℕ × Condition) (xs : List X) → form_for_conditions (map f xs) ≡ cond (eqb (length xs) 0) One Two
conditions_are f [] = refl
conditions_are f (x ∷ xs) =
    let some : eqb (length (x ∷ xs)) 0 ≡ false = ne_eqb (length (x ∷ xs)) 0 (λ e. absurd (omega arith)) in
    ap (λ b. cond b One Two) (sym some)

-- where there are neither tables nor parameters, the conditions tell the form
pub by_conditions : {X Y : Type 0} (l : Listing) (g : Y → List ℕ × ℕ) (ys : List Y) (f : X → List ℕ × Condition) (xs : List X) (b : Bool) → map g ys ≡ l.tables → length ys ≤ 0
    → most_arity l.transactions ≤ 0 → map f xs ≡ l.always → eqb (length xs) 0 ≡ b → form_for l ≡ cond b One Two
by_conditions l g ys f xs b tabled none few mapped e =
    without_tables l g ys tabled none ∙ without_lists l few ∙ ap form_for_conditions (sym mapped) ∙ conditions_are f xs ∙ ap (λ c. cond c One Two) e

-- where a table is known, the form has tables
pub knows_form : (l : Listing) (t : Span) → knows_table (spans l) t ≡ true → has_tables (form_for l) ≡ true
knows_form l t = go l.tables (length l.names)
  where
    go : (ts : List (List ℕ × ℕ)) (first : ℕ) → knows_table (spans_from first ts) t ≡ true → has_tables (form_with ts l) ≡ true
    go [] first h = absurd cc
    go (u ∷ ts) first h = refl
