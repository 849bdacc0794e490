-- Declarations over the limits, and conditions that are not true, by what the code finds.
use Rattle.std.proofs.Common.{◌≡◌, ℕ, zero, suc, ◌+◌, ◌<◌, ◌≤◌, Bool, true, false, List, [], ◌∷◌, length, map, take, get_or, Some, refl, sym, ap, subst, ◌∙◌, add-one, arith}
use Rattle.std.specs.Prelude.{string_bytes}
use Rattle.std.specs.List.{slice_get, list_all}
use Rattle.std.proofs.lemmas.List.Folds.{list_all-map}
use Rattle.std.specs.declared.alloc.Global.{Global}
use Rattle.std.specs.declared.string.String.{String}
use Rattle.txn_programs.specs.declared.ast.Cond.{Cond}
use Rattle.txn_programs.specs.declared.ast.Tx.{Tx}
use Rattle.txn_programs.specs.Tree.{Condition, condition_of, transaction_of}
use Rattle.txn_programs.specs.Meaning.{State, truth}
use Rattle.txn_programs.specs.Standing.{is_true}
use Rattle.txn_programs.specs.Scope.{ConditionsKnown}
use Rattle.txn_programs.specs.Cost.{conditions_cost}
use Rattle.txn_programs.specs.Limits.{conditions_fit}
use Rattle.txn_evaluator.specs.Always.{conditions_of}
use Rattle.txn_declarations.specs.Beside.{fits_beside}
use Rattle.text_resolver.specs.Parts.{view_condition}
use Rattle.text_file_reader.proofs.Declared.{both}
use Rattle.text_file_reader.proofs.Back.{both_true}
use Rattle.explain_files.specs.Declarations.{IsOver, IsOverBeside, IsFalse}

abbrev Standing : Type 0
Standing = String Global × Cond

abbrev standing_conditions : List (List ℕ × Condition) → List Condition
standing_conditions always = map (λ a. a.1) always

pub not_fit : (b : Bool) → (b ≡ true → ⊥) → false ≡ b
not_fit true h = absurd (h refl)
not_fit false h = refl

-- ---- items of a list

item_is : {X : Type 0} (xs : List X) (i : ℕ) (x y : X) → i < length xs → x ≡ get_or xs i x → y ≡ get_or xs i y → x ≡ y
item_is [] i x y lt e g = absurd (omega arith)
item_is (a ∷ xs) zero x y lt e g = e ∙ sym g
item_is (a ∷ xs) (suc i) x y lt e g = item_is xs i x y (omega arith) e g

stands_at : {X Y : Type 0} (f : X → Y) (xs : List X) (i : ℕ) (x : X) → i < length xs → x ≡ get_or xs i x → slice_get (map f xs) i ≡ Some (f x)
stands_at f [] i x lt e = absurd (omega arith)
stands_at f (a ∷ xs) zero x lt e = ap (λ y. Some (f y)) (sym e)
stands_at f (a ∷ xs) (suc i) x lt e = stands_at f xs i x (omega arith) e

all_to : {X Y : Type 0} (p : Y → Bool) (f : X → Y) (xs : List X) (i : ℕ) (x : X) → i < length xs → x ≡ get_or xs i x → list_all p (take i (map f xs)) ≡ true → p (f x) ≡ true → list_all p (take (suc i) (map f xs)) ≡ true
all_to p f [] i x lt e h q = absurd (omega arith)
all_to p f (a ∷ xs) zero x lt e h q = both_true _ _ (ap (λ y. p (f y)) (sym e) ∙ q) refl
all_to p f (a ∷ xs) (suc i) x lt e h q =
    let b = both (p (f a)) (list_all p (take i (map f xs))) h in both_true _ _ b.0 (all_to p f xs i x (omega arith) e b.1 q)

-- one item more
pub all_more : {X Y : Type 0} (p : Y → Bool) (f : X → Y) (xs : List X) (i : ℕ) (x : X) → i < length xs → x ≡ get_or xs i x → list_all p (take i (map f xs)) ≡ true → p (f x) ≡ true → list_all p (take (i + 1) (map f xs)) ≡ true
all_more p f xs i x lt e h q = subst (λ n. list_all p (take n (map f xs)) ≡ true) (sym (add-one i)) (all_to p f xs i x lt e h q)

-- all of them
take_beyond : {X Y : Type 0} (f : X → Y) (xs : List X) (n : ℕ) → length xs ≤ n → take n (map f xs) ≡ map f xs
take_beyond f [] zero le = refl
take_beyond f [] (suc n) le = refl
take_beyond f (x ∷ xs) zero le = absurd (omega arith)
take_beyond f (x ∷ xs) (suc n) le = ap (λ ys. f x ∷ ys) (take_beyond f xs n (omega arith))

pub all_whole : {X Y : Type 0} (p : Y → Bool) (f : X → Y) (xs : List X) (n : ℕ) → length xs ≤ n → list_all p (take n (map f xs)) ≡ true → list_all p (map f xs) ≡ true
all_whole p f xs n le h = sym (ap (list_all p) (take_beyond f xs n le)) ∙ h

-- ---- conditions over the limits

take_conditions : (always : List Standing) (n : ℕ) → standing_conditions (take n (map view_condition always)) ≡ map (λ a. condition_of a.1) (take n always)
take_conditions [] zero = refl
take_conditions [] (suc n) = refl
take_conditions (a ∷ always) zero = refl
take_conditions (a ∷ always) (suc n) = ap (λ cs. condition_of a.1 ∷ cs) (take_conditions always n)

pub is_over : (always : List Standing) (i : ℕ) (x : Standing) (text : List ℕ) → i < length always → x ≡ get_or always i x → text ≡ string_bytes x.0
    → conditions_fit (map (λ a. condition_of a.1) (take i always)) ≡ true → conditions_fit (map (λ a. condition_of a.1) (take (i + 1) always)) ≡ false → IsOver (map view_condition always) text
is_over always i x text lt e t b h =
    record {
      number = i;
      condition = condition_of x.1;
      stands = stands_at view_condition always i x lt e ∙ ap (λ (u : List ℕ). Some (u, condition_of x.1)) (sym t);
      before = ap conditions_fit (take_conditions always i) ∙ b;
      over = ap conditions_fit (take_conditions always (i + 1)) ∙ h;
    }

take_all : (always : List Standing) (n : ℕ) → length always ≤ n → take n always ≡ always
take_all [] zero le = refl
take_all [] (suc n) le = refl
take_all (a ∷ always) zero le = absurd (omega arith)
take_all (a ∷ always) (suc n) le = ap (λ (rest : List Standing). a ∷ rest) (take_all always n (omega arith))

pub some_is_over : (always : List Standing) (n : ℕ) → length always ≤ n → conditions_fit (map (λ a. condition_of a.1) (take n always)) ≡ true → conditions_fit (map (λ a. condition_of a.1) always) ≡ false → ⊥
some_is_over always n le fit not =
    let whole : conditions_fit (map (λ (a : Standing). condition_of a.1) always) ≡ true = sym (ap (λ (all : List Standing). conditions_fit (map (λ (a : Standing). condition_of a.1) all)) (take_all always n le)) ∙ fit in
    let both : true ≡ false = sym whole ∙ not in
    absurd cc

-- the conditions of a listing are those that the code has
pub same_always : (always : List Standing) → standing_conditions (map view_condition always) ≡ map (λ a. condition_of a.1) always
same_always [] = refl
same_always (a ∷ always) = ap (λ cs. condition_of a.1 ∷ cs) (same_always always)

-- ---- transactions over the limits

pub is_over_beside : (cost : ℕ) (txs : List Tx) (i : ℕ) (x y : Tx) (text : List ℕ) → i < length txs → x ≡ get_or txs i x → y ≡ get_or txs i y → text ≡ string_bytes y.name
    → list_all (fits_beside cost) (take i (map transaction_of txs)) ≡ true → fits_beside cost (transaction_of x) ≡ false → IsOverBeside cost (map transaction_of txs) text
is_over_beside cost txs i x y text lt e g t b h =
    record {
      number = i;
      transaction = transaction_of x;
      stands = stands_at transaction_of txs i x lt e;
      named = ap (λ (u : Tx). string_bytes u.name) (item_is txs i x y lt e g) ∙ sym t;
      before = b;
      over = h;
    }

abbrev said_of : Standing → Condition
said_of a = condition_of a.1

same_cost : (seen always : List Standing) (cost : ℕ) → seen ≡ always → cost ≡ conditions_cost (map said_of seen) → cost ≡ conditions_cost (standing_conditions (map view_condition always))
same_cost seen always cost p e = e ∙ ap conditions_cost (ap (λ (xs : List Standing). map said_of xs) p ∙ sym (same_always always))

same_fit : (seen always : List Standing) → seen ≡ always → conditions_fit (map said_of seen) ≡ true → conditions_fit (standing_conditions (map view_condition always)) ≡ true
same_fit seen always p h = sym (ap conditions_fit (ap (λ (xs : List Standing). map said_of xs) p ∙ sym (same_always always))) ∙ h

-- a transaction over the limits where the conditions are within them
pub costly_beside : (seen always : List Standing) (seen_txs txs : List Tx) (cost : ℕ) (text : List ℕ) → seen ≡ always → seen_txs ≡ txs → conditions_fit (map said_of seen) ≡ true → cost ≡ conditions_cost (map said_of seen)
    → IsOverBeside cost (map transaction_of seen_txs) text
    → (conditions_fit (standing_conditions (map view_condition always)) ≡ true) × IsOverBeside (conditions_cost (standing_conditions (map view_condition always))) (map transaction_of txs) text
costly_beside seen always seen_txs txs cost text p q fit e h =
    (same_fit seen always p fit, subst (λ (n : ℕ). IsOverBeside n (map transaction_of txs) text) (same_cost seen always cost p e) (subst (λ (xs : List Tx). IsOverBeside cost (map transaction_of xs) text) q h))

pub none_costly : (seen always : List Standing) (seen_txs txs : List Tx) (cost : ℕ) → seen ≡ always → seen_txs ≡ txs → conditions_fit (map said_of seen) ≡ true → cost ≡ conditions_cost (map said_of seen)
    → list_all (fits_beside cost) (map transaction_of seen_txs) ≡ true
    → (conditions_fit (standing_conditions (map view_condition always)) ≡ true) × (list_all (fits_beside (conditions_cost (standing_conditions (map view_condition always)))) (map transaction_of txs) ≡ true)
none_costly seen always seen_txs txs cost p q fit e h =
    (same_fit seen always p fit, subst (λ (n : ℕ). list_all (fits_beside n) (map transaction_of txs) ≡ true) (same_cost seen always cost p e) (subst (λ (xs : List Tx). list_all (fits_beside cost) (map transaction_of xs) ≡ true) q h))

-- ---- conditions that are not true

abbrev pub true_of : State → List ℕ × Condition → Bool
true_of values a = is_true (truth a.1 values)

pub is_false : (always : List Standing) (values : State) (i : ℕ) (x y : Standing) (text : List ℕ) → i < length always → x ≡ get_or always i x → y ≡ get_or always i y → text ≡ string_bytes y.0
    → list_all (true_of values) (take i (map view_condition always)) ≡ true → is_true (truth (condition_of x.1) values) ≡ false → IsFalse (map view_condition always) values text
is_false always values i x y text lt e g t b h =
    record {
      number = i;
      condition = condition_of x.1;
      stands = stands_at view_condition always i x lt e ∙ ap (λ (u : Standing). Some (string_bytes u.0, condition_of x.1)) (item_is always i x y lt e g) ∙ ap (λ (u : List ℕ). Some (u, condition_of x.1)) (sym t);
      before = b;
      untrue = h;
    }

-- they name only variables and cells that there are
pub known_conditions : (n : ℕ) (always : List Standing) → ConditionsKnown n (standing_conditions (map view_condition always)) → ConditionsKnown n (conditions_of always)
known_conditions n always h = subst (ConditionsKnown n) (same_always always) h

pub untrue_conditions : (values : State) (always : List (List ℕ × Condition)) → list_all (λ c. is_true (truth c values)) (standing_conditions always) ≡ false → list_all (true_of values) always ≡ false
untrue_conditions values always h = sym (list_all-map (λ (c : Condition). is_true (truth c values)) (λ (a : List ℕ × Condition). a.1) always) ∙ h
