-- Names as texts: where they stand, and where they are used.
use Rattle.std.proofs.Common.{◌≡◌, ℕ, ◌+◌, ◌<◌, not, Bool, true, false, ◌&&◌, ◌||◌, cond, Some, None, List, [], ◌∷◌, ◌++◌, length, get_or, drop, map, Bor, Result, String, Global, string_bytes, nat_eq, vec_len, Ok, Err, refl, sym, ap, ◌∙◌, append_assoc, arith, ◌⊎◌, inl, inr}
use Rattle.std.specs.Prelude.{position, bytes_eq, nat_lt, is_some}
use Rattle.std.specs.List.{list_all, list_any, position_or_len}
use Rattle.std.proofs.lemmas.Bool.{and_parts}
use Rattle.std.proofs.lemmas.Bool.Decides.{nat_tests}
use Rattle.std.proofs.lemmas.List.{append-nil, length-map, get_or-map}
use Rattle.std.proofs.lemmas.List.Quantifiers.{position-Some}
use Rattle.std.proofs.lemmas.List.Folds.{list_all-map, list_any-append}
use Rattle.txn_programs.specs.Names.{are_new}
use Rattle.txn_programs.proofs.Lawful.{position-map}
use Rattle.text_words.specs.declared.numeral.Numeral.{Numeral}
use Rattle.text_words.specs.Bytes.{int_value}
use Rattle.text_grammar.specs.Scope.{Scope}
use Rattle.text_grammar.specs.Tree.{Declaration, File}
use Rattle.text_grammar.specs.declared.file.RawTx.{RawTx}
use Rattle.text_grammar.specs.declared.file.RawRun.{RawRun}
use Rattle.text_grammar.specs.declared.file.RawFile.{RawFile}
use Rattle.std.proofs.lemmas.List.{map_push}
use Rattle.indexmap.specs.IndexSet.{insert_key}
use Rattle.text_words.specs.declared.fault.ReadFault.{ReadFault}
use Rattle.text_words.specs.declared.fault.ReadFault.TheVariants as faults
use Rattle.text_words.proofs.Steps.{bind_ok, chosen, ok_is}
use Rattle.text_resolver.proofs.Each.{next_at, next_item}
use Rattle.text_grammar.specs.Resolving.{is_known, always_known, tx_known, tx_name, run_known, uses_known, declared_one, declared_after}
use Rattle.text_words.specs.Answers.{◌>>=◌, Fails}
use Rattle.text_words.proofs.Many.{failed}
use Rattle.text_resolver.specs.Texts.{texts}
use Rattle.text_resolver.specs.Scopes.{parameters_behind, has_own_parameters}
use Rattle.text_grammar.specs.View.{view_names, view_always, view_tx, view_txs, view_run, view_file}

pub position_texts : (name : List ℕ) (names : List (Bor (List ℕ))) → position (bytes_eq name) (texts names) ≡ position (λ n. bytes_eq name n.now) names
position_texts name names = position-map (bytes_eq name) (λ (n : Bor (List ℕ)). n.now) names

pub uses_are : (s : Scope) (file : RawFile) → uses_known s (view_file file)
    ≡ (list_all (λ c. always_known s (view_always c)) file.always.items && (list_all (λ tx. tx_known s (view_tx tx)) file.txs.items && list_all (λ run. run_known (view_txs file.txs.items) (view_run run)) file.runs.items))
unfolding uses_known
uses_are s file = rw (list_all-map (always_known s) view_always file.always.items, list_all-map (tx_known s) view_tx file.txs.items, list_all-map (run_known (view_txs file.txs.items)) view_run file.runs.items) refl

known_are_own : (s : Scope) (txs : List Declaration) → list_all (tx_known s) txs ≡ true → list_all (has_own_parameters s) txs ≡ true
known_are_own s [] h = refl
known_are_own s (tx ∷ txs) h =
    let both = and_parts (tx_known s tx) (list_all (tx_known s) txs) h in
    rw (and_parts (has_own_parameters s tx) _ both.0).0 (known_are_own s txs both.1)

pub txs_are_own : (s : Scope) (file : File) → uses_known s file ≡ true → list_all (has_own_parameters s) file.txs ≡ true
unfolding uses_known
txs_are_own s file h =
    let txs = list_all (tx_known s) file.txs in
    let runs = list_all (run_known file.txs) file.runs in
    known_are_own s file.txs (and_parts txs runs (and_parts (list_all (always_known s) file.always) (txs && runs) h).1).0

list_any-map : {X Y : Type 0} (p : Y → Bool) (f : X → Y) (xs : List X) → list_any p (map f xs) ≡ list_any (λ x. p (f x)) xs
list_any-map p f [] = refl
list_any-map p f (x ∷ xs) = ap (λ b. p (f x) || b) (list_any-map p f xs)

any_texts : (name : List ℕ) (names : List (Bor (List ℕ))) → list_any (bytes_eq name) (texts names) ≡ list_any (λ n. bytes_eq name n.now) names
any_texts name names = list_any-map (bytes_eq name) (λ (n : Bor (List ℕ)). n.now) names

not_is_true : (r b : Bool) → r ≡ not b → r ≡ true → b ≡ false
not_is_true r true e h = absurd cc
not_is_true r false e h = refl

not_is_false : (r b : Bool) → r ≡ not b → r ≡ false → b ≡ true
not_is_false r true e h = refl
not_is_false r false e h = absurd cc

abbrev same_text : Bor (List ℕ) → Bor (List ℕ) → Bool
same_text a b = bytes_eq a.now b.now

-- a name that is new goes behind the others
pub new_name : (name : Bor (List ℕ)) (names more : List (Bor (List ℕ))) (added : Bool) → added ≡ not (list_any (λ n. bytes_eq name.now n.now) names) → added ≡ true
    → more ≡ insert_key same_text names name → declared_one (texts names) name.now ≡ Ok (texts more)
unfolding declared_one
new_name name names more added is h keys =
    let fresh : list_any (λ n. bytes_eq name.now n.now) names ≡ false = not_is_true added _ is h in
    let ordered : more ≡ names ++ name ∷ [] = keys ∙ ap (λ b. cond b names (names ++ name ∷ [])) fresh in
    rw (any_texts name.now names, fresh, ordered, map_push (λ (n : Bor (List ℕ)). n.now) names name) refl

-- a name that is there is refused
pub old_name : (name : Bor (List ℕ)) (names : List (Bor (List ℕ))) (added : Bool) → added ≡ not (list_any (λ n. bytes_eq name.now n.now) names) → added ≡ false
    → declared_one (texts names) name.now ≡ Err faults.Name
unfolding declared_one
old_name name names added is h = rw (any_texts name.now names, not_is_false added _ is h) refl

-- ---- names that are declared

-- one more name stands behind the earlier ones, and was none of them
one_declared : (earlier more : List (List ℕ)) (name : List ℕ) → declared_one earlier name ≡ Ok more → (list_any (bytes_eq name) earlier ≡ false) × (more ≡ earlier ++ name ∷ [])
unfolding declared_one
one_declared earlier more name e =
    elim (chosen (list_any (bytes_eq name) earlier) (Err faults.Name) (Ok (earlier ++ name ∷ [])) (Ok more) e) [
      | inl a ↦ absurd (let b = a.1 in cc)
      | inr a ↦ (a.0, sym (ok_is _ _ a.1))
    ]

-- declared names are those of the list, in its order
pub declared_are : (earlier names all : List (List ℕ)) → declared_after earlier names ≡ Ok all → all ≡ earlier ++ names
declared_are earlier [] all e = sym (ok_is _ _ e) ∙ sym (append-nil earlier)
declared_are earlier (name ∷ rest) all e =
    let b = bind_ok (declared_one earlier name) (λ more. declared_after more rest) all e in
    let first = one_declared earlier b.0 name b.1 in
    declared_are b.0 rest all b.2 ∙ ap (λ xs. xs ++ rest) first.1 ∙ append_assoc earlier (name ∷ []) rest

-- a name that is refused, as the whole list is
pub names_fail : {A X : Type 0} (e : ReadFault) (name : A → List ℕ) (view : X → A) (earlier : List (List ℕ)) (xs : List X) (i : ℕ) (x : X) (total : Result (List (List ℕ)) ReadFault) → i < length xs → x ≡ get_or xs i x
    → Fails e (declared_one earlier (name (view x))) → declared_after earlier (map name (map view (drop i xs))) ≡ total → Fails e total
names_fail e name view earlier xs i x total lt is fails so_far =
    failed e (declared_one earlier (name (view x))) (λ more. declared_after more (map name (map view (drop (i + 1) xs)))) total fails
    (ap (λ zs. declared_after earlier (map name (map view zs))) (sym (next_item xs i x lt is)) ∙ so_far)

-- ---- parameters

bool_cases : (b : Bool) → (b ≡ true) ⊎ (b ≡ false)
bool_cases true = inl refl
bool_cases false = inr refl

or_true : (a b : Bool) → b ≡ true → (a || b) ≡ true
or_true true b h = refl
or_true false b h = h

place_any : (p : List ℕ → Bool) (xs : List (List ℕ)) → nat_lt (position_or_len p xs) (length xs) ≡ list_any p xs
place_any p [] = refl
place_any p (x ∷ xs) =
    let h = place_any p xs in
    elim (bool_cases (p x)) [
      | inl e ↦ rw e (grind (arith, nat_tests))
      | inr e ↦ rw e (grind (arith, nat_tests))
    ]

known_any : (names : List (List ℕ)) (name : List ℕ) → is_known names name ≡ list_any (bytes_eq name) names
known_any names name = some (nat_lt (position_or_len (bytes_eq name) names) (length names)) (position_or_len (bytes_eq name) names) ∙ place_any (bytes_eq name) names where
  some : (b : Bool) (k : ℕ) → is_some (cond b (Some k) None) ≡ b
  some true k = refl
  some false k = refl

-- the names so far, as the loop keeps them: those that are left are judged behind them
pub record OwnSoFar (variables declared left all : List (List ℕ)) : Type 0 where
  pub judged : are_new (variables ++ declared) left ≡ are_new variables all
  pub whole : declared ++ left ≡ all

pub own_first : (variables declared all : List (List ℕ)) → declared ≡ [] → OwnSoFar variables declared all all
own_first variables declared all e = rw e (record { judged = ap (λ xs. are_new xs all) (append-nil variables); whole = refl })

pub own_more : (variables declared more : List (List ℕ)) (params : List (Bor (List ℕ))) (i : ℕ) (d : Bor (List ℕ)) (all : List (List ℕ)) → i < length params
    → is_known variables (get_or params i d).now ≡ false → declared_one declared (get_or params i d).now ≡ Ok more → OwnSoFar variables declared (view_names (drop i params)) all
    → OwnSoFar variables more (view_names (drop (i + 1) params)) all
own_more variables declared more params i d all lt unknown added so_far =
    let name = get_or params i d in
    let rest = view_names (drop (i + 1) params) in
    let step : view_names (drop i params) ≡ name.now ∷ rest = ap view_names (next_at params i d lt) in
    let first = one_declared declared more name.now added in
    let among : list_any (bytes_eq name.now) (variables ++ declared) ≡ false =
    list_any-append (bytes_eq name.now) variables declared ∙ ap (λ b. b || list_any (bytes_eq name.now) declared) (sym (known_any variables name.now) ∙ unknown) ∙ first.0 in
    let judged : are_new ((variables ++ declared) ++ name.now ∷ []) rest ≡ are_new variables all =
    ap (λ b. not b && are_new ((variables ++ declared) ++ name.now ∷ []) rest) (sym among) ∙ ap (are_new (variables ++ declared)) (sym step) ∙ so_far.judged in
    rw first.1 (record {
      judged = ap (λ xs. are_new xs rest) (sym (append_assoc variables declared (name.now ∷ []))) ∙ judged;
      whole = append_assoc declared (name.now ∷ []) rest ∙ ap (λ xs. declared ++ xs) (sym step) ∙ so_far.whole;
    })

not_own : (variables declared left all : List (List ℕ)) (name : Bor (List ℕ)) → list_any (bytes_eq name.now) (variables ++ declared) ≡ true → OwnSoFar variables declared (name.now ∷ left) all → parameters_behind variables all ≡ Err faults.Name
not_own variables declared left all name among so_far =
    let judged : are_new variables all ≡ false = sym so_far.judged ∙ ap (λ b. not b && are_new ((variables ++ declared) ++ name.now ∷ []) left) among in
    ap (λ b. cond b (Ok all) (Err faults.Name)) judged

-- a parameter with the name of a variable
pub own_variable : (variables declared : List (List ℕ)) (params : List (Bor (List ℕ))) (i : ℕ) (d : Bor (List ℕ)) (all : List (List ℕ)) → i < length params
    → is_known variables (get_or params i d).now ≡ true → OwnSoFar variables declared (view_names (drop i params)) all → parameters_behind variables all ≡ Err faults.Name
own_variable variables declared params i d all lt known so_far =
    let name = get_or params i d in
    let rest = view_names (drop (i + 1) params) in
    let step : view_names (drop i params) ≡ name.now ∷ rest = ap view_names (next_at params i d lt) in
    let among : list_any (bytes_eq name.now) (variables ++ declared) ≡ true =
    list_any-append (bytes_eq name.now) variables declared ∙ ap (λ b. b || list_any (bytes_eq name.now) declared) (sym (known_any variables name.now) ∙ known) in
    not_own variables declared rest all name among (rw step at so_far)

added_or_not : (variables declared left all : List (List ℕ)) (name : Bor (List ℕ)) (b : Bool) → list_any (bytes_eq name.now) declared ≡ b → OwnSoFar variables declared (name.now ∷ left) all
    → (declared_one declared name.now >>= λ more. parameters_behind variables all) ≡ parameters_behind variables all
unfolding declared_one
added_or_not variables declared left all name true here so_far =
    let among : list_any (bytes_eq name.now) (variables ++ declared) ≡ true = list_any-append (bytes_eq name.now) variables declared ∙ or_true _ _ here in
    ap (λ b. cond b (Err faults.Name) (Ok (declared ++ name.now ∷ [])) >>= λ more. parameters_behind variables all) here ∙ sym (not_own variables declared left all name among so_far)
added_or_not variables declared left all name false here so_far =
    ap (λ b. cond b (Err faults.Name) (Ok (declared ++ name.now ∷ [])) >>= λ more. parameters_behind variables all) here

-- a parameter that comes twice, or no memory
pub own_twice : (e : ReadFault) (variables declared : List (List ℕ)) (params : List (Bor (List ℕ))) (i : ℕ) (d : Bor (List ℕ)) (all : List (List ℕ)) → i < length params
    → Fails e (declared_one declared (get_or params i d).now) → OwnSoFar variables declared (view_names (drop i params)) all → Fails e (parameters_behind variables all)
own_twice e variables declared params i d all lt fails so_far =
    let name = get_or params i d in
    let rest = view_names (drop (i + 1) params) in
    let step : view_names (drop i params) ≡ name.now ∷ rest = ap view_names (next_at params i d lt) in
    let whole : OwnSoFar variables declared (name.now ∷ rest) all = rw step at so_far in
    failed e (declared_one declared name.now) (λ more. parameters_behind variables all) (parameters_behind variables all) fails
    (added_or_not variables declared rest all name (list_any (bytes_eq name.now) declared) refl whole)

-- all of them, where the loop ends
pub own_all : (variables declared left all : List (List ℕ)) → left ≡ [] → OwnSoFar variables declared left all → parameters_behind variables all ≡ Ok declared
own_all variables declared left all e so_far =
    let judged : are_new variables all ≡ true = sym so_far.judged ∙ ap (are_new (variables ++ declared)) e in
    let whole : declared ≡ all = sym (append-nil declared) ∙ ap (λ xs. declared ++ xs) (sym e) ∙ so_far.whole in
    ap (λ b. cond b (Ok all) (Err faults.Name)) judged ∙ ap Ok (sym whole)

-- one more text of its own
pub one_owned : (made : List (String Global)) (text : String Global) (names : List (Bor (List ℕ))) (i : ℕ) (d : Bor (List ℕ)) → i < length names → string_bytes text ≡ (get_or names i d).now
    → map string_bytes made ++ view_names (drop i names) ≡ view_names names → map string_bytes (made ++ text ∷ []) ++ view_names (drop (i + 1) names) ≡ view_names names
one_owned made text names i d lt is so_far =
    let rest = view_names (drop (i + 1) names) in
    let step : view_names (drop i names) ≡ (get_or names i d).now ∷ rest = ap view_names (next_at names i d lt) in
    ap (λ xs. xs ++ rest) (map_push string_bytes made text) ∙ append_assoc (map string_bytes made) (string_bytes text ∷ []) rest
    ∙ ap (λ x. map string_bytes made ++ (x ∷ rest)) is ∙ ap (λ xs. map string_bytes made ++ xs) (sym step) ∙ so_far

-- ---- runs

-- the place of a run's transaction tells how many parameters that has
pub run_is : (txs : List RawTx) (run : RawRun) (place : ℕ) (d : RawTx) → position (bytes_eq run.name.now) (map tx_name (view_txs txs)) ≡ Some place
    → nat_eq (vec_len (get_or txs place d).params) (vec_len run.arguments) ≡ run_known (view_txs txs) (view_run run)
run_is txs run place d is =
    let names = map tx_name (view_txs txs) in
    let below : place < length names = (position-Some (bytes_eq run.name.now) names place [] is).0 in
    let lt : place < length txs = rw (← length-map txs view_tx, ← length-map (view_txs txs) tx_name) below in
    let tx = get_or txs place d in
    let same : nat_eq (vec_len tx.params) (vec_len run.arguments) ≡ nat_eq (length tx.params.items) (length run.arguments.items) =
    ap (λ n. nat_eq n (vec_len run.arguments)) tx.params.ok.0 ∙ ap (nat_eq (length tx.params.items)) run.arguments.ok.0 in
    let listed : get_or (map (λ (t : Declaration). t.parameters) (view_txs txs)) place [] ≡ view_names (get_or txs place d).params.items =
    get_or-map (λ (t : Declaration). t.parameters) (view_txs txs) place (view_tx d) [] (rw (length-map txs view_tx) lt) ∙ ap (λ (t : Declaration). t.parameters) (get_or-map view_tx txs place d (view_tx d) lt) in
    same ∙ rw (is, listed, length-map (get_or txs place d).params.items (λ (n : Bor (List ℕ)). n.now), length-map run.arguments.items (λ (n : Numeral). int_value n.text.now)) refl
