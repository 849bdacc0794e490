-- Names that are declared once, and their places.
use Rattle.std.proofs.Common.{◌≡◌, ℕ, zero, suc, ◌<◌, ◌≤◌, Bool, true, false, ◌&&◌, ◌||◌, not, List, [], ◌∷◌, ◌++◌, length, Option, Some, None, Ok, Err, map, cond, refl, sym, ap, subst, ◌∙◌, append_assoc, arith, inl, inr}
use Rattle.std.specs.Prelude.{position, is_some, bytes_eq, nat_lt, ◌^◌}
use Rattle.std.specs.List.{list_any, position_or_len}
use Rattle.std.proofs.lemmas.Slice.Eq.{bytes_eq-Decides}
use Rattle.std.proofs.lemmas.List.Quantifiers.{position-Some}
use Rattle.std.proofs.lemmas.Bool.{lt-ltb, ltb-true}
use Rattle.std.proofs.lemmas.List.{append-nil}
use Rattle.txn_programs.specs.declared.ast.VarId.{VarId}
use Rattle.txn_programs.specs.declared.ast.ParamId.{ParamId}
use Rattle.txn_programs.specs.Listing.{Listing}
use Rattle.txn_programs.specs.Names.{are_new, are_distinct}
use Rattle.text_words.specs.declared.fault.ReadFault.TheVariants as faults
use Rattle.text_grammar.specs.Tree.{File}
use Rattle.text_grammar.specs.Written.{name_at}
use Rattle.text_grammar.specs.Scope.{standing}
use Rattle.text_grammar.specs.Resolving.{declared_one, declared_after, is_known, placed, place_in, variable_in, parameter_in, pair_name, table_name, condition_name, tx_name, uses_known, converted, resolved}
use Rattle.text_words.proofs.Steps.{bind_ok, ok_is, done, chosen}

pub both : (a b : Bool) → (a && b) ≡ true → (a ≡ true) × (b ≡ true)
both true b h = (refl, h)
both false b h = absurd cc

pub neither : (a b : Bool) → (a || b) ≡ false → (a ≡ false) × (b ≡ false)
neither false b h = (refl, h)
neither true b h = absurd cc

not_true : (b : Bool) → not b ≡ true → b ≡ false
not_true true h = absurd cc
not_true false h = refl

-- none of the front and not the last
any_end : (p : List ℕ → Bool) (xs : List (List ℕ)) (x : List ℕ) → list_any p (xs ++ x ∷ []) ≡ false → (list_any p xs ≡ false) × (p x ≡ false)
any_end p [] x h = (refl, (neither (p x) false h).0)
any_end p (y ∷ ys) x h =
    let a = neither (p y) (list_any p (ys ++ x ∷ [])) h in
    let b = any_end p ys x a.1 in
    (rw a.0 b.0, b.1)

-- a name that comes later is none of the earlier ones
later_new : (earlier names : List (List ℕ)) (i : ℕ) → are_new earlier names ≡ true → i < length names → list_any (bytes_eq (name_at names i)) earlier ≡ false
later_new earlier [] i h lt = absurd (omega arith)
later_new earlier (name ∷ rest) zero h lt = not_true _ (both _ _ h).0
later_new earlier (name ∷ rest) (suc i) h lt = (any_end (bytes_eq (name_at rest i)) earlier name (later_new (earlier ++ name ∷ []) rest i (both _ _ h).1 (omega arith))).0

-- a name of the earlier ones is none of the later
pub none_later : (earlier names : List (List ℕ)) (name : List ℕ) → are_new earlier names ≡ true → list_any (bytes_eq name) earlier ≡ true → is_known names name ≡ false
none_later earlier names name h there = by (position (bytes_eq name) names) refl
  where
    by : (o : Option ℕ) → position (bytes_eq name) names ≡ o → is_some o ≡ false
    by None e = refl
    by (Some i) e =
        let p = position-Some (bytes_eq name) names i [] e in
        let same : name ≡ name_at names i = (bytes_eq-Decides name (name_at names i)).0 p.1 in
        let other : list_any (bytes_eq (name_at names i)) earlier ≡ false = later_new earlier names i h p.0 in
        absurd (let again = rw (← same) at other in cc)

-- a name that stands somewhere is one of the names
pub any_at : (names : List (List ℕ)) (i : ℕ) → nat_lt i (length names) ≡ true → list_any (bytes_eq (name_at names i)) names ≡ true
any_at [] i lt = absurd (omega (arith, ltb-true i 0 lt))
any_at (name ∷ rest) zero lt = rw ((bytes_eq-Decides name name).1 refl) refl
any_at (name ∷ rest) (suc i) lt =
    let ih : list_any (bytes_eq (name_at rest i)) rest ≡ true = any_at rest i (lt-ltb i (length rest) (let p = ltb-true (suc i) (length (name ∷ rest)) lt in omega arith)) in
    rw ih (either (bytes_eq (name_at rest i) name))
  where
    either : (b : Bool) → (b || true) ≡ true
    either true = refl
    either false = refl

first_place : (earlier names : List (List ℕ)) (i : ℕ) → are_new earlier names ≡ true → i < length names → position_or_len (bytes_eq (name_at names i)) names ≡ i
first_place earlier [] i h lt = absurd (omega arith)
first_place earlier (name ∷ rest) zero h lt = rw ((bytes_eq-Decides name name).1 refl) refl
first_place earlier (name ∷ rest) (suc i) h lt =
    let more = (both _ _ h).1 in
    let other : bytes_eq (name_at rest i) name ≡ false = (any_end (bytes_eq (name_at rest i)) earlier name (later_new (earlier ++ name ∷ []) rest i more (omega arith))).1 in
    let ih : position_or_len (bytes_eq (name_at rest i)) rest ≡ i = first_place (earlier ++ name ∷ []) rest i more (omega arith) in
    rw (other, ih) (omega arith)

-- a name stands at its place, also behind earlier names that are others
pub place_again : (earlier names : List (List ℕ)) (i : ℕ) → are_new earlier names ≡ true → nat_lt i (length names) ≡ true → position (bytes_eq (name_at names i)) names ≡ Some i
place_again earlier names i h lt = rw (first_place earlier names i h (ltb-true i (length names) lt), lt) refl

pub known_again : (earlier names : List (List ℕ)) (i : ℕ) → are_new earlier names ≡ true → nat_lt i (length names) ≡ true → is_known names (name_at names i) ≡ true
known_again earlier names i h lt = rw (place_again earlier names i h lt) refl

pub id_again : (earlier names : List (List ℕ)) (i : ℕ) → are_new earlier names ≡ true → length names ≤ 256 → nat_lt i (length names) ≡ true → place_in names (name_at names i) ≡ Ok i
unfolding place_in
id_again earlier names i h few lt = let small : nat_lt i (2 ^ 32) ≡ true = lt-ltb i (2 ^ 32) (let p = ltb-true i (length names) lt in omega arith) in rw (place_again earlier names i h lt, small) refl

pub variable_again : (names : List (List ℕ)) (x : VarId) → are_distinct names ≡ true → length names ≤ 256 → nat_lt x.0 (length names) ≡ true → variable_in names (name_at names x.0) ≡ Ok x
unfolding variable_in
variable_again names x h few lt = rw (id_again [] names x.0 h few lt) refl

pub parameter_again : (earlier names : List (List ℕ)) (p : ParamId) → are_new earlier names ≡ true → length names ≤ 256 → nat_lt p.0 (length names) ≡ true → parameter_in names (name_at names p.0) ≡ Ok p
unfolding parameter_in
parameter_again earlier names p h few lt = rw (id_again earlier names p.0 h few lt) refl

placed_is : (o : Option ℕ) (i : ℕ) → placed o ≡ Ok i → o ≡ Some i
placed_is None i e = absurd cc
placed_is (Some j) i e =
    elim (chosen (nat_lt j (2 ^ 32)) (done j) (Err faults.Limit) (Ok i) e) [
      | inl p ↦ ap Some (ok_is j i p.1)
      | inr p ↦ absurd (let h = p.1 in cc)
    ]

pub place_found : (names : List (List ℕ)) (name : List ℕ) (i : ℕ) → place_in names name ≡ Ok i → position (bytes_eq name) names ≡ Some i
unfolding place_in
place_found names name i e = placed_is (position (bytes_eq name) names) i e

-- a place is that of the name
pub id_back : (names : List (List ℕ)) (name : List ℕ) (i : ℕ) → place_in names name ≡ Ok i → (name_at names i ≡ name) × (i < length names)
unfolding place_in
id_back names name i e =
    let p = position-Some (bytes_eq name) names i [] (placed_is (position (bytes_eq name) names) i e) in
    (sym ((bytes_eq-Decides name (name_at names i)).0 p.1), p.0)

pub variable_back : (names : List (List ℕ)) (name : List ℕ) (x : VarId) → variable_in names name ≡ Ok x → name_at names x.0 ≡ name
unfolding variable_in
variable_back names name x e =
    let b = bind_ok (place_in names name) _ x e in
    let made : VarId = record { 0 = b.0 } in
    subst (λ (y : VarId). name_at names y.0 ≡ name) (ok_is made x b.2) (id_back names name b.0 b.1).0

pub parameter_back : (names : List (List ℕ)) (name : List ℕ) (p : ParamId) → parameter_in names name ≡ Ok p → name_at names p.0 ≡ name
unfolding parameter_in
parameter_back names name p e =
    let b = bind_ok (place_in names name) _ p e in
    let made : ParamId = record { 0 = b.0 } in
    subst (λ (y : ParamId). name_at names y.0 ≡ name) (ok_is made p b.2) (id_back names name b.0 b.1).0

-- the declared names are those that are given
pub declared_is : (earlier names all : List (List ℕ)) → declared_after earlier names ≡ Ok all → all ≡ earlier ++ names
unfolding declared_one
declared_is earlier [] all e = sym (ok_is earlier all e) ∙ sym (append-nil earlier)
declared_is earlier (name ∷ rest) all e =
    let b = bind_ok (declared_one earlier name) _ all e in
    elim (chosen (list_any (bytes_eq name) earlier) (Err faults.Name) (done (earlier ++ name ∷ [])) (Ok b.0) b.1) [
      | inl p ↦ absurd (let h = p.1 in cc)
      | inr p ↦ declared_is b.0 rest all b.2 ∙ ap (λ (front : List (List ℕ)). front ++ rest) (sym (ok_is (earlier ++ name ∷ []) b.0 p.1)) ∙ append_assoc earlier (name ∷ []) rest
    ]

pub declared_again : (earlier names : List (List ℕ)) → are_new earlier names ≡ true → declared_after earlier names ≡ Ok (earlier ++ names)
unfolding declared_one
declared_again earlier [] h = ap done (sym (append-nil earlier))
declared_again earlier (name ∷ rest) h =
    let p = both _ _ h in
    let fresh : list_any (bytes_eq name) earlier ≡ false = not_true (list_any (bytes_eq name) earlier) p.0 in
    rw fresh (declared_again (earlier ++ name ∷ []) rest p.1 ∙ ap done (append_assoc earlier (name ∷ []) rest))

pub declared_new : (earlier names all : List (List ℕ)) → declared_after earlier names ≡ Ok all → are_new earlier names ≡ true
unfolding declared_one
declared_new earlier [] all h = refl
declared_new earlier (name ∷ rest) all e =
    let b = bind_ok (declared_one earlier name) _ all e in
    elim (chosen (list_any (bytes_eq name) earlier) (Err faults.Name) (done (earlier ++ name ∷ [])) (Ok b.0) b.1) [
      | inl p ↦ absurd (let h = p.1 in cc)
      | inr p ↦ let next = ok_is (earlier ++ name ∷ []) b.0 p.1 in rw (p.0, next) (declared_new b.0 rest all b.2)
    ]

-- ---- the names of a file

-- no name is declared twice, only declared ones are used, and the rest is as converted
pub record IsResolved (file : File) (l : Listing) : Type 0 where
  pub vars_new : are_distinct (map pair_name file.vars) ≡ true
  pub tables_new : are_distinct (map table_name file.tables) ≡ true
  pub always_new : are_distinct (map condition_name file.always) ≡ true
  pub txs_new : are_distinct (map tx_name file.txs) ≡ true
  pub used : uses_known (standing (map pair_name file.vars) (map table_name file.tables) []) file ≡ true
  pub is_converted : converted (map pair_name file.vars) (map table_name file.tables) (map tx_name file.txs) file ≡ Ok l

used_step : (file : File) (l : Listing) (v n x vars tables txs : List (List ℕ)) → v ≡ vars → n ≡ tables → x ≡ txs → cond (uses_known (standing v n []) file) (converted v n x file) (Err faults.Name) ≡ Ok l
    → (uses_known (standing vars tables []) file ≡ true) × (converted vars tables txs file ≡ Ok l)
used_step file l v n x vars tables txs p o q h =
    let g : cond (uses_known (standing vars tables []) file) (converted vars tables txs file) (Err faults.Name) ≡ Ok l = rw (p, o, q) at h in
    elim (chosen (uses_known (standing vars tables []) file) (converted vars tables txs file) (Err faults.Name) (Ok l) g) [
      | inl c ↦ c
      | inr c ↦ absurd (let f = c.1 in cc)
    ]

pub resolved_is : (file : File) (l : Listing) → resolved file ≡ Ok l → IsResolved file l
unfolding resolved
resolved_is file l h =
    let vars = map pair_name file.vars in
    let tables = map table_name file.tables in
    let always = map condition_name file.always in
    let txs = map tx_name file.txs in
    let v = bind_ok (declared_after [] vars) _ l h in
    let n = bind_ok (declared_after [] tables) _ l v.2 in
    let a = bind_ok (declared_after [] always) _ l n.2 in
    let x = bind_ok (declared_after [] txs) _ l a.2 in
    let u = used_step file l v.0 n.0 x.0 vars tables txs (declared_is [] vars v.0 v.1) (declared_is [] tables n.0 n.1) (declared_is [] txs x.0 x.1) x.2 in
    record {
      vars_new = declared_new [] vars v.0 v.1;
      tables_new = declared_new [] tables n.0 n.1;
      always_new = declared_new [] always a.0 a.1;
      txs_new = declared_new [] txs x.0 x.1;
      used = u.0;
      is_converted = u.1;
    }
