-- Names that are none of those before, nor of some others.
use Rattle.std.proofs.Common.{◌≡◌, ℕ, Bool, true, false, not, ◌&&◌, ◌||◌, List, [], ◌∷◌, ◌++◌, map, String, Global, string_bytes, bytes_eq, refl, sym, ◌∙◌, ap, append_assoc}
use Rattle.std.specs.List.{list_any, list_all}
use Rattle.std.proofs.lemmas.List.{append-nil}
use Rattle.std.specs.Option.{is_some}
use Rattle.std.specs.HashMap.{HashMap, get_by_text}
use Rattle.txn_programs.specs.Names.{are_new, are_distinct}
use Rattle.txn.specs.NamePlaces.{TellsPlaces}
use Rattle.txn.proofs.Placing.{any_is}

any-append : {X : Type 0} (p : X → Bool) (xs ys : List X) → list_any p (xs ++ ys) ≡ (list_any p xs || list_any p ys)
any-append p [] ys = refl
any-append p (x ∷ xs) ys = step (p x) (list_any p (xs ++ ys)) (list_any p xs) (list_any p ys) (any-append p xs ys)
  where
    step : (a r s t : Bool) → r ≡ (s || t) → (a || r) ≡ ((a || s) || t)
    step true r s t e = refl
    step false r s t e = e

-- none of the names is one of the others
abbrev pub are_apart : List (List ℕ) → List (List ℕ) → Bool
are_apart others names = list_all (λ name. not (list_any (bytes_eq name) others)) names

-- names are new after two lists where none is one of the first, and they are new after the second
new_after : (others earlier names : List (List ℕ)) → are_new (others ++ earlier) names ≡ (are_apart others names && are_new earlier names)
new_after others earlier [] = refl
new_after others earlier (name ∷ rest) =
    step (list_any (bytes_eq name) (others ++ earlier)) (list_any (bytes_eq name) others) (list_any (bytes_eq name) earlier) (are_apart others rest)
    (are_new ((others ++ earlier) ++ name ∷ []) rest) (are_new (earlier ++ name ∷ []) rest)
    (any-append (bytes_eq name) others earlier)
    (ap (λ before. are_new before rest) (append_assoc others earlier (name ∷ [])) ∙ new_after others (earlier ++ name ∷ []) rest)
  where
    step : (any first second apart more new : Bool) → any ≡ (first || second) → more ≡ (apart && new) → (not any && more) ≡ ((not first && apart) && (not second && new))
    step any true second apart more new e f = ap (λ b. not b && more) e
    step any false true true more new e f = ap (λ b. not b && more) e
    step any false true false more new e f = ap (λ b. not b && more) e
    step any false false true more new e f = ap (λ b. not b && more) e ∙ f
    step any false false false more new e f = ap (λ b. not b && more) e ∙ f

pub new_by_parts : (others names : List (List ℕ)) → are_new others names ≡ (are_apart others names && are_distinct names)
new_by_parts others names = ap (λ before. are_new before names) (sym (append-nil others)) ∙ new_after others [] names

-- some name of them has a place
abbrev pub some_has : {S : Type 0} → HashMap (String Global) ℕ S → List (String Global) → Bool
some_has places names = list_any (λ name. is_some (get_by_text places (string_bytes name))) names

pub none_has : {S : Type 0} (places : HashMap (String Global) ℕ S) (others : List (List ℕ)) → TellsPlaces places others → (names : List (String Global)) → are_apart others (map string_bytes names) ≡ not (some_has places names)
none_has places others told [] = refl
none_has places others told (name ∷ rest) =
    step (list_any (bytes_eq (string_bytes name)) others) (is_some (get_by_text places (string_bytes name))) (are_apart others (map string_bytes rest)) (some_has places rest)
    (any_is (bytes_eq (string_bytes name)) others ∙ ap is_some (sym (told (string_bytes name)))) (none_has places others told rest)
  where
    step : (a b c d : Bool) → a ≡ b → c ≡ not d → (not a && c) ≡ not (b || d)
    step a true c d e f = ap (λ x. not x && c) e
    step a false c d e f = ap (λ x. not x && c) e ∙ f
