-- Names as texts among others.
use Rattle.std.proofs.Common.{◌≡◌, ℕ, not, Bool, true, false, ◌||◌, List, [], ◌∷◌, map, Bor, refl, ap, sym, ◌∙◌}
use Rattle.std.specs.Prelude.{position, bytes_eq}
use Rattle.std.specs.List.{list_any}
use Rattle.txn_programs.proofs.Lawful.{position-map}
use Rattle.explain_files.specs.Declaring.{texts}

list_any-map : {X Y : Type 0} (p : Y → Bool) (f : X → Y) (xs : List X) → list_any p (map f xs) ≡ list_any (λ x. p (f x)) xs
list_any-map p f [] = refl
list_any-map p f (x ∷ xs) = ap (λ b. p (f x) || b) (list_any-map p f xs)

pub any_texts : (name : List ℕ) (names : List (Bor (List ℕ))) → list_any (bytes_eq name) (texts names) ≡ list_any (λ n. bytes_eq name n.now) names
any_texts name names = list_any-map (bytes_eq name) (λ (n : Bor (List ℕ)). n.now) names

not_not : (b : Bool) → not (not b) ≡ b
not_not true = refl
not_not false = refl

-- a name is there again where it was not added
pub not_added : (name : List ℕ) (names : List (Bor (List ℕ))) (added : Bool) → added ≡ not (list_any (λ n. bytes_eq name n.now) names) → not added ≡ list_any (bytes_eq name) (texts names)
not_added name names added e = ap not e ∙ not_not (list_any (λ n. bytes_eq name n.now) names) ∙ sym (any_texts name names)

pub position_texts : (name : List ℕ) (names : List (Bor (List ℕ))) → position (bytes_eq name) (texts names) ≡ position (λ n. bytes_eq name n.now) names
position_texts name names = position-map (bytes_eq name) (λ (n : Bor (List ℕ)). n.now) names
