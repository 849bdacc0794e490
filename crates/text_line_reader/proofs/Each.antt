-- The loop over lines, each of which may fail.
use Rattle.std.proofs.Common.{◌≡◌, ◌∙◌, ℕ, suc, ◌+◌, ◌<◌, ◌≤◌, List, [], ◌∷◌, ◌++◌, length, get_or, drop, map, Result, Ok, Err, refl, sym, ap, append_assoc, add-one}
use Rattle.std.proofs.Math.Seq.{drop-cons}
use Rattle.std.proofs.lemmas.List.{append-nil, drop_all}
use Rattle.text_words.specs.Answers.{◌>>=◌, Fails}
use Rattle.text_words.specs.declared.fault.ReadFault.{ReadFault}
use Rattle.text_words.proofs.Steps.{done}
use Rattle.text_words.proofs.Many.{failed}
use Rattle.text_line_reader.specs.Rows.{each}

-- the front, and what is made of the rest
abbrev pub joined : {B : Type 0} → List B → Result (List B) ReadFault → Result (List B) ReadFault
joined front rest = rest >>= λ ys. Ok (front ++ ys)

regroup : {B : Type 0} (front : List B) (y : B) (rest : Result (List B) ReadFault) → joined front (rest >>= λ ys. done (y ∷ ys)) ≡ joined (front ++ y ∷ []) rest
regroup front y (Ok ys) = ap done (sym (append_assoc front (y ∷ []) ys))
regroup front y (Err e) = refl

pub each_more : {A B : Type 0} (one : A → Result B ReadFault) (front : List B) (x : A) (xs : List A) (y : B) (total : Result (List B) ReadFault)
    → one x ≡ Ok y → joined front (each one (x ∷ xs)) ≡ total → joined (front ++ y ∷ []) (each one xs) ≡ total
each_more one front x xs y total is so_far =
    let step : each one (x ∷ xs) ≡ (each one xs >>= λ ys. done (y ∷ ys)) = rw is refl in
    sym (regroup front y (each one xs)) ∙ ap (joined front) (sym step) ∙ so_far

pub twice : {A B : Type 0} (front : List B) (r : Result A ReadFault) (f : A → Result (List B) ReadFault) → joined front (r >>= f) ≡ (r >>= λ x. joined front (f x))
twice front (Ok x) f = refl
twice front (Err e) f = refl

pub each_fails : {A B : Type 0} (e : ReadFault) (one : A → Result B ReadFault) (front : List B) (x : A) (xs : List A) (total : Result (List B) ReadFault)
    → Fails e (one x) → joined front (each one (x ∷ xs)) ≡ total → Fails e total
each_fails e one front x xs total fails so_far =
    failed e (one x) (λ y. joined front (each one xs >>= λ ys. done (y ∷ ys))) total fails (sym (twice front (one x) (λ y. each one xs >>= λ ys. done (y ∷ ys))) ∙ so_far)

pub next_item : {X : Type 0} (xs : List X) (i : ℕ) (x : X) → i < length xs → x ≡ get_or xs i x → drop i xs ≡ x ∷ drop (i + 1) xs
next_item xs i x lt is = drop-cons xs i x lt ∙ ap (λ y. y ∷ drop (suc i) xs) (sym is) ∙ ap (λ k. x ∷ drop k xs) (sym (add-one i))

-- one turn of the loop, which keeps what is made so far behind the front
pub loop_more : {X A B : Type 0} (one : A → Result B ReadFault) (v : X → A) (front : List B) (xs : List X) (i : ℕ) (x : X) (y : B) (total : Result (List B) ReadFault) → i < length xs → x ≡ get_or xs i x
    → one (v x) ≡ Ok y → joined front (each one (map v (drop i xs))) ≡ total → joined (front ++ y ∷ []) (each one (map v (drop (i + 1) xs))) ≡ total
loop_more one v front xs i x y total lt is given so_far =
    each_more one front (v x) (map v (drop (i + 1) xs)) y total given (ap (λ zs. joined front (each one (map v zs))) (sym (next_item xs i x lt is)) ∙ so_far)

-- a turn that fails
pub loop_fails : {X A B : Type 0} (e : ReadFault) (one : A → Result B ReadFault) (v : X → A) (front : List B) (xs : List X) (i : ℕ) (x : X) (total : Result (List B) ReadFault) → i < length xs → x ≡ get_or xs i x
    → Fails e (one (v x)) → joined front (each one (map v (drop i xs))) ≡ total → Fails e total
loop_fails e one v front xs i x total lt is fails so_far =
    each_fails e one front (v x) (map v (drop (i + 1) xs)) total fails (ap (λ zs. joined front (each one (map v zs))) (sym (next_item xs i x lt is)) ∙ so_far)

-- all turns are done
pub loop_done : {X A B : Type 0} (one : A → Result B ReadFault) (v : X → A) (front : List B) (xs : List X) (i : ℕ) (total : Result (List B) ReadFault) → length xs ≤ i
    → joined front (each one (map v (drop i xs))) ≡ total → total ≡ Ok front
loop_done one v front xs i total le so_far =
    sym so_far ∙ ap (λ zs. joined front (each one (map v zs))) (drop_all i xs le) ∙ ap done (append-nil front)
