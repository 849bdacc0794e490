-- The loop over items, each of which may fail.
use Rattle.std.proofs.Common.{◌≡◌, ℕ, ◌+◌, ◌<◌, List, [], ◌∷◌, ◌++◌, length, get_or, drop, map, Result, Ok, Err, refl, sym, ap, ◌∙◌, append_assoc, add-one, arith}
use Rattle.std.proofs.Math.Seq.{drop-cons}
use Rattle.std.proofs.lemmas.List.{append-nil}
use Rattle.text_words.specs.declared.fault.ReadFault.{ReadFault}
use Rattle.std.specs.Result.{result_and}
use Rattle.text_words.specs.Answers.{◌>>=◌, Fails, Gives}
use Rattle.txn_programs.specs.declared.ast.Span.{Span}
use Rattle.txn_programs.specs.declared.ast.Table.{Table}
use Rattle.txn_programs.specs.Listing.{table_of as listed}
use Rattle.text_grammar.specs.Resolving.{each, span_behind, spans_in}
use Rattle.text_words.proofs.Steps.{done}
use Rattle.text_words.proofs.Many.{failed}

-- the front, and what is made of the rest
abbrev pub joined : {B : Type 0} → List B → Result (List B) ReadFault → Result (List B) ReadFault
joined front rest = rest >>= λ ys. Ok (front ++ ys)

regroup : {B : Type 0} (front : List B) (y : B) (rest : Result (List B) ReadFault) → joined front (rest >>= λ ys. done (y ∷ ys)) ≡ joined (front ++ y ∷ []) rest
regroup front y (Ok ys) = ap done (sym (append_assoc front (y ∷ []) ys))
regroup front y (Err e) = refl

pub each_more : {A B : Type 0} (one : A → Result B ReadFault) (front : List B) (x : A) (xs : List A) (y : B) (total : Result (List B) ReadFault)
    → one x ≡ Ok y → joined front (each one (x ∷ xs)) ≡ total → joined (front ++ y ∷ []) (each one xs) ≡ total
each_more one front x xs y total is so_far =
    let step : each one (x ∷ xs) ≡ (each one xs >>= λ ys. done (y ∷ ys)) = rw is refl in
    sym (regroup front y (each one xs)) ∙ ap (joined front) (sym step) ∙ so_far

twice : {A B : Type 0} (front : List B) (r : Result A ReadFault) (f : A → Result (List B) ReadFault) → joined front (r >>= f) ≡ (r >>= λ x. joined front (f x))
twice front (Ok x) f = refl
twice front (Err e) f = refl

pub each_fails : {A B : Type 0} (e : ReadFault) (one : A → Result B ReadFault) (front : List B) (x : A) (xs : List A) (total : Result (List B) ReadFault)
    → Fails e (one x) → joined front (each one (x ∷ xs)) ≡ total → Fails e total
each_fails e one front x xs total fails so_far =
    failed e (one x) (λ y. joined front (each one xs >>= λ ys. done (y ∷ ys))) total fails (sym (twice front (one x) (λ y. each one xs >>= λ ys. done (y ∷ ys))) ∙ so_far)

pub each_done : {A B : Type 0} (one : A → Result B ReadFault) (front : List B) (total : Result (List B) ReadFault) → joined front (each one []) ≡ total → total ≡ Ok front
each_done one front total so_far = sym so_far ∙ ap done (append-nil front)

pub nothing_left : {X : Type 0} (xs : List X) → length xs ≡ 0 → xs ≡ []
nothing_left [] h = refl
nothing_left (x ∷ xs) h = absurd (omega arith)

pub next_at : {X : Type 0} (xs : List X) (i : ℕ) (d : X) → i < length xs → drop i xs ≡ get_or xs i d ∷ drop (i + 1) xs
next_at xs i d lt = drop-cons xs i d lt ∙ ap (λ k. get_or xs i d ∷ drop k xs) (sym (add-one i))

pub next_item : {X : Type 0} (xs : List X) (i : ℕ) (x : X) → i < length xs → x ≡ get_or xs i x → drop i xs ≡ x ∷ drop (i + 1) xs
next_item xs i x lt is = next_at xs i x lt ∙ ap (λ y. y ∷ drop (i + 1) xs) (sym is)

-- one turn of the loop, which keeps what is made so far behind the front
pub loop_more : {X A B : Type 0} (one : A → Result B ReadFault) (v : X → A) (front : List B) (xs : List X) (i : ℕ) (x : X) (y : B) (total : Result (List B) ReadFault) → i < length xs → x ≡ get_or xs i x
    → one (v x) ≡ Ok y → joined front (each one (map v (drop i xs))) ≡ total → joined (front ++ y ∷ []) (each one (map v (drop (i + 1) xs))) ≡ total
loop_more one v front xs i x y total lt is given so_far =
    each_more one front (v x) (map v (drop (i + 1) xs)) y total given (ap (λ zs. joined front (each one (map v zs))) (sym (next_item xs i x lt is)) ∙ so_far)

-- a turn that fails, as the whole does
pub loop_fails : {X A B : Type 0} (e : ReadFault) (one : A → Result B ReadFault) (v : X → A) (front : List B) (xs : List X) (i : ℕ) (x : X) (total : Result (List B) ReadFault) → i < length xs → x ≡ get_or xs i x
    → Fails e (one (v x)) → joined front (each one (map v (drop i xs))) ≡ total → Fails e total
loop_fails e one v front xs i x total lt is fails so_far =
    each_fails e one front (v x) (map v (drop (i + 1) xs)) total fails (ap (λ zs. joined front (each one (map v zs))) (sym (next_item xs i x lt is)) ∙ so_far)

-- what was filled, where nothing failed
pub filled : {U X Y : Type 0} (view : X → Y) (told : Result U ReadFault) (made : X) (total : Result Y ReadFault) → Gives (λ (_ : U). view made) told total → Gives view (result_and told (Ok made)) total
filled view (Ok u) made total h = h
filled view (Err e) made total h = h

-- the same of spans, each of which begins behind the one before
pub span_fails : (e : ReadFault) (front : List Span) (next : ℕ) (tables : List Table) (i : ℕ) (t : Table) (total : Result (List Span) ReadFault) → i < length tables → t ≡ get_or tables i t
    → Fails e (span_behind next (listed t).1) → joined front (spans_in next (map listed (drop i tables))) ≡ total → Fails e total
span_fails e front next tables i t total lt is fails so_far =
    let rest = λ (span : Span). spans_in (next + (listed t).1) (map listed (drop (i + 1) tables)) >>= λ spans. Ok (span ∷ spans) in
    failed e (span_behind next (listed t).1) (λ span. joined front (rest span)) total fails
    (sym (twice front (span_behind next (listed t).1) rest) ∙ ap (λ zs. joined front (spans_in next (map listed zs))) (sym (next_item tables i t lt is)) ∙ so_far)
