-- Items as long as a test passes, with no bound on the turns, and the loop that reads them.
use Rattle.std.proofs.Common.{◌≡◌, ℕ, zero, suc, ◌<◌, Bool, true, false, cond, List, [], ◌∷◌, ◌++◌, length, Result, Ok, Err, refl, sym, ap, subst, ◌∙◌, append_assoc, arith, inl, inr}
use Rattle.std.specs.List.{flat_map, AllByRecursion}
use Rattle.std.proofs.lemmas.List.{append-nil}
use Rattle.std.proofs.lemmas.List.Concat.{flat_map-cons}
use Rattle.text_words.specs.Tokens.{Lexeme}
use Rattle.text_words.specs.declared.fault.ReadFault.{ReadFault}
use Rattle.text_words.specs.declared.fault.ReadFault.TheVariants.{Shape}
use Rattle.text_words.specs.declared.fault.ReadFault.TheVariants as faults
use Rattle.text_words.proofs.Steps.{bind_ok, ok_is, done, chosen}
use Rattle.text_words.specs.Answers.{◌>>=◌, Fails}
use Rattle.text_words.specs.TokenReading.{Read, with_first, many, all_of}

-- each item takes a token at least
pub record Shortens {A : Type 0} (one : List Lexeme → Read A) : Type 0 where
  pub by : (ts : List Lexeme) (x : A × List Lexeme) → one ts ≡ Ok x → length x.1 < length ts

then_many : {A : Type 0} (goes : List Lexeme → Bool) (one : List Lexeme → Read A) (n m bound : ℕ) (r : Read A) → ((us : List Lexeme) → length us < bound → many goes one n us ≡ many goes one m us) → ((x : A × List Lexeme) → r ≡ Ok x → length x.1 < bound)
    → (r >>= λ first. with_first first.0 (many goes one n first.1)) ≡ (r >>= λ first. with_first first.0 (many goes one m first.1))
then_many goes one n m bound (Ok x) same short = rw (same x.1 (short x refl)) refl
then_many goes one n m bound (Err e) same short = refl

many-same : {A : Type 0} (goes : List Lexeme → Bool) (one : List Lexeme → Read A) (h : Shortens one) (n m : ℕ) (ts : List Lexeme) → length ts < n → length ts < m → many goes one n ts ≡ many goes one m ts
unfolding many
many-same goes one h zero m ts p q = absurd (omega arith)
many-same goes one h (suc n) zero ts p q = absurd (omega arith)
many-same goes one h (suc n) (suc m) ts p q =
    ap (λ r. cond (goes ts) r (Ok ([], ts))) (then_many goes one n m (length ts) (one ts) (λ us le. many-same goes one h n m us (omega arith) (omega arith)) (h.by ts))

pub all-stop : {A : Type 0} (goes : List Lexeme → Bool) (one : List Lexeme → Read A) (ts : List Lexeme) → goes ts ≡ false → all_of goes one ts ≡ Ok ([], ts)
unfolding all_of many
all-stop goes one ts stop = rw stop refl

then_all : {A : Type 0} (goes : List Lexeme → Bool) (one : List Lexeme → Read A) (h : Shortens one) (n : ℕ) (r : Read A) → ((x : A × List Lexeme) → r ≡ Ok x → length x.1 < n)
    → (r >>= λ first. with_first first.0 (many goes one n first.1)) ≡ (r >>= λ first. with_first first.0 (all_of goes one first.1))
unfolding all_of
then_all goes one h n (Ok x) short = let lt = short x refl in rw (many-same goes one h n (suc (length x.1)) x.1 lt (omega arith)) refl
then_all goes one h n (Err e) short = refl

pub all-more : {A : Type 0} (goes : List Lexeme → Bool) (one : List Lexeme → Read A) (h : Shortens one) (ts : List Lexeme) → goes ts ≡ true
    → all_of goes one ts ≡ (one ts >>= λ first. with_first first.0 (all_of goes one first.1))
unfolding all_of many
all-more goes one h ts going = rw going (then_all goes one h (length ts) (one ts) (h.by ts))

-- ---- the loop

abbrev pub with_front : {A : Type 0} → List A → Read (List A) → Read (List A)
with_front front read = read >>= λ x. Ok (front ++ x.0, x.1)

regroup : {A : Type 0} (front : List A) (x : A) (read : Read (List A)) → with_front front (with_first x read) ≡ with_front (front ++ x ∷ []) read
regroup front x (Ok others) = ap (λ (xs : List _). Ok (xs, others.1)) (sym (append_assoc front (x ∷ []) others.0))
regroup front x (Err f) = refl

bind_bind : {A B : Type 0} (front : List B) (r : Read A) (f : A × List Lexeme → Read (List B)) → with_front front (r >>= f) ≡ (r >>= λ x. with_front front (f x))
bind_bind front (Ok x) f = refl
bind_bind front (Err e) f = refl

pub goes_on : {A : Type 0} (goes : List Lexeme → Bool) (one : List Lexeme → Read A) (h : Shortens one) (front : List A) (ts : List Lexeme) (first : A × List Lexeme) (total : Read (List A))
    → goes ts ≡ true → one ts ≡ Ok first → with_front front (all_of goes one ts) ≡ total → with_front (front ++ first.0 ∷ []) (all_of goes one first.1) ≡ total
goes_on goes one h front ts first total going read so_far =
    let step : all_of goes one ts ≡ with_first first.0 (all_of goes one first.1) = rw (all-more goes one h ts going, read) refl in
    sym (regroup front first.0 (all_of goes one first.1)) ∙ ap (with_front front) (sym step) ∙ so_far

pub failed : {A B : Type 0} (e : ReadFault) (r : Result A ReadFault) (f : A → Result B ReadFault) (total : Result B ReadFault) → Fails e r → (r >>= f) ≡ total → Fails e total
failed faults.Memory r f total h so_far = tt
failed faults.TooLong r f total h so_far = sym so_far ∙ rw h refl
failed faults.BadByte r f total h so_far = sym so_far ∙ rw h refl
failed faults.Shape r f total h so_far = sym so_far ∙ rw h refl
failed faults.Name r f total h so_far = sym so_far ∙ rw h refl
failed faults.Limit r f total h so_far = sym so_far ∙ rw h refl
failed faults.Broken r f total h so_far = sym so_far ∙ rw h refl

pub ends_at_item : {A : Type 0} (e : ReadFault) (goes : List Lexeme → Bool) (one : List Lexeme → Read A) (h : Shortens one) (front : List A) (ts : List Lexeme) (total : Read (List A))
    → goes ts ≡ true → Fails e (one ts) → with_front front (all_of goes one ts) ≡ total → Fails e total
ends_at_item e goes one h front ts total going fails so_far =
    let rest = λ (first : _ × List Lexeme). with_first first.0 (all_of goes one first.1) in
    let step : with_front front (all_of goes one ts) ≡ (one ts >>= λ first. with_front front (with_first first.0 (all_of goes one first.1))) = ap (with_front front) (all-more goes one h ts going) ∙ bind_bind front (one ts) (λ first. with_first first.0 (all_of goes one first.1)) in
    failed e (one ts) (λ first. with_front front (with_first first.0 (all_of goes one first.1))) total fails (sym step ∙ so_far)

pub is_done : {A : Type 0} (goes : List Lexeme → Bool) (one : List Lexeme → Read A) (front : List A) (ts : List Lexeme) (total : Read (List A))
    → goes ts ≡ false → with_front front (all_of goes one ts) ≡ total → total ≡ Ok (front, ts)
is_done goes one front ts total stop so_far =
    sym so_far ∙ rw (all-stop goes one ts stop) (ap (λ (xs : List _). Ok (xs, ts)) (append-nil front))

-- ---- what is read is spelled so, and what is spelled so is read

-- the tokens are those of the item, and then the rest
pub record Takes {A : Type 0} (spell : A → List Lexeme) (Fits : A → Type 0) (ts : List Lexeme) (x : A × List Lexeme) : Type 0 where
  pub parts : ts ≡ spell x.0 ++ x.1
  pub fits : Fits x.0

pub record TakesAll {A : Type 0} (spell : A → List Lexeme) (Fits : A → Type 0) (ts : List Lexeme) (x : List A × List Lexeme) : Type 0 where
  pub parts : ts ≡ flat_map spell x.0 ++ x.1
  pub fits : AllByRecursion Fits x.0

abbrev pub Taking : {A : Type 0} → (A → List Lexeme) → (A → Type 0) → (List Lexeme → Read A) → Type 0
Taking {A} spell Fits one = (us : List Lexeme) (y : A × List Lexeme) → one us ≡ Ok y → Takes spell Fits us y

many_takes : {A : Type 0} (spell : A → List Lexeme) (Fits : A → Type 0) (goes : List Lexeme → Bool) (one : List Lexeme → Read A) → Taking spell Fits one
    → (n : ℕ) (ts : List Lexeme) (x : List A × List Lexeme) → many goes one n ts ≡ Ok x → TakesAll spell Fits ts x
unfolding many
many_takes spell Fits goes one taking zero ts x e = absurd cc
many_takes {A} spell Fits goes one taking (suc n) ts x e =
    elim (chosen (goes ts) (one ts >>= λ first. with_first first.0 (many goes one n first.1)) (done ([], ts)) (Ok x) e) [
      | inr p ↦ subst (TakesAll spell Fits ts) (ok_is ([], ts) x p.1) (record { parts = refl; fits = tt })
      | inl p ↦
          let f = bind_ok (one ts) (λ first. with_first first.0 (many goes one n first.1)) x p.1 in
          let o = bind_ok (many goes one n f.0.1) (λ others. Ok (f.0.0 ∷ others.0, others.1)) x f.2 in
          let first = taking ts f.0 f.1 in
          let others = many_takes spell Fits goes one taking n f.0.1 o.0 o.1 in
          let made : List A × List Lexeme = (f.0.0 ∷ o.0.0, o.0.1) in
          subst (TakesAll spell Fits ts) (ok_is made x o.2) (record {
            parts = first.parts ∙ ap (λ (us : List Lexeme). spell f.0.0 ++ us) others.parts ∙ sym (append_assoc (spell f.0.0) (flat_map spell o.0.0) o.0.1) ∙ ap (λ (us : List Lexeme). us ++ o.0.1) (sym (flat_map-cons spell f.0.0 o.0.0));
            fits = (first.fits, others.fits);
          })
    ]

pub all_takes : {A : Type 0} (spell : A → List Lexeme) (Fits : A → Type 0) (goes : List Lexeme → Bool) (one : List Lexeme → Read A) → Taking spell Fits one
    → (ts : List Lexeme) (x : List A × List Lexeme) → all_of goes one ts ≡ Ok x → TakesAll spell Fits ts x
unfolding all_of
all_takes spell Fits goes one taking ts x e = many_takes spell Fits goes one taking (suc (length ts)) ts x e

pub all_again : {A : Type 0} (spell : A → List Lexeme) (Fits : A → Type 0) (goes : List Lexeme → Bool) (one : List Lexeme → Read A) (h : Shortens one)
    → ((y : A) (rest : List Lexeme) → Fits y → one (spell y ++ rest) ≡ Ok (y, rest)) → ((y : A) (rest : List Lexeme) → goes (spell y ++ rest) ≡ true)
    → (ys : List A) (rest : List Lexeme) → AllByRecursion Fits ys → goes rest ≡ false → all_of goes one (flat_map spell ys ++ rest) ≡ Ok (ys, rest)
all_again spell Fits goes one h again going [] rest fits stop = all-stop goes one rest stop
all_again spell Fits goes one h again going (y ∷ ys) rest fits stop =
    let regrouped : flat_map spell (y ∷ ys) ++ rest ≡ spell y ++ (flat_map spell ys ++ rest) = ap (λ (us : List Lexeme). us ++ rest) (flat_map-cons spell y ys) ∙ append_assoc (spell y) (flat_map spell ys) rest in
    ap (all_of goes one) regrouped ∙ all-more goes one h (spell y ++ (flat_map spell ys ++ rest)) (going y (flat_map spell ys ++ rest)) ∙ rw (again y (flat_map spell ys ++ rest) fits.0, all_again spell Fits goes one h again going ys rest fits.1 stop) refl
