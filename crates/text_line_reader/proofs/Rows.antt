-- Lines that are read one after another, and the loops that read them.
use Rattle.std.proofs.Common.{◌≡◌, ◌∙◌, ℕ, zero, suc, Bool, true, false, cond, List, [], ◌∷◌, ◌++◌, length, map, Option, Some, None, Result, Ok, Err, refl, sym, ap, subst, append_assoc, inl, inr}
use Rattle.std.specs.List.{AllByRecursion}
use Rattle.std.proofs.lemmas.List.{append-nil}
use Rattle.text_words.specs.Answers.{◌>>=◌, Fails}
use Rattle.text_words.specs.declared.fault.ReadFault.{ReadFault}
use Rattle.text_words.proofs.Steps.{bind_ok, done, ok_is, chosen}
use Rattle.text_words.proofs.Many.{failed}
use Rattle.text_line_reader.specs.Lines.{Line, Whole, Cut, first_line}
use Rattle.text_line_reader.specs.Rows.{Read, line_at, with_first, lines_at, next_by, all_by}
use Rattle.text_line_reader.specs.Words.{given}
use Rattle.text_line_reader.proofs.Steps.{text_of, Takes, given_ok}

abbrev pub with_front : {A : Type 0} → List A → Read (List A) → Read (List A)
with_front front read = read >>= λ x. Ok (front ++ x.0, x.1)

regroup : {A : Type 0} (front : List A) (x : A) (read : Read (List A)) → with_front front (with_first x read) ≡ with_front (front ++ x ∷ []) read
regroup front x (Ok others) = ap (λ (xs : List _). Ok (xs, others.1)) (sym (append_assoc front (x ∷ []) others.0))
regroup front x (Err f) = refl

twice : {A B : Type 0} (front : List B) (r : Result A ReadFault) (f : A → Read (List B)) → with_front front (r >>= f) ≡ (r >>= λ x. with_front front (f x))
twice front (Ok x) f = refl
twice front (Err e) f = refl

-- ---- as many lines

pub lines_more : {A : Type 0} (one : List ℕ → Result A ReadFault) (n : ℕ) (front : List A) (ls : List Line) (x : A × List Line) (total : Read (List A))
    → line_at one ls ≡ Ok x → with_front front (lines_at one (suc n) ls) ≡ total → with_front (front ++ x.0 ∷ []) (lines_at one n x.1) ≡ total
lines_more one n front ls x total is so_far =
    let step : lines_at one (suc n) ls ≡ with_first x.0 (lines_at one n x.1) = rw is refl in
    sym (regroup front x.0 (lines_at one n x.1)) ∙ ap (with_front front) (sym step) ∙ so_far

pub lines_fail : {A : Type 0} (e : ReadFault) (one : List ℕ → Result A ReadFault) (n : ℕ) (front : List A) (ls : List Line) (total : Read (List A))
    → Fails e (line_at one ls) → with_front front (lines_at one (suc n) ls) ≡ total → Fails e total
lines_fail e one n front ls total fails so_far =
    failed e (line_at one ls) (λ first. with_front front (with_first first.0 (lines_at one n first.1))) total fails
    (sym (twice front (line_at one ls) (λ first. with_first first.0 (lines_at one n first.1))) ∙ so_far)

pub lines_done : {A : Type 0} (one : List ℕ → Result A ReadFault) (front : List A) (ls : List Line) (total : Read (List A))
    → with_front front (lines_at one 0 ls) ≡ total → total ≡ Ok (front, ls)
lines_done one front ls total so_far = sym so_far ∙ ap (λ (xs : List _). Ok (xs, ls)) (append-nil front)

-- ---- the lines for which a test holds

abbrev go_on : {A : Type 0} → (List ℕ → Bool) → (List ℕ → Result A ReadFault) → List Line → Option (A × List Line) → Read (List A)
go_on test one ls None = Ok ([], ls)
go_on test one ls (Some x) = with_first x.0 (all_by test one x.1)

whole_is : {A : Type 0} (test : List ℕ → Bool) (one : List ℕ → Result A ReadFault) (b : Bool) (r : Result A ReadFault) (ls all : List Line)
    → cond b (r >>= λ x. with_first x (all_by test one ls)) (Ok ([], all)) ≡ ((cond b (r >>= λ x. Ok (Some (x, ls))) (Ok None)) >>= go_on test one all)
whole_is test one true (Ok x) ls all = refl
whole_is test one true (Err e) ls all = refl
whole_is test one false r ls all = refl

all_is : {A : Type 0} (test : List ℕ → Bool) (one : List ℕ → Result A ReadFault) (ls : List Line) → all_by test one ls ≡ (next_by test one ls >>= go_on test one ls)
all_is test one [] = refl
all_is test one (Cut text ∷ ls) = refl
all_is test one (Whole text ∷ ls) = whole_is test one (test text) (one text) ls (Whole text ∷ ls)

pub all_more : {A : Type 0} (test : List ℕ → Bool) (one : List ℕ → Result A ReadFault) (front : List A) (ls : List Line) (x : A × List Line) (total : Read (List A))
    → next_by test one ls ≡ Ok (Some x) → with_front front (all_by test one ls) ≡ total → with_front (front ++ x.0 ∷ []) (all_by test one x.1) ≡ total
all_more test one front ls x total is so_far =
    let step : all_by test one ls ≡ with_first x.0 (all_by test one x.1) = all_is test one ls ∙ ap (λ r. r >>= go_on test one ls) is in
    sym (regroup front x.0 (all_by test one x.1)) ∙ ap (with_front front) (sym step) ∙ so_far

pub all_fail : {A : Type 0} (e : ReadFault) (test : List ℕ → Bool) (one : List ℕ → Result A ReadFault) (front : List A) (ls : List Line) (total : Read (List A))
    → Fails e (next_by test one ls) → with_front front (all_by test one ls) ≡ total → Fails e total
all_fail e test one front ls total fails so_far =
    failed e (next_by test one ls) (λ o. with_front front (go_on test one ls o)) total fails
    (sym (twice front (next_by test one ls) (go_on test one ls)) ∙ ap (with_front front) (sym (all_is test one ls)) ∙ so_far)

pub all_done : {A : Type 0} (test : List ℕ → Bool) (one : List ℕ → Result A ReadFault) (front : List A) (ls : List Line) (total : Read (List A))
    → next_by test one ls ≡ Ok None → with_front front (all_by test one ls) ≡ total → total ≡ Ok (front, ls)
all_done test one front ls total is so_far =
    let step : all_by test one ls ≡ done ([], ls) = all_is test one ls ∙ ap (λ r. r >>= go_on test one ls) is in
    sym so_far ∙ ap (with_front front) step ∙ ap (λ (xs : List _). done (xs, ls)) (append-nil front)

-- ---- what is read is written so, and what is written so is read

-- the line of a thing
abbrev pub line_of : {A : Type 0} → (A → List (List ℕ)) → A → Line
line_of words x = Whole (text_of (words x))

-- a reader of one line, which takes the words of what it reads, and reads them again
pub record Reads {A : Type 0} (words : A → List (List ℕ)) (Is : A → Type 0) (one : List ℕ → Result A ReadFault) : Type 0 where
  pub takes : (text : List ℕ) (x : A) → one text ≡ Ok x → Takes words Is text x
  pub again : (x : A) → Is x → one (text_of (words x)) ≡ Ok x

-- the lines are that of a thing, and then the rest
pub record TakesLine {A : Type 0} (words : A → List (List ℕ)) (Is : A → Type 0) (ls : List Line) (x : A × List Line) : Type 0 where
  pub parts : ls ≡ line_of words x.0 ∷ x.1
  pub is : Is x.0

pub record TakesLines {A : Type 0} (words : A → List (List ℕ)) (Is : A → Type 0) (ls : List Line) (x : List A × List Line) : Type 0 where
  pub parts : ls ≡ map (line_of words) x.0 ++ x.1
  pub are : AllByRecursion Is x.0

pub first_is : (ls : List Line) (x : List ℕ × List Line) → first_line ls ≡ Some x → ls ≡ Whole x.0 ∷ x.1
first_is [] x e = absurd cc
first_is (Cut text ∷ ls) x e = absurd cc
first_is (Whole text ∷ ls) x e = cc

pub line_takes : {A : Type 0} (words : A → List (List ℕ)) (Is : A → Type 0) (one : List ℕ → Result A ReadFault) → Reads words Is one
    → (ls : List Line) (x : A × List Line) → line_at one ls ≡ Ok x → TakesLine words Is ls x
unfolding line_at
line_takes words Is one reads ls x e =
    let f = bind_ok (given (first_line ls)) _ x e in
    let y = bind_ok (one f.0.0) _ x f.2 in
    let t = reads.takes f.0.0 y.0 y.1 in
    subst (TakesLine words Is ls) (ok_is (y.0, f.0.1) x y.2) (record {
      parts = first_is ls f.0 (given_ok (first_line ls) f.0 f.1) ∙ ap (λ (t : List ℕ). Whole t ∷ f.0.1) t.same;
      is = t.is;
    })

pub line_again : {A : Type 0} (words : A → List (List ℕ)) (Is : A → Type 0) (one : List ℕ → Result A ReadFault) → Reads words Is one
    → (x : A) (rest : List Line) → Is x → line_at one (line_of words x ∷ rest) ≡ Ok (x, rest)
unfolding line_at
line_again words Is one reads x rest h = rw (reads.again x h) refl

nothing_taken : {A : Type 0} (words : A → List (List ℕ)) (Is : A → Type 0) (ls : List Line) → TakesLines words Is ls ([], ls)
nothing_taken words Is ls = record { parts = refl; are = tt }

one_more : {A : Type 0} (words : A → List (List ℕ)) (Is : A → Type 0) (ls mid : List Line) (x : A) (xs : List A × List Line) → ls ≡ line_of words x ∷ mid → Is x → TakesLines words Is mid xs → TakesLines words Is ls (x ∷ xs.0, xs.1)
one_more words Is ls mid x xs e h t = record { parts = e ∙ ap (λ (us : List Line). line_of words x ∷ us) t.parts; are = (h, t.are) }

pub lines_take : {A : Type 0} (words : A → List (List ℕ)) (Is : A → Type 0) (one : List ℕ → Result A ReadFault) → Reads words Is one
    → (n : ℕ) (ls : List Line) (x : List A × List Line) → lines_at one n ls ≡ Ok x → TakesLines words Is ls x × (length x.0 ≡ n)
lines_take {A} words Is one reads zero ls x e =
    let same = ok_is ([], ls) x e in
    (subst (TakesLines words Is ls) same (nothing_taken words Is ls), ap (λ (y : List A × List Line). length y.0) (sym same))
lines_take {A} words Is one reads (suc n) ls x e =
    let f = bind_ok (line_at one ls) _ x e in
    let o = bind_ok (lines_at one n f.0.1) (λ others. done (f.0.0 ∷ others.0, others.1)) x f.2 in
    let first = line_takes words Is one reads ls f.0 f.1 in
    let others = lines_take words Is one reads n f.0.1 o.0 o.1 in
    let made : List A × List Line = (f.0.0 ∷ o.0.0, o.0.1) in
    let same = ok_is made x o.2 in (
      subst (TakesLines words Is ls) same (one_more words Is ls f.0.1 f.0.0 o.0 first.parts first.is others.0),
      ap (λ (y : List A × List Line). length y.0) (sym same) ∙ ap suc others.1,
    )

pub lines_again : {A : Type 0} (words : A → List (List ℕ)) (Is : A → Type 0) (one : List ℕ → Result A ReadFault) → Reads words Is one
    → (xs : List A) (rest : List Line) → AllByRecursion Is xs → lines_at one (length xs) (map (line_of words) xs ++ rest) ≡ Ok (xs, rest)
lines_again words Is one reads [] rest h = refl
lines_again words Is one reads (x ∷ xs) rest h =
    rw (line_again words Is one reads x (map (line_of words) xs ++ rest) h.0, lines_again words Is one reads xs rest h.1) refl

pub all_take : {A : Type 0} (words : A → List (List ℕ)) (Is : A → Type 0) (test : List ℕ → Bool) (one : List ℕ → Result A ReadFault) → Reads words Is one
    → (ls : List Line) (x : List A × List Line) → all_by test one ls ≡ Ok x → TakesLines words Is ls x
all_take words Is test one reads [] x e = subst (TakesLines words Is []) (ok_is ([], []) x e) (nothing_taken words Is [])
all_take words Is test one reads (Cut text ∷ ls) x e = subst (TakesLines words Is (Cut text ∷ ls)) (ok_is ([], Cut text ∷ ls) x e) (nothing_taken words Is (Cut text ∷ ls))
all_take {A} words Is test one reads (Whole text ∷ ls) x e =
    elim (chosen (test text) (one text >>= λ y. with_first y (all_by test one ls)) (done ([], Whole text ∷ ls)) (Ok x) e) [
      | inr p ↦ subst (TakesLines words Is (Whole text ∷ ls)) (ok_is ([], Whole text ∷ ls) x p.1) (nothing_taken words Is (Whole text ∷ ls))
      | inl p ↦
          let f = bind_ok (one text) (λ y. with_first y (all_by test one ls)) x p.1 in
          let o = bind_ok (all_by test one ls) (λ others. done (f.0 ∷ others.0, others.1)) x f.2 in
          let t = reads.takes text f.0 f.1 in
          let others = all_take words Is test one reads ls o.0 o.1 in
          let made : List A × List Line = (f.0 ∷ o.0.0, o.0.1) in
          subst (TakesLines words Is (Whole text ∷ ls)) (ok_is made x o.2) (one_more words Is (Whole text ∷ ls) ls f.0 o.0 (ap (λ (t : List ℕ). Whole t ∷ ls) t.same) t.is others)
    ]

-- the test does not hold for the first line, if there is one
abbrev pub stops : (List ℕ → Bool) → List Line → Type 0
stops test [] = Unit {0}
stops test (Cut text ∷ ls) = Unit {0}
stops test (Whole text ∷ ls) = test text ≡ false

all_stop : {A : Type 0} (test : List ℕ → Bool) (one : List ℕ → Result A ReadFault) (ls : List Line) → stops test ls → all_by test one ls ≡ Ok ([], ls)
all_stop test one [] h = refl
all_stop test one (Cut text ∷ ls) h = refl
all_stop test one (Whole text ∷ ls) h = rw h refl

pub all_again : {A : Type 0} (words : A → List (List ℕ)) (Is : A → Type 0) (test : List ℕ → Bool) (one : List ℕ → Result A ReadFault) → Reads words Is one
    → ((x : A) → Is x → test (text_of (words x)) ≡ true) → (xs : List A) (rest : List Line) → AllByRecursion Is xs → stops test rest
    → all_by test one (map (line_of words) xs ++ rest) ≡ Ok (xs, rest)
all_again words Is test one reads going [] rest h stop = all_stop test one rest stop
all_again words Is test one reads going (x ∷ xs) rest h stop =
    rw (going x h.0, reads.again x h.0, all_again words Is test one reads going xs rest h.1 stop) refl
