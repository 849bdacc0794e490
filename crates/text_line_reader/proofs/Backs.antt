-- What is told of words is written as these words.
use Rattle.std.proofs.Common.{◌≡◌, ◌∙◌, ℕ, ◌<◌, ◌≤◌, ◌^◌, true, List, [], ◌∷◌, ◌++◌, length, Result, Ok, refl, sym, ap, subst, arith}
use Rattle.std.specs.Fmt.{decimal}
use Rattle.std.specs.List.{flat_map, AllByRecursion}
use Rattle.std.specs.Str.Parse.{digits_value}
use Rattle.txn_programs.specs.declared.ast.TaskId.{TaskId}
use Rattle.txn_programs.specs.declared.limits.TheConstants.{MAX_TASKS}
use Rattle.txn_programs.specs.Listing.{Listing, tasks}
use Rattle.text_words.specs.declared.fault.ReadFault.{ReadFault}
use Rattle.text_words.proofs.Steps.{bind_ok, ok_is}
use Rattle.text_line_reader.specs.Words.{is_number}
use Rattle.text_line_reader.specs.Counts.{below, task_id}
use Rattle.text_line_reader.specs.Rows.{each}
use Rattle.text_line_reader.proofs.Numbers.{number_written, below_gives}

pub record TaskBack (l : Listing) (text : List ℕ) (task : TaskId) : Type 0 where
  pub written : decimal task.0 ≡ text
  pub known : task.0 < length (tasks l)

pub task_id_back : (l : Listing) (text : List ℕ) (task : TaskId) → length (tasks l) ≤ MAX_TASKS → is_number text ≡ true → task_id l text ≡ Ok task → TaskBack l text task
unfolding task_id
task_id_back l text task few h e =
    let n = bind_ok (below (length (tasks l)) (digits_value 10 text)) _ task e in
    let b = below_gives (length (tasks l)) (digits_value 10 text) n.0 n.1 in
    let same = b.0 in
    let lt = b.1 in
    let small : digits_value 10 text < 2 ^ 64 = omega arith in
    let made : TaskId = record { 0 = n.0 } in
    subst (TaskBack l text) (ok_is made task n.2) (record { written = ap decimal (sym same) ∙ number_written text h small; known = lt })

-- side by side
abbrev pub Pairs : {A B : Type 0} → (A → B → Type 0) → List A → List B → Type 0
Pairs R [] [] = Unit {0}
Pairs R [] (y ∷ ys) = ⊥
Pairs R (x ∷ xs) [] = ⊥
Pairs R (x ∷ xs) (y ∷ ys) = R x y × Pairs R xs ys

pub each_back : {A B : Type 0} (Is : A → Type 0) (R : A → B → Type 0) (one : A → Result B ReadFault) → ((x : A) (y : B) → Is x → one x ≡ Ok y → R x y)
    → (xs : List A) (ys : List B) → AllByRecursion Is xs → each one xs ≡ Ok ys → Pairs R xs ys
each_back Is R one back [] ys h e = subst (Pairs R []) (ok_is [] ys e) tt
each_back Is R one back (x ∷ xs) ys h e =
    let a = bind_ok (one x) _ ys e in
    let b = bind_ok (each one xs) _ ys a.2 in
    subst (Pairs R (x ∷ xs)) (ok_is (a.0 ∷ b.0) ys b.2) (back x a.0 h.0 a.1, each_back Is R one back xs b.0 h.1 b.1)

pub pairs_text : {A B : Type 0} (R : A → B → Type 0) (f : A → List ℕ) (g : B → List ℕ) → ((x : A) (y : B) → R x y → f x ≡ g y) → (xs : List A) (ys : List B) → Pairs R xs ys → flat_map f xs ≡ flat_map g ys
pairs_text R f g same [] [] h = refl
pairs_text R f g same [] (y ∷ ys) h = absurd h
pairs_text R f g same (x ∷ xs) [] h = absurd h
pairs_text R f g same (x ∷ xs) (y ∷ ys) h = ap (λ (t : List ℕ). t ++ flat_map f xs) (same x y h.0) ∙ ap (λ (t : List ℕ). g y ++ t) (pairs_text R f g same xs ys h.1)

pub pairs_all : {A B : Type 0} (R : A → B → Type 0) (P : B → Type 0) → ((x : A) (y : B) → R x y → P y) → (xs : List A) (ys : List B) → Pairs R xs ys → AllByRecursion P ys
pairs_all R P each [] [] h = tt
pairs_all R P each [] (y ∷ ys) h = absurd h
pairs_all R P each (x ∷ xs) [] h = absurd h
pairs_all R P each (x ∷ xs) (y ∷ ys) h = (each x y h.0, pairs_all R P each xs ys h.1)
