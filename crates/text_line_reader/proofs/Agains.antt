-- What is told is told again of the words that are written of it.
use Rattle.std.proofs.Common.{◌≡◌, ◌∙◌, ℕ, ◌<◌, ◌≤◌, Bool, true, List, [], ◌∷◌, ◌++◌, length, map, Result, Ok, refl, ap, arith}
use Rattle.std.specs.Fmt.{decimal}
use Rattle.std.specs.List.{flat_map, list_all, AllByRecursion}
use Rattle.std.proofs.lemmas.Bool.{and_from}
use Rattle.txn_programs.specs.declared.ast.TaskId.{TaskId}
use Rattle.txn_programs.specs.declared.limits.TheConstants.{MAX_TASKS}
use Rattle.txn_programs.specs.Listing.{Listing, tasks}
use Rattle.text_words.specs.declared.fault.ReadFault.{ReadFault}
use Rattle.text_line_reader.specs.Words.{is_number}
use Rattle.text_line_reader.specs.Counts.{task_id}
use Rattle.text_line_reader.specs.Rows.{each}
use Rattle.text_line_reader.proofs.Numbers.{decimal_number, decimal_value, below_is}

pub task_id_again : (l : Listing) (task : TaskId) → length (tasks l) ≤ MAX_TASKS → task.0 < length (tasks l) → task_id l (decimal task.0) ≡ Ok task
unfolding task_id
task_id_again l task few lt = rw (decimal_value task.0 (omega arith), below_is (length (tasks l)) task.0 lt) refl

pub small : (n : ℕ) → n ≤ MAX_TASKS → is_number (decimal n) ≡ true
small n h = decimal_number n (omega arith)

pub each_again : {A B : Type 0} (P : B → Type 0) (w : B → A) (one : A → Result B ReadFault) → ((y : B) → P y → one (w y) ≡ Ok y) → (ys : List B) → AllByRecursion P ys → each one (map w ys) ≡ Ok ys
each_again P w one again [] h = refl
each_again P w one again (y ∷ ys) h = rw (again y h.0, each_again P w one again ys h.1) refl

pub all_again : {A B : Type 0} (P : B → Type 0) (Q : A → Type 0) (w : B → A) → ((y : B) → P y → Q (w y)) → (ys : List B) → AllByRecursion P ys → AllByRecursion Q (map w ys)
all_again P Q w again [] h = tt
all_again P Q w again (y ∷ ys) h = (again y h.0, all_again P Q w again ys h.1)

pub tests_again : {A B : Type 0} (P : B → Type 0) (q : A → Bool) (w : B → A) → ((y : B) → P y → q (w y) ≡ true) → (ys : List B) → AllByRecursion P ys → list_all q (map w ys) ≡ true
tests_again P q w again [] h = refl
tests_again P q w again (y ∷ ys) h = and_from _ _ (again y h.0) (tests_again P q w again ys h.1)

pub text_again : {A B : Type 0} (P : B → Type 0) (w : B → A) (f : B → List ℕ) (g : A → List ℕ) → ((y : B) → P y → f y ≡ g (w y)) → (ys : List B) → AllByRecursion P ys → flat_map f ys ≡ flat_map g (map w ys)
text_again P w f g same [] h = refl
text_again P w f g same (y ∷ ys) h = ap (λ (t : List ℕ). t ++ flat_map f ys) (same y h.0) ∙ ap (λ (t : List ℕ). g (w y) ++ t) (text_again P w f g same ys h.1)
