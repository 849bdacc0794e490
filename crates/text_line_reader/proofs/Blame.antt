-- Which faults each step may have.
use Rattle.std.proofs.Common.{◌≡◌, ℕ, zero, suc, Bool, true, false, cond, List, [], ◌∷◌, Option, Some, None, Result, Ok, Err, ap, length}
use Rattle.std.specs.Prelude.{nat_lt}
use Rattle.std.specs.List.{list_all}
use Rattle.std.specs.Str.{bytes_eq}
use Rattle.std.specs.Str.Parse.{digits_value}
use Rattle.std.proofs.lemmas.Bool.{and_parts}
use Rattle.txn_programs.specs.Listing.{Listing, tasks}
use Rattle.txn_programs.specs.Names.{is_name}
use Rattle.text_words.specs.Bytes.{is_int}
use Rattle.text_words.specs.Answers.{◌>>=◌}
use Rattle.text_words.specs.declared.fault.ReadFault.{ReadFault}
use Rattle.text_words.specs.declared.fault.ReadFault.TheVariants as faults
use Rattle.text_words.proofs.Steps.{done}
use Rattle.text_line_reader.specs.Lines.{Line, Whole, Cut, first_line, parted}
use Rattle.text_line_reader.specs.Words.{is_number, given, first_word, name_in, int_in, number_in, expect, behind, after_word, cell_in}
use Rattle.text_line_reader.specs.Rows.{line_at, lines_at, all_by, end_at, each}
use Rattle.text_line_reader.specs.Counts.{below, task_id}

-- a fault of the result is of this kind
pub record Only {A : Type 0} (kind : ReadFault) (r : Result A ReadFault) : Type 0 where
  pub by : (e : ReadFault) → r ≡ Err e → e ≡ kind

abbrev pub bad : {A : Type 0} → ReadFault → Result A ReadFault
bad e = Err e

pub ok : {A : Type 0} (kind : ReadFault) (x : A) → Only kind (done x)
ok kind x = record { by = λ e h. absurd cc }

pub err : {A : Type 0} (kind : ReadFault) → Only {A = A} kind (bad kind)
err kind = record { by = λ e h. cc }

pub then : {A B : Type 0} (kind : ReadFault) (r : Result A ReadFault) (g : A → Result B ReadFault) → Only kind r → ((x : A) → Only kind (g x)) → Only kind (r >>= g)
then kind (Ok x) g p q = q x
then kind (Err d) g p q = record { by = λ e h. let s : d ≡ e = cc in p.by e (ap bad s) }

pub either : {A : Type 0} (kind : ReadFault) (b : Bool) (x y : Result A ReadFault) → Only kind x → Only kind y → Only kind (cond b x y)
either kind true x y p q = p
either kind false x y p q = q

abbrev pub IsShape : {A : Type 0} → Result A ReadFault → Type 0
IsShape r = Only faults.Shape r

given_shape : {A : Type 0} (o : Option A) → IsShape (given o)
given_shape None = err faults.Shape
given_shape (Some x) = ok faults.Shape x

pub word_shape : (text : List ℕ) → IsShape (first_word text)
unfolding first_word
word_shape text = given_shape (parted 32 text)

tested_shape : (b : Bool) (text : List ℕ) → IsShape (let r : Result (List ℕ) ReadFault = cond b (Ok text) (Err faults.Shape) in r)
tested_shape b text = either faults.Shape b (done text) (bad faults.Shape) (ok faults.Shape text) (err faults.Shape)

pub name_shape : (text : List ℕ) → IsShape (name_in text)
unfolding name_in
name_shape text = tested_shape (is_name text) text

pub int_shape : (text : List ℕ) → IsShape (int_in text)
unfolding int_in
int_shape text = tested_shape (is_int text) text

pub number_shape : (text : List ℕ) → IsShape (number_in text)
unfolding number_in
number_shape text = tested_shape (is_number text) text

pub expect_shape : (wanted text : List ℕ) → IsShape (expect wanted text)
unfolding expect
expect_shape wanted text = either faults.Shape (bytes_eq text wanted) (done tt) (bad faults.Shape) (ok faults.Shape tt) (err faults.Shape)

pub after_shape : (wanted text : List ℕ) → IsShape (after_word wanted text)
unfolding after_word
after_shape wanted text = given_shape (behind wanted text)

pub cell_shape : (text : List ℕ) → IsShape (cell_in text)
unfolding cell_in
cell_shape text =
    then faults.Shape _ _ (given_shape (parted 91 text)) (λ first. then faults.Shape _ _ (given_shape (parted 93 first.1)) (λ second. then faults.Shape _ _ (expect_shape [] second.1)
    (λ nothing. then faults.Shape _ _ (name_shape first.0) (λ name. then faults.Shape _ _ (number_shape second.0) (λ index. ok faults.Shape _)))))

pub line_shape : {A : Type 0} (one : List ℕ → Result A ReadFault) → ((text : List ℕ) → IsShape (one text)) → (ls : List Line) → IsShape (line_at one ls)
unfolding line_at
line_shape one h ls = then faults.Shape _ _ (given_shape (first_line ls)) (λ first. then faults.Shape _ _ (h first.0) (λ x. ok faults.Shape _))

pub lines_shape : {A : Type 0} (one : List ℕ → Result A ReadFault) → ((text : List ℕ) → IsShape (one text)) → (n : ℕ) (ls : List Line) → IsShape (lines_at one n ls)
lines_shape one h zero ls = ok faults.Shape _
lines_shape one h (suc n) ls = then faults.Shape _ _ (line_shape one h ls) (λ first. then faults.Shape _ _ (lines_shape one h n first.1) (λ others. ok faults.Shape _))

pub all_shape : {A : Type 0} (test : List ℕ → Bool) (one : List ℕ → Result A ReadFault) → ((text : List ℕ) → IsShape (one text)) → (ls : List Line) → IsShape (all_by test one ls)
all_shape test one h [] = ok faults.Shape _
all_shape test one h (Cut text ∷ ls) = ok faults.Shape _
all_shape test one h (Whole text ∷ ls) =
    either faults.Shape (test text) _ _ (then faults.Shape _ _ (h text) (λ x. then faults.Shape _ _ (all_shape test one h ls) (λ others. ok faults.Shape _))) (ok faults.Shape _)

pub end_shape : (ls : List Line) → IsShape (end_at ls)
unfolding end_at
end_shape [] = ok faults.Shape tt
end_shape (l ∷ ls) = err faults.Shape

abbrev pub IsLimit : {A : Type 0} → Result A ReadFault → Type 0
IsLimit r = Only faults.Limit r

pub below_limit : (bound n : ℕ) → IsLimit (below bound n)
unfolding below
below_limit bound n = either faults.Limit (nat_lt n bound) (done n) (bad faults.Limit) (ok faults.Limit n) (err faults.Limit)

pub task_id_limit : (l : Listing) (text : List ℕ) → IsLimit (task_id l text)
unfolding task_id
task_id_limit l text = then faults.Limit _ _ (below_limit (length (tasks l)) (digits_value 10 text)) (λ n. ok faults.Limit _)

pub each_limit : {A B : Type 0} (p : A → Bool) (one : A → Result B ReadFault) → ((x : A) → p x ≡ true → IsLimit (one x)) → (xs : List A) → list_all p xs ≡ true → IsLimit (each one xs)
each_limit p one h [] all = ok faults.Limit _
each_limit p one h (x ∷ xs) all =
    let a = and_parts (p x) (list_all p xs) all in
    then faults.Limit _ _ (h x a.0) (λ y. then faults.Limit _ _ (each_limit p one h xs a.1) (λ ys. ok faults.Limit _))

pub any_limit : {A B : Type 0} (one : A → Result B ReadFault) → ((x : A) → IsLimit (one x)) → (xs : List A) → IsLimit (each one xs)
any_limit one h [] = ok faults.Limit _
any_limit one h (x ∷ xs) = then faults.Limit _ _ (h x) (λ y. then faults.Limit _ _ (any_limit one h xs) (λ ys. ok faults.Limit _))
