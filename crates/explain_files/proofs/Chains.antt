-- Steps of reading one behind the other, of which only the tokens left are kept.
use Rattle.std.proofs.Common.{◌≡◌, ℕ, suc, ◌-◌, false, eqb, List, Some, None, Result, Ok, Err, refl, ap, ◌∙◌, arith}
use Rattle.std.proofs.lemmas.Bool.{ne_eqb}
use Rattle.text_words.specs.Tokens.{Lexeme}
use Rattle.text_words.specs.Answers.{◌>>=◌}
use Rattle.text_words.specs.TokenReading.{Read, with_first}
use Rattle.text_words.specs.declared.fault.ReadFault.{ReadFault}
use Rattle.explain_files.specs.declared.wanted.Wanted.{Wanted}
use Rattle.explain_files.specs.Forms.{deeper}
use Rattle.explain_files.specs.Wanting.{Left, Whole, left_of, kept, none_left, ◌▷◌}

-- one step, and what comes behind it
pub left_to : {A B : Type 0} (r : Read A) (f : A × List Lexeme → Read B) (k g : List Lexeme → Left) → ((x : A × List Lexeme) → (left_of (f x) ▷ k) ≡ g x.1) → (left_of (r >>= f) ▷ k) ≡ (left_of r ▷ g)
left_to (Ok x) f k g e = e x
left_to (Err d) f k g e = refl

-- the last step, whose tokens are those that are left
pub close_to : {B : Type 0} (c : Result (List Lexeme) ReadFault) (made : B) (k : List Lexeme → Left) → (left_of (c >>= λ rest. Ok (made, rest)) ▷ k) ≡ (kept c ▷ k)
close_to (Ok rest) made k = refl
close_to (Err d) made k = refl

-- a step behind which nothing is read
pub none_to : {A B : Type 0} (r : Read A) (f : A × List Lexeme → Read B) (k : List Lexeme → Left) → ((x : A × List Lexeme) → left_of (f x) ≡ None) → (left_of (r >>= f) ▷ k) ≡ None
none_to (Ok x) f k e = ap (λ (l : Left). l ▷ k) (e x)
none_to (Err d) f k e = refl

-- one step, behind which all is read to the end
pub whole_to : {A : Type 0} (r : Read A) (f : A × List Lexeme → Whole) (g : List Lexeme → Left) → ((x : A × List Lexeme) → none_left (f x) ≡ g x.1) → none_left (r >>= f) ≡ (left_of r ▷ g)
whole_to (Ok x) f g e = e x
whole_to (Err d) f g e = refl

-- the first item of some, and the others with what comes behind them
pub first_to : {A : Type 0} (r : Read A) (others : List Lexeme → Read (List A)) (f : List Lexeme → Whole) (g : List Lexeme → Whole) → ((ts : List Lexeme) → (others ts >>= λ x. f x.1) ≡ g ts)
    → none_left ((r >>= λ first. with_first first.0 (others first.1)) >>= λ x. f x.1) ≡ (left_of r ▷ λ ts. none_left (g ts))
first_to (Ok x) others f g e = ap none_left (after (others x.1) ∙ e x.1)
  where
    after : (r : Read (List _)) → (with_first x.0 r >>= λ y. f y.1) ≡ (r >>= λ y. f y.1)
    after (Ok y) = refl
    after (Err d) = refl
first_to (Err d) others f g e = refl

pub then_then : (l : Left) (f k : List Lexeme → Left) → ((l ▷ f) ▷ k) ≡ (l ▷ λ us. f us ▷ k)
then_then (Some ts) f k = refl
then_then None f k = refl

pub then_to : (l : Left) (f g : List Lexeme → Left) → ((ts : List Lexeme) → f ts ≡ g ts) → (l ▷ f) ≡ (l ▷ g)
then_to (Some ts) f g e = e ts
then_to None f g e = refl

-- one parenthesis more
deeper_no : (depth : ℕ) (more : List Wanted) → eqb depth 0 ≡ false → deeper depth more ≡ Some more
deeper_no depth more h = rw h refl

pub deeper_suc : (depth : ℕ) (more : ℕ → List Wanted) → deeper (suc depth) (more (suc depth - 1)) ≡ Some (more depth)
deeper_suc depth more =
    let one_less : suc depth - 1 ≡ depth = omega arith in
    deeper_no (suc depth) (more (suc depth - 1)) (ne_eqb (suc depth) 0 (omega arith)) ∙ ap (λ (n : ℕ). Some (more n)) one_less
