-- What single steps of reading take, and what they read again.
use Rattle.std.proofs.Common.{◌≡◌, ℕ, Bool, true, false, cond, List, [], ◌∷◌, Result, Ok, Err, refl, ap, ◌∙◌, ◌⊎◌, inl, inr}
use Rattle.std.specs.Prelude.{ℤ}
use Rattle.std.specs.Str.{bytes_eq}
use Rattle.std.proofs.lemmas.Slice.Eq.{bytes_eq-Decides}
use Rattle.text_words.specs.Tokens.{Lexeme, Opens, Closes}
use Rattle.text_words.specs.Tokens as token
use Rattle.text_words.specs.declared.fault.ReadFault.{ReadFault}
use Rattle.text_words.specs.declared.fault.ReadFault.TheVariants.{Shape}
use Rattle.text_words.specs.Answers.{◌>>=◌}
use Rattle.text_words.specs.TokenReading.{next_at, as_name, as_close, name_at, close_at, as_open, open_at, as_int, int_at, word_at, form_at}

-- the value of a step that did not fail
pub bind_ok : {A B : Type 0} (r : Result A ReadFault) (f : A → Result B ReadFault) (y : B) → (r >>= f) ≡ Ok y → (x : A) × (r ≡ Ok x) × (f x ≡ Ok y)
bind_ok (Ok x) f y e = (x, refl, e)
bind_ok (Err d) f y e = absurd cc

abbrev pub done : {A : Type 0} → A → Result A ReadFault
done x = Ok x

pub ok_is : {A : Type 0} (x y : A) → done x ≡ done y → x ≡ y
ok_is x y e = cc

-- a choice by a test
pub chosen : {A : Type 0} (b : Bool) (x y z : A) → cond b x y ≡ z → ((b ≡ true) × (x ≡ z)) ⊎ ((b ≡ false) × (y ≡ z))
chosen true x y z e = inl (refl, e)
chosen false x y z e = inr (refl, e)

pub next_takes : (ts : List Lexeme) (x : Lexeme × List Lexeme) → next_at ts ≡ Ok x → ts ≡ x.0 ∷ x.1
next_takes [] x e = absurd cc
next_takes (t ∷ ts) x e = ap (λ (y : Lexeme × List Lexeme). y.0 ∷ y.1) (ok_is (t, ts) x e)

as_name-is : (t : Lexeme) (name : List ℕ) → as_name t ≡ Ok name → t ≡ token.Name name
as_name-is (token.Name text) name e = ap token.Name (ok_is text name e)
as_name-is t name e = absurd cc

as_int-is : (t : Lexeme) (value : ℤ) → as_int t ≡ Ok value → t ≡ token.Int value
as_int-is (token.Int z) value e = ap token.Int (ok_is z value e)
as_int-is t value e = absurd cc

as_close-is : (t : Lexeme) (u : Unit {0}) → as_close t ≡ Ok u → t ≡ Closes
as_close-is Closes u e = refl
as_close-is t u e = absurd cc

as_open-is : (t : Lexeme) (u : Unit {0}) → as_open t ≡ Ok u → t ≡ Opens
as_open-is Opens u e = refl
as_open-is t u e = absurd cc

pub name_takes : (ts : List Lexeme) (x : List ℕ × List Lexeme) → name_at ts ≡ Ok x → ts ≡ token.Name x.0 ∷ x.1
unfolding name_at
name_takes ts x e =
    let a = bind_ok (next_at ts) _ x e in
    let b = bind_ok (as_name a.0.0) _ x a.2 in
    next_takes ts a.0 a.1 ∙ ap (λ (t : Lexeme). t ∷ a.0.1) (as_name-is a.0.0 b.0 b.1) ∙ ap (λ (y : List ℕ × List Lexeme). token.Name y.0 ∷ y.1) (ok_is (b.0, a.0.1) x b.2)

pub int_takes : (ts : List Lexeme) (x : ℤ × List Lexeme) → int_at ts ≡ Ok x → ts ≡ token.Int x.0 ∷ x.1
unfolding int_at
int_takes ts x e =
    let a = bind_ok (next_at ts) _ x e in
    let b = bind_ok (as_int a.0.0) _ x a.2 in
    next_takes ts a.0 a.1 ∙ ap (λ (t : Lexeme). t ∷ a.0.1) (as_int-is a.0.0 b.0 b.1) ∙ ap (λ (y : ℤ × List Lexeme). token.Int y.0 ∷ y.1) (ok_is (b.0, a.0.1) x b.2)

pub close_takes : (ts rest : List Lexeme) → close_at ts ≡ Ok rest → ts ≡ Closes ∷ rest
unfolding close_at
close_takes ts rest e =
    let a = bind_ok (next_at ts) _ rest e in
    let b = bind_ok (as_close a.0.0) _ rest a.2 in
    next_takes ts a.0 a.1 ∙ ap (λ (t : Lexeme). t ∷ a.0.1) (as_close-is a.0.0 b.0 b.1) ∙ ap (λ (y : List Lexeme). Closes ∷ y) (ok_is a.0.1 rest b.2)

pub open_takes : (ts rest : List Lexeme) → open_at ts ≡ Ok rest → ts ≡ Opens ∷ rest
unfolding open_at
open_takes ts rest e =
    let a = bind_ok (next_at ts) _ rest e in
    let b = bind_ok (as_open a.0.0) _ rest a.2 in
    next_takes ts a.0 a.1 ∙ ap (λ (t : Lexeme). t ∷ a.0.1) (as_open-is a.0.0 b.0 b.1) ∙ ap (λ (y : List Lexeme). Opens ∷ y) (ok_is a.0.1 rest b.2)

pub word_takes : (ts : List Lexeme) (x : List ℕ × List Lexeme) → word_at ts ≡ Ok x → ts ≡ Opens ∷ token.Name x.0 ∷ x.1
unfolding word_at
word_takes ts x e =
    let o = bind_ok (open_at ts) _ x e in
    open_takes ts o.0 o.1 ∙ ap (λ (us : List Lexeme). Opens ∷ us) (name_takes o.0 x o.2)

pub form_takes : (word : List ℕ) (ts rest : List Lexeme) → form_at word ts ≡ Ok rest → ts ≡ Opens ∷ token.Name word ∷ rest
unfolding form_at
form_takes word ts rest e =
    let w = bind_ok (word_at ts) _ rest e in
    elim (chosen (bytes_eq w.0.0 word) (done w.0.1) (Err Shape) (Ok rest) w.2) [
      | inl p ↦ word_takes ts w.0 w.1 ∙ ap (λ (text : List ℕ). Opens ∷ token.Name text ∷ w.0.1) ((bytes_eq-Decides w.0.0 word).0 p.0) ∙ ap (λ (us : List Lexeme). Opens ∷ token.Name word ∷ us) (ok_is w.0.1 rest p.1)
      | inr p ↦ absurd (let h = p.1 in cc)
    ]

pub name_again : (name : List ℕ) (rest : List Lexeme) → name_at (token.Name name ∷ rest) ≡ Ok (name, rest)
unfolding name_at
name_again name rest = refl

pub int_again : (value : ℤ) (rest : List Lexeme) → int_at (token.Int value ∷ rest) ≡ Ok (value, rest)
unfolding int_at
int_again value rest = refl

pub close_again : (rest : List Lexeme) → close_at (Closes ∷ rest) ≡ Ok rest
unfolding close_at
close_again rest = refl

pub open_again : (rest : List Lexeme) → open_at (Opens ∷ rest) ≡ Ok rest
unfolding open_at
open_again rest = refl

pub word_again : (word : List ℕ) (rest : List Lexeme) → word_at (Opens ∷ token.Name word ∷ rest) ≡ Ok (word, rest)
unfolding word_at open_at name_at
word_again word rest = refl

pub form_again : (word : List ℕ) (rest : List Lexeme) → form_at word (Opens ∷ token.Name word ∷ rest) ≡ Ok rest
unfolding form_at word_at open_at name_at
form_again word rest = rw ((bytes_eq-Decides word word).1 refl) refl

-- another word does not begin the form
pub form_other : (word other : List ℕ) (rest : List Lexeme) → bytes_eq other word ≡ false → form_at word (Opens ∷ token.Name other ∷ rest) ≡ Err Shape
unfolding form_at word_at open_at name_at
form_other word other rest h = rw h refl

-- a test of a word that is one of a list of tests
pub worded : {K : Type 0} (text : K → List ℕ) (word wanted : List ℕ) (k kind : K) (next : Result K ReadFault) → wanted ≡ text k → (next ≡ Ok kind → word ≡ text kind)
    → cond (bytes_eq word wanted) (Ok k) next ≡ Ok kind → word ≡ text kind
worded text word wanted k kind next is others e =
    elim (chosen (bytes_eq word wanted) (done k) next (Ok kind) e) [
      | inl p ↦ (bytes_eq-Decides word wanted).0 p.0 ∙ is ∙ ap text (ok_is k kind p.1)
      | inr p ↦ others p.1
    ]
