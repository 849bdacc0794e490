-- Names one behind the other, integers one behind the other, and the lists that a form has.
use Rattle.std.proofs.Common.{◌≡◌, ℕ, true, false, List, [], ◌∷◌, ◌++◌, map, Ok, Err, refl, sym, ap, subst, ◌∙◌, append_assoc, arith}
use Rattle.std.specs.Prelude.{ℤ}
use Rattle.std.specs.List.{flat_map, AllByRecursion}
use Rattle.std.proofs.lemmas.List.Concat.{flat_map-cons}
use Rattle.text_words.specs.Tokens.{Lexeme, Opens, Closes}
use Rattle.text_words.specs.Tokens as token
use Rattle.text_words.specs.declared.fault.ReadFault.{ReadFault}
use Rattle.text_words.specs.declared.fault.ReadFault.TheVariants.{Shape}
use Rattle.text_words.specs.Answers.{Fails}
use Rattle.text_words.specs.TokenReading.{open_at, close_at, name_at, int_at, is_name, is_int, all_of}
use Rattle.text_words.proofs.Steps.{bind_ok, ok_is, name_takes, name_again, int_takes, int_again, open_takes, open_again, close_takes, close_again}
use Rattle.text_words.proofs.Many.{Shortens, Takes, Taking, all_takes, all_again}
use Rattle.text_grammar.specs.Tree.{list_tokens}
use Rattle.text_grammar.specs.Reading.{list_at, parameters_at, arguments_at}
use Rattle.text_grammar.specs.declared.file.FileForm.{FileForm}
use Rattle.text_grammar.specs.declared.file.FileForm.TheVariants.{One, Two, Three}

-- what holds of each holds of all
pub everywhere : {A : Type 0} (P : A → Type 0) → ((x : A) → P x) → (xs : List A) → AllByRecursion P xs
everywhere P each [] = tt
everywhere P each (x ∷ xs) = (each x, everywhere P each xs)

abbrev pub Any : {A : Type 0} → A → Type 0
Any x = Unit {0}

pub any : {A : Type 0} (xs : List A) → AllByRecursion Any xs
any xs = everywhere Any (λ x. tt) xs

-- items of one token each
one_each : {A : Type 0} (spell : A → Lexeme) (xs : List A) → flat_map (λ x. spell x ∷ []) xs ≡ map spell xs
one_each spell [] = refl
one_each spell (x ∷ xs) = flat_map-cons (λ y. spell y ∷ []) x xs ∙ ap (λ (us : List Lexeme). spell x ∷ us) (one_each spell xs)

-- ---- names

abbrev named : List ℕ → List Lexeme
named name = token.Name name ∷ []

pub name_shortens : Shortens name_at
name_shortens = record { by = λ ts x e. rw (name_takes ts x e) (omega arith) }

pub is_name_next : (ts : List Lexeme) (x : List ℕ × List Lexeme) → name_at ts ≡ Ok x → is_name ts ≡ true
unfolding is_name
is_name_next ts x e = rw e refl

pub no_name_next : (ts : List Lexeme) (e : ReadFault) → e ≡ Shape → Fails e (name_at ts) → is_name ts ≡ false
unfolding is_name
no_name_next ts e kind fails =
    let none : name_at ts ≡ Err Shape = subst (λ (x : ReadFault). Fails x (name_at ts)) kind fails in
    rw none refl

name_goes : (name : List ℕ) (rest : List Lexeme) → is_name (token.Name name ∷ rest) ≡ true
unfolding is_name name_at
name_goes name rest = refl

pub names_stop : (rest : List Lexeme) → is_name (Closes ∷ rest) ≡ false
unfolding is_name name_at
names_stop rest = refl

pub names_take : (ts : List Lexeme) (x : List (List ℕ) × List Lexeme) → all_of is_name name_at ts ≡ Ok x → ts ≡ map token.Name x.0 ++ x.1
names_take ts x e =
    let takes : Taking named Any name_at = λ us y h. record { parts = name_takes us y h; fits = tt } in
    (all_takes named Any is_name name_at takes ts x e).parts ∙ ap (λ (us : List Lexeme). us ++ x.1) (one_each token.Name x.0)

pub names_again : (names : List (List ℕ)) (rest : List Lexeme) → is_name rest ≡ false → all_of is_name name_at (map token.Name names ++ rest) ≡ Ok (names, rest)
names_again names rest stop =
    ap (λ (us : List Lexeme). all_of is_name name_at (us ++ rest)) (sym (one_each token.Name names))
    ∙ all_again named Any is_name name_at name_shortens (λ name more h. name_again name more) name_goes names rest (any names) stop

-- ---- integers

abbrev numbered : ℤ → List Lexeme
numbered value = token.Int value ∷ []

pub int_shortens : Shortens int_at
int_shortens = record { by = λ ts x e. rw (int_takes ts x e) (omega arith) }

pub is_int_next : (ts : List Lexeme) (x : ℤ × List Lexeme) → int_at ts ≡ Ok x → is_int ts ≡ true
unfolding is_int
is_int_next ts x e = rw e refl

pub no_int_next : (ts : List Lexeme) (e : ReadFault) → e ≡ Shape → Fails e (int_at ts) → is_int ts ≡ false
unfolding is_int
no_int_next ts e kind fails =
    let none : int_at ts ≡ Err Shape = subst (λ (x : ReadFault). Fails x (int_at ts)) kind fails in
    rw none refl

int_goes : (value : ℤ) (rest : List Lexeme) → is_int (token.Int value ∷ rest) ≡ true
unfolding is_int int_at
int_goes value rest = refl

pub ints_stop : (rest : List Lexeme) → is_int (Closes ∷ rest) ≡ false
unfolding is_int int_at
ints_stop rest = refl

pub ints_take : (ts : List Lexeme) (x : List ℤ × List Lexeme) → all_of is_int int_at ts ≡ Ok x → ts ≡ map token.Int x.0 ++ x.1
ints_take ts x e =
    let takes : Taking numbered Any int_at = λ us y h. record { parts = int_takes us y h; fits = tt } in
    (all_takes numbered Any is_int int_at takes ts x e).parts ∙ ap (λ (us : List Lexeme). us ++ x.1) (one_each token.Int x.0)

pub ints_again : (values : List ℤ) (rest : List Lexeme) → is_int rest ≡ false → all_of is_int int_at (map token.Int values ++ rest) ≡ Ok (values, rest)
ints_again values rest stop =
    ap (λ (us : List Lexeme). all_of is_int int_at (us ++ rest)) (sym (one_each token.Int values))
    ∙ all_again numbered Any is_int int_at int_shortens (λ value more h. int_again value more) int_goes values rest (any values) stop

-- ---- the lists of a form

-- there are none, but in form 3
abbrev pub HasRoom : {A : Type 0} → FileForm → List A → Type 0
HasRoom One xs = xs ≡ []
HasRoom Two xs = xs ≡ []
HasRoom Three xs = Unit {0}

pub list_takes : (ts : List Lexeme) (x : List (List ℕ) × List Lexeme) → list_at ts ≡ Ok x → ts ≡ list_tokens Three x.0 ++ x.1
unfolding list_at
list_takes ts x e =
    let o = bind_ok (open_at ts) _ x e in
    let n = bind_ok (all_of is_name name_at o.0) _ x o.2 in
    let c = bind_ok (close_at n.0.1) _ x n.2 in
    let made : List (List ℕ) × List Lexeme = (n.0.0, c.0) in
    let inside : o.0 ≡ map token.Name n.0.0 ++ (Closes ∷ c.0) = names_take o.0 n.0 n.1 ∙ ap (λ (us : List Lexeme). map token.Name n.0.0 ++ us) (close_takes n.0.1 c.0 c.1) in
    subst (λ (y : List (List ℕ) × List Lexeme). ts ≡ list_tokens Three y.0 ++ y.1) (ok_is made x c.2) (open_takes ts o.0 o.1 ∙ ap (λ (us : List Lexeme). Opens ∷ us) (inside ∙ sym (simp append_assoc)))

pub list_again : (names : List (List ℕ)) (rest : List Lexeme) → list_at (list_tokens Three names ++ rest) ≡ Ok (names, rest)
unfolding list_at
list_again names rest =
    let regrouped : (map token.Name names ++ (Closes ∷ [])) ++ rest ≡ map token.Name names ++ (Closes ∷ rest) = simp append_assoc in
    rw (regrouped, open_again (map token.Name names ++ (Closes ∷ rest)), names_again names (Closes ∷ rest) (names_stop rest), close_again rest) refl

pub parameters_take : (form : FileForm) → Taking (list_tokens form) (HasRoom form) (parameters_at form)
unfolding parameters_at
parameters_take One ts x e = subst (Takes (list_tokens One) (HasRoom One) ts) (ok_is ([], ts) x e) (record { parts = refl; fits = refl })
parameters_take Two ts x e = subst (Takes (list_tokens Two) (HasRoom Two) ts) (ok_is ([], ts) x e) (record { parts = refl; fits = refl })
parameters_take Three ts x e = record { parts = list_takes ts x e; fits = tt }

pub parameters_again : (form : FileForm) (names : List (List ℕ)) (rest : List Lexeme) → HasRoom form names → parameters_at form (list_tokens form names ++ rest) ≡ Ok (names, rest)
unfolding parameters_at
parameters_again One names rest none = rw none refl
parameters_again Two names rest none = rw none refl
parameters_again Three names rest none = list_again names rest

pub arguments_take : (form : FileForm) → Taking (map token.Int) (HasRoom form) (arguments_at form)
unfolding arguments_at
arguments_take One ts x e = subst (Takes (map token.Int) (HasRoom One) ts) (ok_is ([], ts) x e) (record { parts = refl; fits = refl })
arguments_take Two ts x e = subst (Takes (map token.Int) (HasRoom Two) ts) (ok_is ([], ts) x e) (record { parts = refl; fits = refl })
arguments_take Three ts x e = record { parts = ints_take ts x e; fits = tt }

pub arguments_again : (form : FileForm) (values : List ℤ) (rest : List Lexeme) → HasRoom form values → is_int rest ≡ false → arguments_at form (map token.Int values ++ rest) ≡ Ok (values, rest)
unfolding arguments_at
arguments_again One values rest none stop = rw none refl
arguments_again Two values rest none stop = rw none refl
arguments_again Three values rest none stop = ints_again values rest stop
