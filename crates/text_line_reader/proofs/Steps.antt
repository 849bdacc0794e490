-- What single words are read as, and what is read again.
use Rattle.std.proofs.Common.{◌≡◌, ◌∙◌, ℕ, Bool, true, false, not, cond, eqb, List, [], ◌∷◌, ◌++◌, Option, Some, None, Result, Ok, Err, refl, ap, subst, inl, inr}
use Rattle.std.specs.List.{list_all}
use Rattle.std.specs.Str.{bytes_eq}
use Rattle.std.proofs.lemmas.Bool.{and_parts, and_from}
use Rattle.std.proofs.lemmas.List.Folds.{list_all-append}
use Rattle.std.proofs.lemmas.Slice.Eq.{bytes_eq-Decides}
use Rattle.txn_programs.specs.Names.{is_name}
use Rattle.text_words.specs.Bytes.{is_int}
use Rattle.text_words.specs.declared.fault.ReadFault.{ReadFault}
use Rattle.text_words.specs.declared.fault.ReadFault.TheVariants.{Shape}
use Rattle.text_words.proofs.Steps.{done, ok_is, chosen}
use Rattle.text_line_reader.specs.Lines.{parted}
use Rattle.text_line_reader.specs.Words.{is_number, given, first_word, name_in, int_in, number_in, expect, behind_word, behind, after_word, begins}
use Rattle.text_line_reader.proofs.Parting.{lacks, parted_takes, parted_again}

-- the words of a line, without its newline
abbrev pub text_of : List (List ℕ) → List ℕ
text_of [] = []
text_of (word ∷ []) = word
text_of (word ∷ next ∷ words) = word ++ 32 ∷ text_of (next ∷ words)

-- no word of a line has such a byte, nor has the line
pub text_lacks : (sep : ℕ) → eqb 32 sep ≡ false → (words : List (List ℕ)) → list_all (lacks sep) words ≡ true → lacks sep (text_of words) ≡ true
text_lacks sep space [] h = refl
text_lacks sep space (word ∷ []) h = (and_parts (lacks sep word) true h).0
text_lacks sep space (word ∷ next ∷ words) h =
    let p = and_parts (lacks sep word) (list_all (lacks sep) (next ∷ words)) h in
    list_all-append (λ b. not (eqb b sep)) word (32 ∷ text_of (next ∷ words)) ∙ and_from _ _ p.0 (and_from _ _ (ap not space) (text_lacks sep space (next ∷ words) p.1))

pub given_ok : {A : Type 0} (o : Option A) (x : A) → given o ≡ Ok x → o ≡ Some x
given_ok None x e = absurd cc
given_ok (Some y) x e = ap (λ (z : _). Some z) (ok_is y x e)

pub word_takes : (text : List ℕ) (x : List ℕ × List ℕ) → first_word text ≡ Ok x → text ≡ x.0 ++ 32 ∷ x.1
unfolding first_word
word_takes text x e = parted_takes 32 text x (given_ok (parted 32 text) x e)

pub word_again : (word rest : List ℕ) → lacks 32 word ≡ true → first_word (word ++ 32 ∷ rest) ≡ Ok (word, rest)
unfolding first_word
word_again word rest h = rw (parted_again 32 word rest h) refl

-- a word that passes a test
tested : (b : Bool) (text word : List ℕ) → (let r : Result (List ℕ) ReadFault = cond b (Ok text) (Err Shape) in r) ≡ Ok word → (b ≡ true) × (text ≡ word)
tested true text word e = (refl, cc)
tested false text word e = absurd cc

-- the word is the text, and passes
pub record IsWord (p : List ℕ → Bool) (text word : List ℕ) : Type 0 where
  pub same : text ≡ word
  pub passes : p word ≡ true

word_by : (p : List ℕ → Bool) (text word : List ℕ) → (let r : Result (List ℕ) ReadFault = cond (p text) (Ok text) (Err Shape) in r) ≡ Ok word → IsWord p text word
word_by p text word e =
    let t = tested (p text) text word e in
    record { same = t.1; passes = subst (λ (w : List ℕ). p w ≡ true) t.1 t.0 }

pub name_takes : (text word : List ℕ) → name_in text ≡ Ok word → IsWord is_name text word
unfolding name_in
name_takes text word e = word_by is_name text word e

pub int_takes : (text word : List ℕ) → int_in text ≡ Ok word → IsWord is_int text word
unfolding int_in
int_takes text word e = word_by is_int text word e

pub number_takes : (text word : List ℕ) → number_in text ≡ Ok word → IsWord is_number text word
unfolding number_in
number_takes text word e = word_by is_number text word e

pub name_again : (word : List ℕ) → is_name word ≡ true → name_in word ≡ Ok word
unfolding name_in
name_again word h = rw h refl

pub int_again : (word : List ℕ) → is_int word ≡ true → int_in word ≡ Ok word
unfolding int_in
int_again word h = rw h refl

pub number_again : (word : List ℕ) → is_number word ≡ true → number_in word ≡ Ok word
unfolding number_in
number_again word h = rw h refl

pub expect_takes : (wanted text : List ℕ) (u : Unit {0}) → expect wanted text ≡ Ok u → text ≡ wanted
unfolding expect
expect_takes wanted text u e =
    elim (chosen (bytes_eq text wanted) (done tt) (Err Shape) (Ok u) e) [
      | inl p ↦ (bytes_eq-Decides text wanted).0 p.0
      | inr p ↦ absurd (let h = p.1 in cc)
    ]

pub expect_again : (wanted : List ℕ) → expect wanted wanted ≡ Ok tt
unfolding expect
expect_again wanted = rw ((bytes_eq-Decides wanted wanted).1 refl) refl

here : (b : Bool) (back rest : List ℕ) → (let o : Option (List ℕ) = cond b (Some back) None in o) ≡ Some rest → (b ≡ true) × (back ≡ rest)
here true back rest e = (refl, cc)
here false back rest e = absurd cc

behind_parted : (wanted text rest : List ℕ) (p : Option (List ℕ × List ℕ)) → ((x : List ℕ × List ℕ) → p ≡ Some x → text ≡ x.0 ++ 32 ∷ x.1) → behind_word wanted p ≡ Some rest → text ≡ wanted ++ 32 ∷ rest
behind_parted wanted text rest None h e = absurd cc
behind_parted wanted text rest (Some x) h e =
    let c = here (bytes_eq x.0 wanted) x.1 rest e in
    h x refl ∙ ap (λ (w : List ℕ). w ++ 32 ∷ x.1) ((bytes_eq-Decides x.0 wanted).0 c.0) ∙ ap (λ (r : List ℕ). wanted ++ 32 ∷ r) c.1

behind_takes : (wanted text rest : List ℕ) → behind wanted text ≡ Some rest → text ≡ wanted ++ 32 ∷ rest
unfolding behind
behind_takes wanted text rest e = behind_parted wanted text rest (parted 32 text) (parted_takes 32 text) e

behind_again : (wanted rest : List ℕ) → lacks 32 wanted ≡ true → behind wanted (wanted ++ 32 ∷ rest) ≡ Some rest
unfolding behind
behind_again wanted rest h = rw (parted_again 32 wanted rest h, (bytes_eq-Decides wanted wanted).1 refl) refl

pub after_takes : (wanted text rest : List ℕ) → after_word wanted text ≡ Ok rest → text ≡ wanted ++ 32 ∷ rest
unfolding after_word
after_takes wanted text rest e = behind_takes wanted text rest (given_ok (behind wanted text) rest e)

pub after_again : (wanted rest : List ℕ) → lacks 32 wanted ≡ true → after_word wanted (wanted ++ 32 ∷ rest) ≡ Ok rest
unfolding after_word
after_again wanted rest h = rw (behind_again wanted rest h) refl

pub begins_again : (wanted rest : List ℕ) → lacks 32 wanted ≡ true → begins wanted (wanted ++ 32 ∷ rest) ≡ true
unfolding begins
begins_again wanted rest h = rw (behind_again wanted rest h) refl

-- a line that begins with another word
pub begins_not : (wanted word rest : List ℕ) → lacks 32 word ≡ true → bytes_eq word wanted ≡ false → begins wanted (word ++ 32 ∷ rest) ≡ false
unfolding begins behind
begins_not wanted word rest h other = rw (parted_again 32 word rest h, other) refl

pub begins_alone : (wanted word : List ℕ) → parted 32 word ≡ None → begins wanted word ≡ false
unfolding begins behind
begins_alone wanted word h = rw h refl

-- the text is that of what was read, whose words are of their kinds
pub record Takes {A : Type 0} (words : A → List (List ℕ)) (Is : A → Type 0) (text : List ℕ) (x : A) : Type 0 where
  pub same : text ≡ text_of (words x)
  pub is : Is x
