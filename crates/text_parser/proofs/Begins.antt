-- A parenthesis and a word stand next exactly where they are read.
use Rattle.std.proofs.Common.{◌≡◌, ℕ, List, Ok, Err, true, false, refl, subst}
use Rattle.text_words.specs.Answers.{Fails}
use Rattle.text_words.specs.Tokens.{Lexeme}
use Rattle.text_words.specs.TokenReading.{form_at, begins}
use Rattle.text_words.specs.declared.fault.ReadFault.{ReadFault}
use Rattle.text_words.specs.declared.fault.ReadFault.TheVariants.{Shape}

pub begun : (word : List ℕ) (ts rest : List Lexeme) → form_at word ts ≡ Ok rest → begins word ts ≡ true
unfolding begins
begun word ts rest e = rw e refl

pub not_begun : (word : List ℕ) (ts : List Lexeme) (e : ReadFault) → e ≡ Shape → Fails e (form_at word ts) → begins word ts ≡ false
unfolding begins
not_begun word ts e kind fails =
    let none : form_at word ts ≡ Err Shape = subst (λ (x : ReadFault). Fails x (form_at word ts)) kind fails in
    rw none refl
