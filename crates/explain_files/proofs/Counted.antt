-- What is known of the tokens before a place, and one token more.
use Rattle.std.proofs.Common.{◌≡◌, List, ◌∷◌, Option, sym, ap, ◌∙◌}
use Rattle.text_words.specs.Tokens.{Lexeme}
use Rattle.text_grammar.specs.declared.file.FileForm.{FileForm}
use Rattle.explain_files.specs.declared.wanted.Role.{Role}
use Rattle.explain_files.specs.declared.names.NameFault.{NameFault}
use Rattle.explain_files.specs.declared.limits.LimitFault.{LimitFault}
use Rattle.explain_files.specs.Roles.{role_at}
use Rattle.explain_files.specs.Judging.{Names, with_token, names_in, name_fault_for, name_fault_at}
use Rattle.explain_files.specs.Limiting.{Many, many_with, many_in, limit_fault, limit_fault_at}

pub name_said : (form : FileForm) (known : Names) (used : Role) (before : List Lexeme) (t : Lexeme) (behind : List Lexeme) (said : Option NameFault)
    → known ≡ names_in form before → used ≡ role_at form before → said ≡ name_fault_for known used t behind → name_fault_at form before t behind ≡ said
name_said form known used before t behind said k u e =
    sym (e ∙ ap (λ (n : Names). name_fault_for n used t behind) k ∙ ap (λ (r : Role). name_fault_for (names_in form before) r t behind) u)

pub names_more : (form : FileForm) (known new : Names) (used : Role) (before : List Lexeme) (t : Lexeme) → known ≡ names_in form before → used ≡ role_at form before → new ≡ with_token known used t → new ≡ names_in form (t ∷ before)
names_more form known new used before t k u e = e ∙ ap (λ (n : Names). with_token n used t) k ∙ ap (λ (r : Role). with_token (names_in form before) r t) u

pub limit_said : (form : FileForm) (many : Many) (used : Role) (before : List Lexeme) (t : Lexeme) (behind : List Lexeme) (said : Option LimitFault)
    → many ≡ many_in form before → used ≡ role_at form before → said ≡ limit_fault many used t behind → limit_fault_at form before t behind ≡ said
limit_said form many used before t behind said k u e = sym (e ∙ ap (λ (n : Many). limit_fault n used t behind) k ∙ ap (λ (r : Role). limit_fault (many_in form before) r t behind) u)

pub many_more : (form : FileForm) (many new : Many) (used : Role) (before : List Lexeme) (t : Lexeme) → many ≡ many_in form before → used ≡ role_at form before → new ≡ many_with many used t → new ≡ many_in form (t ∷ before)
many_more form many new used before t k u e = e ∙ ap (λ (n : Many). many_with n used t) k ∙ ap (λ (r : Role). many_with (many_in form before) r t) u
