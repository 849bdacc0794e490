-- A file with tables announces form 3.
use Rattle.std.proofs.Common.{◌≡◌, ◌↔◌, ℕ, Bool, true, false, List, [], ◌∷◌, ◌++◌, map, length, sum_by, Ok, Err, refl, sym, ap, subst, ◌∙◌}
use Rattle.std.specs.Prelude.{pos, codes}
use Rattle.std.specs.List.{flat_map}
use Rattle.std.specs.Bool.{OnFalse}
use Rattle.std.proofs.lemmas.Bool.{OnFalse_from, both_ways}
use Rattle.txn_programs.specs.Listing.{Listing, cells}
use Rattle.text_words.specs.Tokens.{Lexeme, Opens, Closes, tokens}
use Rattle.text_words.specs.Tokens as token
use Rattle.text_words.specs.Answers.{Fails}
use Rattle.text_words.specs.declared.fault.ReadFault.{ReadFault}
use Rattle.text_words.specs.declared.fault.ReadFault.TheVariants.{Shape}
use Rattle.text_words.proofs.Steps.{ok_is, form_again, int_again, close_again}
use Rattle.text_grammar.specs.Tree.{File, Table, SpellsTree, IsOfForm, has_tables, heading_tokens, pair_tokens, table_tokens, always_tokens, tx_tokens, run_tokens}
use Rattle.text_grammar.specs.declared.file.FileForm.{FileForm}
use Rattle.text_grammar.specs.declared.file.FileForm.TheVariants.{One, Two, Three}
use Rattle.text_grammar.specs.Reading.{announced_at, heading_at}
use Rattle.text_grammar.specs.Written.{DeclareTables, numbers_of, written_in}
use Rattle.text_grammar.specs.Spelling.{Spells}
use Rattle.text_parser.proofs.Begins.{begun}

abbrev Announced : List ℕ → Type 0
Announced bytes = (rest : List Lexeme) × (heading_at (tokens bytes) ≡ Ok (Three, rest))

three_announced : (rest : List Lexeme) → heading_at (heading_tokens Three ++ rest) ≡ Ok (Three, rest)
unfolding heading_at announced_at
three_announced rest =
    let inside : List Lexeme = token.Int (pos 3) ∷ Closes ∷ rest in
    rw (
      begun (codes "stm") (Opens ∷ token.Name (codes "stm") ∷ inside) inside (form_again (codes "stm") inside),
      form_again (codes "stm") inside,
      int_again (pos 3) (Closes ∷ rest),
      close_again rest,
    ) refl

three_is : (bytes : List ℕ) (f : File) → SpellsTree bytes f → f.form ≡ Three → Announced bytes
three_is bytes f s is =
    let rest : List Lexeme = flat_map (pair_tokens (codes "var")) f.vars ++ (flat_map table_tokens f.tables ++ (flat_map always_tokens f.always ++ (flat_map (tx_tokens f.form) f.txs ++ flat_map run_tokens f.runs))) in
    (rest, ap heading_at s.spelled ∙ ap (λ (form : FileForm). heading_at (heading_tokens form ++ rest)) is ∙ three_announced rest)

none_of : (tables : List (List ℕ × ℕ)) → [] ≡ map (λ (t : List ℕ × ℕ). t.1) tables → sum_by (λ (t : List ℕ × ℕ). t.1) tables ≡ 0
none_of [] h = refl
none_of (t ∷ tables) h = absurd cc

no_cells : (tables : List Table) (l : Listing) → tables ≡ [] → DeclareTables tables l → cells l ≡ 0
no_cells tables l none d =
    none_of l.tables (subst (λ (ts : List Table). map (λ (t : Table). length (numbers_of t)) ts ≡ map (λ (t : List ℕ × ℕ). t.1) l.tables) none d.filled)

cells_of : (form : FileForm) (tables : List Table) (bytes : List ℕ) (l : Listing) → SpellsTree bytes (written_in form tables l) → DeclareTables tables l → (Announced bytes → ⊥) → cells l ≡ 0
unfolding written_in
cells_of One tables bytes l s d other = let formed : IsOfForm One (written_in One tables l) = s.formed in no_cells tables l formed.1.0 d
cells_of Two tables bytes l s d other = let formed : IsOfForm Two (written_in Two tables l) = s.formed in no_cells tables l formed.0 d
cells_of Three tables bytes l s d other = absurd (other (three_is bytes (written_in Three tables l) s refl))

-- a file that does not announce it has no cells
pub only_three : (bytes : List ℕ) (b : Bool) → ((b ≡ true) ↔ Announced bytes) → OnFalse b ((l : Listing) → Spells bytes l → cells l ≡ 0)
only_three bytes b is =
    OnFalse_from b ((l : Listing) → Spells bytes l → cells l ≡ 0)
    (λ no. λ l. λ s. cells_of s.declared.form s.declared.tables bytes l s.declared.spelled s.declared.tabled (λ found. both_ways b no (is.1 found)))

form_is : (bytes : List ℕ) (form : FileForm) (rest : List Lexeme) → heading_at (tokens bytes) ≡ Ok (form, rest) → Announced bytes → has_tables form ≡ true
form_is bytes form rest h found = ap (λ (x : FileForm × List Lexeme). has_tables x.0) (ok_is (form, rest) (Three, found.0) (sym h ∙ found.1))

-- what the form says of it
pub announced_is : (bytes : List ℕ) (form : FileForm) (rest : List Lexeme) → heading_at (tokens bytes) ≡ Ok (form, rest) → ((has_tables form ≡ true) ↔ Announced bytes)
announced_is bytes One rest h = (λ yes. absurd (both_ways false refl yes), form_is bytes One rest h)
announced_is bytes Two rest h = (λ yes. absurd (both_ways false refl yes), form_is bytes Two rest h)
announced_is bytes Three rest h = (λ yes. (rest, h), λ found. refl)

-- without a heading that can be read there is none
pub nothing_announced : (bytes : List ℕ) (e : ReadFault) → e ≡ Shape → Fails e (heading_at (tokens bytes)) → ((false ≡ true) ↔ Announced bytes)
nothing_announced bytes e kind fails =
    let none : heading_at (tokens bytes) ≡ Err Shape = subst (λ (x : ReadFault). Fails x (heading_at (tokens bytes))) kind fails in
    (λ yes. absurd (both_ways false refl yes), λ (found : Announced bytes). absurd (let h = sym none ∙ found.1 in cc))
