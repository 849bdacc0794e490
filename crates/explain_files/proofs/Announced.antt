-- The form of a file is the one that its tokens announce.
use Rattle.std.proofs.Common.{◌≡◌, ℕ, List, Ok, ap, ◌∙◌}
use Rattle.std.specs.Prelude.{codes}
use Rattle.text_words.specs.Tokens.{Lexeme, tokens}
use Rattle.text_words.specs.TokenReading.{begins, all_of}
use Rattle.text_words.proofs.Steps.{bind_ok, ok_is}
use Rattle.text_grammar.specs.Tree.{File, SpellsTree, file_tokens}
use Rattle.text_grammar.specs.Reading.{pair_at, tables_at, conditions_at, tx_at, run_at, end_at, heading_at, file_of}
use Rattle.text_grammar.proofs.Files.{file_again}
use Rattle.explain_files.specs.Roles.{form_read, form_of}

form_is : (ts : List Lexeme) (f : File) → file_of ts ≡ Ok f → form_of ts ≡ f.form
unfolding file_of
form_is ts f e =
    let h = bind_ok (heading_at ts) _ f e in
    let v = bind_ok (all_of (begins (codes "var")) (pair_at (codes "var")) h.0.1) _ f h.2 in
    let u = bind_ok (tables_at h.0.0 v.0.1) _ f v.2 in
    let a = bind_ok (conditions_at h.0.0 u.0.1) _ f u.2 in
    let t = bind_ok (all_of (begins (codes "tx")) (tx_at h.0.0) a.0.1) _ f a.2 in
    let r = bind_ok (all_of (begins (codes "run")) (run_at h.0.0) t.0.1) _ f t.2 in
    let n = bind_ok (end_at r.0.1) _ f r.2 in
    let made : File = record { form = h.0.0; vars = v.0.0; tables = u.0.0; always = a.0.0; txs = t.0.0; runs = r.0.0 } in
    ap form_read h.1 ∙ ap (λ (g : File). g.form) (ok_is made f n.2)

pub form_spelled : (bytes : List ℕ) (f : File) → SpellsTree bytes f → form_of (tokens bytes) ≡ f.form
form_spelled bytes f s = ap form_of s.spelled ∙ form_is (file_tokens f) f (file_again f s.formed s.parts)
