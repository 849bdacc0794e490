-- A condition that is read is spelled so, and what is spelled so is read.
use Rattle.std.proofs.Common.{◌≡◌, ℕ, zero, suc, List, [], ◌∷◌, ◌++◌, Ok, refl, sym, ap, subst, ◌∙◌, append_assoc, arith}
use Rattle.std.specs.Prelude.{codes}
use Rattle.std.proofs.lemmas.Bool.{and_from, and_parts}
use Rattle.text_words.specs.Tokens.{Lexeme, Opens, Closes}
use Rattle.text_words.specs.Tokens as token
use Rattle.text_grammar.specs.Tree.{comparison_word, connective_word, expr_tokens, expr_formed, Cond, Compare, Not, Connect, cond_tokens, cond_formed, IsExpr, IsCond}
use Rattle.text_grammar.specs.declared.file.FileForm.{FileForm}
use Rattle.text_grammar.specs.declared.words.Test.{Test}
use Rattle.text_grammar.specs.declared.words.Test.TheVariants as tests
use Rattle.text_words.specs.TokenReading.{word_at, close_at}
use Rattle.text_grammar.specs.Reading.{test_of, expr_at, cond_with, cond_at}
use Rattle.text_words.proofs.Steps.{bind_ok, ok_is, word_takes, word_again, close_takes, close_again}
use Rattle.text_grammar.proofs.WordSteps.{test_word, test_takes, test_again}
use Rattle.text_words.proofs.Many.{Takes, Taking}
use Rattle.text_grammar.proofs.Exprs.{expr_takes, expr_again}

abbrev pub TakesCond : FileForm → List Lexeme → ℕ → Cond × List Lexeme → Type 0
TakesCond form ts depth x = Takes cond_tokens (IsCond form depth) ts x

with_takes : (form : FileForm) (depth : ℕ) (kind : Test) (ts : List Lexeme) (x : Cond × List Lexeme) → Taking cond_tokens (IsCond form depth) (cond_at form depth)
    → cond_with (expr_at form depth) (cond_at form depth) kind ts ≡ Ok x → TakesCond form (Opens ∷ token.Name (test_word kind) ∷ ts) (suc depth) x
with_takes form depth (tests.Compares op) ts x taking e =
    let l = bind_ok (expr_at form depth ts) _ x e in
    let r = bind_ok (expr_at form depth l.0.1) _ x l.2 in
    let c = bind_ok (close_at r.0.1) _ x r.2 in
    let left = expr_takes form depth ts l.0 l.1 in
    let right = expr_takes form depth l.0.1 r.0 r.1 in
    let tail : ts ≡ expr_tokens l.0.0 ++ (expr_tokens r.0.0 ++ (Closes ∷ c.0)) = left.parts ∙ ap (λ (us : List Lexeme). expr_tokens l.0.0 ++ us) (right.parts ∙ ap (λ (us : List Lexeme). expr_tokens r.0.0 ++ us) (close_takes r.0.1 c.0 c.1)) in
    subst (TakesCond form (Opens ∷ token.Name (comparison_word op) ∷ ts) (suc depth)) (ok_is (Compare op l.0.0 r.0.0, c.0) x c.2) (record {
      parts = ap (λ (us : List Lexeme). Opens ∷ token.Name (comparison_word op) ∷ us) (tail ∙ sym (simp append_assoc));
      fits = (let p = left.fits.0 in let q = right.fits.0 in omega arith, and_from _ _ left.fits.1 right.fits.1);
    })
with_takes form depth tests.Negates ts x taking e =
    let i = bind_ok (cond_at form depth ts) _ x e in
    let c = bind_ok (close_at i.0.1) _ x i.2 in
    let inner = taking ts i.0 i.1 in
    let tail : ts ≡ cond_tokens i.0.0 ++ (Closes ∷ c.0) = inner.parts ∙ ap (λ (us : List Lexeme). cond_tokens i.0.0 ++ us) (close_takes i.0.1 c.0 c.1) in
    subst (TakesCond form (Opens ∷ token.Name (codes "not") ∷ ts) (suc depth)) (ok_is (Not i.0.0, c.0) x c.2) (record {
      parts = ap (λ (us : List Lexeme). Opens ∷ token.Name (codes "not") ∷ us) (tail ∙ sym (simp append_assoc));
      fits = (let p = inner.fits.0 in omega arith, inner.fits.1);
    })
with_takes form depth (tests.Connects op) ts x taking e =
    let l = bind_ok (cond_at form depth ts) _ x e in
    let r = bind_ok (cond_at form depth l.0.1) _ x l.2 in
    let c = bind_ok (close_at r.0.1) _ x r.2 in
    let left = taking ts l.0 l.1 in
    let right = taking l.0.1 r.0 r.1 in
    let tail : ts ≡ cond_tokens l.0.0 ++ (cond_tokens r.0.0 ++ (Closes ∷ c.0)) = left.parts ∙ ap (λ (us : List Lexeme). cond_tokens l.0.0 ++ us) (right.parts ∙ ap (λ (us : List Lexeme). cond_tokens r.0.0 ++ us) (close_takes r.0.1 c.0 c.1)) in
    subst (TakesCond form (Opens ∷ token.Name (connective_word op) ∷ ts) (suc depth)) (ok_is (Connect op l.0.0 r.0.0, c.0) x c.2) (record {
      parts = ap (λ (us : List Lexeme). Opens ∷ token.Name (connective_word op) ∷ us) (tail ∙ sym (simp append_assoc));
      fits = (let p = left.fits.0 in let q = right.fits.0 in omega arith, and_from _ _ left.fits.1 right.fits.1);
    })

pub cond_takes : (form : FileForm) (depth : ℕ) → Taking cond_tokens (IsCond form depth) (cond_at form depth)
unfolding cond_at
cond_takes form zero ts x e = absurd cc
cond_takes form (suc depth) ts x e =
    let w = bind_ok (word_at ts) _ x e in
    let k = bind_ok (test_of w.0.0) _ x w.2 in
    let front : ts ≡ Opens ∷ token.Name (test_word k.0) ∷ w.0.1 = word_takes ts w.0 w.1 ∙ ap (λ (text : List ℕ). Opens ∷ token.Name text ∷ w.0.1) (test_takes w.0.0 k.0 k.1) in
    subst (λ (us : List Lexeme). TakesCond form us (suc depth) x) (sym front) (with_takes form depth k.0 w.0.1 x (cond_takes form depth) k.2)

pub cond_again : (form : FileForm) (depth : ℕ) (c : Cond) (rest : List Lexeme) → IsCond form depth c → cond_at form depth (cond_tokens c ++ rest) ≡ Ok (c, rest)
unfolding cond_at
cond_again form zero (Compare op left right) rest h = absurd (let p = h.0 in omega arith)
cond_again form zero (Not inner) rest h = absurd (let p = h.0 in omega arith)
cond_again form zero (Connect op left right) rest h = absurd (let p = h.0 in omega arith)
cond_again form (suc depth) (Compare op left right) rest h =
    let regrouped : (((expr_tokens left ++ expr_tokens right) ++ (Closes ∷ [])) ++ rest) ≡ expr_tokens left ++ (expr_tokens right ++ (Closes ∷ rest)) = simp append_assoc in
    let formed = and_parts (expr_formed form left) (expr_formed form right) h.1 in
    let within : IsExpr form depth left = (let p = h.0 in omega arith, formed.0) in
    let also : IsExpr form depth right = (let p = h.0 in omega arith, formed.1) in
    rw (
      regrouped,
      word_again (comparison_word op) (expr_tokens left ++ (expr_tokens right ++ (Closes ∷ rest))),
      test_again (tests.Compares op),
      expr_again form depth left (expr_tokens right ++ (Closes ∷ rest)) within,
      expr_again form depth right (Closes ∷ rest) also,
      close_again rest,
    ) refl
cond_again form (suc depth) (Not inner) rest h =
    let regrouped : ((cond_tokens inner ++ (Closes ∷ [])) ++ rest) ≡ cond_tokens inner ++ (Closes ∷ rest) = simp append_assoc in
    let within : IsCond form depth inner = (let p = h.0 in omega arith, h.1) in
    rw (regrouped, word_again (codes "not") (cond_tokens inner ++ (Closes ∷ rest)), cond_again form depth inner (Closes ∷ rest) within, close_again rest) refl
cond_again form (suc depth) (Connect op left right) rest h =
    let regrouped : (((cond_tokens left ++ cond_tokens right) ++ (Closes ∷ [])) ++ rest) ≡ cond_tokens left ++ (cond_tokens right ++ (Closes ∷ rest)) = simp append_assoc in
    let formed = and_parts (cond_formed form left) (cond_formed form right) h.1 in
    let within : IsCond form depth left = (let p = h.0 in omega arith, formed.0) in
    let also : IsCond form depth right = (let p = h.0 in omega arith, formed.1) in
    rw (
      regrouped,
      word_again (connective_word op) (cond_tokens left ++ (cond_tokens right ++ (Closes ∷ rest))),
      test_again (tests.Connects op),
      cond_again form depth left (cond_tokens right ++ (Closes ∷ rest)) within,
      cond_again form depth right (Closes ∷ rest) also,
      close_again rest,
    ) refl
