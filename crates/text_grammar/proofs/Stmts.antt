-- A statement that is read is spelled so, and what is spelled so is read.
use Rattle.std.proofs.Common.{◌≡◌, ℕ, zero, suc, ◌≤◌, ◌<◌, ◌-◌, true, false, List, [], ◌∷◌, ◌++◌, length, Ok, refl, sym, ap, subst, ◌∙◌, append_assoc, arith, length-append}
use Rattle.std.proofs.lemmas.Bool.{and_from, and_parts}
use Rattle.text_words.specs.Tokens.{Lexeme, Opens, Closes}
use Rattle.text_words.specs.Tokens as token
use Rattle.text_grammar.specs.Tree.{expr_tokens, expr_formed, cond_tokens, cond_formed, Stmt, Skip, Set, Put, Seq, If, Repeat, Retry, OrElse, Throw, Call, Stmts, NoStmts, MoreStmts, stmt_tokens, stmts_tokens, stmt_formed, stmts_formed, stmt_depth, stmts_depth, keyword_word, has_tables, IsExpr, IsCond, IsStmt}
use Rattle.text_grammar.specs.Tree as tree
use Rattle.text_grammar.specs.declared.file.FileForm.{FileForm}
use Rattle.text_grammar.specs.declared.words.Keyword.{Keyword}
use Rattle.text_grammar.specs.declared.words.Keyword.TheVariants as keywords
use Rattle.text_words.specs.declared.fault.ReadFault.{ReadFault}
use Rattle.text_words.specs.Answers.{◌>>=◌, Fails}
use Rattle.text_words.specs.TokenReading.{Read, name_at, int_at, word_at, close_at, open_at, is_open, all_of}
use Rattle.text_grammar.specs.Reading.{keyword_of, expr_at, cond_at, row, set_with, put_with, seq_with, if_with, repeat_with, orelse_with, throw_with, stmt_with, stmt_at}
use Rattle.text_words.proofs.Steps.{bind_ok, ok_is, done, name_takes, name_again, int_takes, int_again, word_takes, word_again, close_takes, close_again}
use Rattle.text_grammar.proofs.WordSteps.{keyword_formed, keyword_takes, keyword_again}
use Rattle.text_grammar.proofs.Exprs.{expr_takes, expr_again}
use Rattle.text_grammar.proofs.Conds.{cond_takes, cond_again}
use Rattle.std.specs.List.{flat_map, AllByRecursion}
use Rattle.std.proofs.lemmas.List.Concat.{flat_map-cons}
use Rattle.text_words.proofs.Many.{Shortens, Takes, Taking, all_takes, all_again, failed}

abbrev pub TakesStmt : FileForm → List Lexeme → ℕ → Stmt × List Lexeme → Type 0
TakesStmt form ts depth x = Takes stmt_tokens (IsStmt form depth) ts x

-- the tokens of a form, by its keyword
abbrev behind : Keyword → List Lexeme → List Lexeme
behind keyword ts = Opens ∷ token.Name (keyword_word keyword) ∷ ts

row_tokens : (ss : List Stmt) → stmts_tokens (row ss) ≡ flat_map stmt_tokens ss
row_tokens [] = refl
row_tokens (s ∷ ss) = ap (λ (us : List Lexeme). stmt_tokens s ++ us) (row_tokens ss) ∙ sym (flat_map-cons stmt_tokens s ss)

abbrev AreStmts : FileForm → ℕ → Stmts → Type 0
AreStmts form depth ss = (stmts_depth ss ≤ depth) × (stmts_formed form ss ≡ true)

row_fits : (form : FileForm) (depth : ℕ) (ss : List Stmt) → AllByRecursion (IsStmt form depth) ss → AreStmts form depth (row ss)
row_fits form depth [] h = (omega arith, refl)
row_fits form depth (s ∷ ss) h =
    let others = row_fits form depth ss h.1 in
    (omega (arith, h.0.0, others.0), and_from _ _ h.0.1 others.1)

abbrev listed : Stmts → List Stmt
listed NoStmts = []
listed (MoreStmts s ss) = s ∷ listed ss

row-listed : (ss : Stmts) → row (listed ss) ≡ ss
row-listed NoStmts = refl
row-listed (MoreStmts s ss) = ap (MoreStmts s) (row-listed ss)

listed_fit : (form : FileForm) (depth : ℕ) (ss : Stmts) → AreStmts form depth ss → AllByRecursion (IsStmt form depth) (listed ss)
listed_fit form depth NoStmts h = tt
listed_fit form depth (MoreStmts s ss) h =
    let formed = and_parts (stmt_formed form s) (stmts_formed form ss) h.1 in
    ((let p = h.0 in omega arith, formed.0), listed_fit form depth ss (let p = h.0 in omega arith, formed.1))

set_takes : (form : FileForm) (depth : ℕ) (ts : List Lexeme) (x : Stmt × List Lexeme) → set_with (expr_at form depth) ts ≡ Ok x → TakesStmt form (behind keywords.Set ts) (suc depth) x
unfolding set_with
set_takes form depth ts x e =
    let n = bind_ok (name_at ts) _ x e in
    let v = bind_ok (expr_at form depth n.0.1) _ x n.2 in
    let c = bind_ok (close_at v.0.1) _ x v.2 in
    let value = expr_takes form depth n.0.1 v.0 v.1 in
    let tail : ts ≡ token.Name n.0.0 ∷ (expr_tokens v.0.0 ++ (Closes ∷ c.0)) = name_takes ts n.0 n.1 ∙ ap (λ (us : List Lexeme). token.Name n.0.0 ∷ us) (value.parts ∙ ap (λ (us : List Lexeme). expr_tokens v.0.0 ++ us) (close_takes v.0.1 c.0 c.1)) in
    subst (TakesStmt form (behind keywords.Set ts) (suc depth)) (ok_is (Set n.0.0 v.0.0, c.0) x c.2) (record {
      parts = ap (behind keywords.Set) (tail ∙ sym (simp append_assoc));
      fits = (let p = value.fits.0 in omega arith, value.fits.1);
    })

put_takes : (form : FileForm) (depth : ℕ) (ts : List Lexeme) (x : Stmt × List Lexeme) → has_tables form ≡ true → put_with (expr_at form depth) ts ≡ Ok x → TakesStmt form (behind keywords.Put ts) (suc depth) x
unfolding put_with
put_takes form depth ts x tables e =
    let n = bind_ok (name_at ts) _ x e in
    let i = bind_ok (expr_at form depth n.0.1) _ x n.2 in
    let v = bind_ok (expr_at form depth i.0.1) _ x i.2 in
    let c = bind_ok (close_at v.0.1) _ x v.2 in
    let index = expr_takes form depth n.0.1 i.0 i.1 in
    let value = expr_takes form depth i.0.1 v.0 v.1 in
    let operands : n.0.1 ≡ expr_tokens i.0.0 ++ (expr_tokens v.0.0 ++ (Closes ∷ c.0)) = index.parts ∙ ap (λ (us : List Lexeme). expr_tokens i.0.0 ++ us) (value.parts ∙ ap (λ (us : List Lexeme). expr_tokens v.0.0 ++ us) (close_takes v.0.1 c.0 c.1)) in
    let tail : ts ≡ token.Name n.0.0 ∷ (expr_tokens i.0.0 ++ (expr_tokens v.0.0 ++ (Closes ∷ c.0))) = name_takes ts n.0 n.1 ∙ ap (λ (us : List Lexeme). token.Name n.0.0 ∷ us) operands in
    subst (TakesStmt form (behind keywords.Put ts) (suc depth)) (ok_is (Put n.0.0 i.0.0 v.0.0, c.0) x c.2) (record {
      parts = ap (behind keywords.Put) (tail ∙ sym (simp append_assoc));
      fits = (let p1 = index.fits.0 in let p2 = value.fits.0 in omega arith, and_from _ _ tables (and_from _ _ index.fits.1 value.fits.1));
    })

seq_takes : (form : FileForm) (depth : ℕ) (ts : List Lexeme) (x : Stmt × List Lexeme) → Taking stmt_tokens (IsStmt form depth) (stmt_at form depth)
    → seq_with (stmt_at form depth) ts ≡ Ok x → TakesStmt form (behind keywords.Seq ts) (suc depth) x
unfolding seq_with
seq_takes form depth ts x taking e =
    let p = bind_ok (all_of is_open (stmt_at form depth) ts) _ x e in
    let c = bind_ok (close_at p.0.1) _ x p.2 in
    let parts = all_takes stmt_tokens (IsStmt form depth) is_open (stmt_at form depth) taking ts p.0 p.1 in
    let tail : ts ≡ stmts_tokens (row p.0.0) ++ (Closes ∷ c.0) = parts.parts ∙ ap (λ (us : List Lexeme). us ++ p.0.1) (sym (row_tokens p.0.0)) ∙ ap (λ (us : List Lexeme). stmts_tokens (row p.0.0) ++ us) (close_takes p.0.1 c.0 c.1) in
    subst (TakesStmt form (behind keywords.Seq ts) (suc depth)) (ok_is (Seq (row p.0.0), c.0) x c.2) (record {
      parts = ap (behind keywords.Seq) (tail ∙ sym (simp append_assoc));
      fits = let row = row_fits form depth p.0.0 parts.fits in (let p1 = row.0 in omega arith, row.1);
    })

if_takes : (form : FileForm) (depth : ℕ) (ts : List Lexeme) (x : Stmt × List Lexeme) → Taking stmt_tokens (IsStmt form depth) (stmt_at form depth)
    → if_with (cond_at form depth) (stmt_at form depth) ts ≡ Ok x → TakesStmt form (behind keywords.If ts) (suc depth) x
unfolding if_with
if_takes form depth ts x taking e =
    let t = bind_ok (cond_at form depth ts) _ x e in
    let f = bind_ok (stmt_at form depth t.0.1) _ x t.2 in
    let s = bind_ok (stmt_at form depth f.0.1) _ x f.2 in
    let c = bind_ok (close_at s.0.1) _ x s.2 in
    let tested = cond_takes form depth ts t.0 t.1 in
    let first = taking t.0.1 f.0 f.1 in
    let second = taking f.0.1 s.0 s.1 in
    let branches : t.0.1 ≡ stmt_tokens f.0.0 ++ (stmt_tokens s.0.0 ++ (Closes ∷ c.0)) = first.parts ∙ ap (λ (us : List Lexeme). stmt_tokens f.0.0 ++ us) (second.parts ∙ ap (λ (us : List Lexeme). stmt_tokens s.0.0 ++ us) (close_takes s.0.1 c.0 c.1)) in
    let tail : ts ≡ cond_tokens t.0.0 ++ (stmt_tokens f.0.0 ++ (stmt_tokens s.0.0 ++ (Closes ∷ c.0))) = tested.parts ∙ ap (λ (us : List Lexeme). cond_tokens t.0.0 ++ us) branches in
    subst (TakesStmt form (behind keywords.If ts) (suc depth)) (ok_is (If t.0.0 f.0.0 s.0.0, c.0) x c.2) (record {
      parts = ap (behind keywords.If) (tail ∙ sym (simp append_assoc));
      fits = (let p0 = tested.fits.0 in let p1 = first.fits.0 in let p2 = second.fits.0 in omega arith, and_from _ _ tested.fits.1 (and_from _ _ first.fits.1 second.fits.1));
    })

repeat_takes : (form : FileForm) (depth : ℕ) (ts : List Lexeme) (x : Stmt × List Lexeme) → Taking stmt_tokens (IsStmt form depth) (stmt_at form depth)
    → repeat_with (stmt_at form depth) ts ≡ Ok x → TakesStmt form (behind keywords.Repeat ts) (suc depth) x
unfolding repeat_with
repeat_takes form depth ts x taking e =
    let n = bind_ok (int_at ts) _ x e in
    let b = bind_ok (stmt_at form depth n.0.1) _ x n.2 in
    let c = bind_ok (close_at b.0.1) _ x b.2 in
    let body = taking n.0.1 b.0 b.1 in
    let tail : ts ≡ token.Int n.0.0 ∷ (stmt_tokens b.0.0 ++ (Closes ∷ c.0)) = int_takes ts n.0 n.1 ∙ ap (λ (us : List Lexeme). token.Int n.0.0 ∷ us) (body.parts ∙ ap (λ (us : List Lexeme). stmt_tokens b.0.0 ++ us) (close_takes b.0.1 c.0 c.1)) in
    subst (TakesStmt form (behind keywords.Repeat ts) (suc depth)) (ok_is (Repeat n.0.0 b.0.0, c.0) x c.2) (record {
      parts = ap (behind keywords.Repeat) (tail ∙ sym (simp append_assoc));
      fits = (let p = body.fits.0 in omega arith, body.fits.1);
    })

orelse_takes : (form : FileForm) (depth : ℕ) (ts : List Lexeme) (x : Stmt × List Lexeme) → Taking stmt_tokens (IsStmt form depth) (stmt_at form depth)
    → orelse_with (stmt_at form depth) ts ≡ Ok x → TakesStmt form (behind keywords.OrElse ts) (suc depth) x
unfolding orelse_with
orelse_takes form depth ts x taking e =
    let f = bind_ok (stmt_at form depth ts) _ x e in
    let s = bind_ok (stmt_at form depth f.0.1) _ x f.2 in
    let c = bind_ok (close_at s.0.1) _ x s.2 in
    let first = taking ts f.0 f.1 in
    let second = taking f.0.1 s.0 s.1 in
    let tail : ts ≡ stmt_tokens f.0.0 ++ (stmt_tokens s.0.0 ++ (Closes ∷ c.0)) = first.parts ∙ ap (λ (us : List Lexeme). stmt_tokens f.0.0 ++ us) (second.parts ∙ ap (λ (us : List Lexeme). stmt_tokens s.0.0 ++ us) (close_takes s.0.1 c.0 c.1)) in
    subst (TakesStmt form (behind keywords.OrElse ts) (suc depth)) (ok_is (OrElse f.0.0 s.0.0, c.0) x c.2) (record {
      parts = ap (behind keywords.OrElse) (tail ∙ sym (simp append_assoc));
      fits = (let p1 = first.fits.0 in let p2 = second.fits.0 in omega arith, and_from _ _ first.fits.1 second.fits.1);
    })

throw_takes : (form : FileForm) (depth : ℕ) (ts : List Lexeme) (x : Stmt × List Lexeme) → throw_with (expr_at form depth) ts ≡ Ok x → TakesStmt form (behind keywords.Throw ts) (suc depth) x
unfolding throw_with
throw_takes form depth ts x e =
    let v = bind_ok (expr_at form depth ts) _ x e in
    let c = bind_ok (close_at v.0.1) _ x v.2 in
    let value = expr_takes form depth ts v.0 v.1 in
    let tail : ts ≡ expr_tokens v.0.0 ++ (Closes ∷ c.0) = value.parts ∙ ap (λ (us : List Lexeme). expr_tokens v.0.0 ++ us) (close_takes v.0.1 c.0 c.1) in
    subst (TakesStmt form (behind keywords.Throw ts) (suc depth)) (ok_is (Throw v.0.0, c.0) x c.2) (record {
      parts = ap (behind keywords.Throw) (tail ∙ sym (simp append_assoc));
      fits = (let p = value.fits.0 in omega arith, value.fits.1);
    })

-- a statement of its keyword alone
alone_takes : (form : FileForm) (depth : ℕ) (keyword : Keyword) (s : Stmt) (ts : List Lexeme) (x : Stmt × List Lexeme) → stmt_tokens s ≡ tree.form (keyword_word keyword) [] → stmt_depth s ≡ 1 → stmt_formed form s ≡ true
    → (close_at ts >>= λ rest. done (s, rest)) ≡ Ok x → TakesStmt form (behind keyword ts) (suc depth) x
alone_takes form depth keyword s ts x spelt deep formed e =
    let c = bind_ok (close_at ts) _ x e in
    subst (TakesStmt form (behind keyword ts) (suc depth)) (ok_is (s, c.0) x c.2) (record {
      parts = ap (behind keyword) (close_takes ts c.0 c.1) ∙ ap (λ (us : List Lexeme). us ++ c.0) (sym spelt);
      fits = (omega arith, formed);
    })

with_takes : (form : FileForm) (depth : ℕ) (keyword : Keyword) (ts : List Lexeme) (x : Stmt × List Lexeme) → keyword_formed form keyword ≡ true → Taking stmt_tokens (IsStmt form depth) (stmt_at form depth)
    → stmt_with (expr_at form depth) (cond_at form depth) (stmt_at form depth) keyword ts ≡ Ok x → TakesStmt form (behind keyword ts) (suc depth) x
with_takes form depth keywords.Skip ts x formed taking e = alone_takes form depth keywords.Skip Skip ts x refl refl refl e
with_takes form depth keywords.Set ts x formed taking e = set_takes form depth ts x e
with_takes form depth keywords.Put ts x formed taking e = put_takes form depth ts x formed e
with_takes form depth keywords.Seq ts x formed taking e = seq_takes form depth ts x taking e
with_takes form depth keywords.If ts x formed taking e = if_takes form depth ts x taking e
with_takes form depth keywords.Repeat ts x formed taking e = repeat_takes form depth ts x taking e
with_takes form depth keywords.Retry ts x formed taking e = alone_takes form depth keywords.Retry Retry ts x refl refl refl e
with_takes form depth keywords.OrElse ts x formed taking e = orelse_takes form depth ts x taking e
with_takes form depth keywords.Throw ts x formed taking e = throw_takes form depth ts x e

pub stmt_takes : (form : FileForm) (depth : ℕ) → Taking stmt_tokens (IsStmt form depth) (stmt_at form depth)
unfolding stmt_at
stmt_takes form zero ts x e = absurd cc
stmt_takes form (suc depth) ts x e =
    let w = bind_ok (word_at ts) _ x e in
    let k = bind_ok (keyword_of form w.0.0) _ x w.2 in
    let keyword = keyword_takes form w.0.0 k.0 k.1 in
    let front : ts ≡ behind k.0 w.0.1 = word_takes ts w.0 w.1 ∙ ap (λ (text : List ℕ). Opens ∷ token.Name text ∷ w.0.1) keyword.worded in
    subst (λ (us : List Lexeme). TakesStmt form us (suc depth) x) (sym front) (with_takes form depth k.0 w.0.1 x keyword.formed (stmt_takes form depth) k.2)

-- a statement has a token at least
some_tokens : (s : Stmt) → 0 < length (stmt_tokens s)
some_tokens Skip = omega arith
some_tokens (Set name value) = omega arith
some_tokens (Put table index value) = omega arith
some_tokens (Seq parts) = omega arith
some_tokens (If test first second) = omega arith
some_tokens (Repeat count body) = omega arith
some_tokens Retry = omega arith
some_tokens (OrElse first second) = omega arith
some_tokens (Throw value) = omega arith
some_tokens (Call name arguments) = omega arith

pub stmt_shortens : (form : FileForm) (depth : ℕ) → Shortens (stmt_at form depth)
stmt_shortens form depth = record {
  by = λ ts x e.
      let parts = (stmt_takes form depth ts x e).parts in
      rw parts (omega (arith, length-append (stmt_tokens x.0) x.1, some_tokens x.0));
}

begins_open : (s : Stmt) (rest : List Lexeme) → is_open (stmt_tokens s ++ rest) ≡ true
unfolding is_open open_at
begins_open Skip rest = refl
begins_open (Set name value) rest = refl
begins_open (Put table index value) rest = refl
begins_open (Seq parts) rest = refl
begins_open (If test first second) rest = refl
begins_open (Repeat count body) rest = refl
begins_open Retry rest = refl
begins_open (OrElse first second) rest = refl
begins_open (Throw value) rest = refl
begins_open (Call name arguments) rest = refl

closes : (rest : List Lexeme) → is_open (Closes ∷ rest) ≡ false
unfolding is_open open_at
closes rest = refl

no_depth : (s : Stmt) → stmt_depth s ≤ 0 → ⊥
no_depth Skip h = omega arith
no_depth (Set name value) h = omega arith
no_depth (Put table index value) h = omega arith
no_depth (Seq parts) h = omega arith
no_depth (If test first second) h = omega arith
no_depth (Repeat count body) h = omega arith
no_depth Retry h = omega arith
no_depth (OrElse first second) h = omega arith
no_depth (Throw value) h = omega arith
no_depth (Call name arguments) h = omega arith

-- a statement by its keyword
step : (form : FileForm) (depth : ℕ) (keyword : Keyword) (ts : List Lexeme) → keyword_formed form keyword ≡ true
    → stmt_at form (suc depth) (behind keyword ts) ≡ stmt_with (expr_at form depth) (cond_at form depth) (stmt_at form depth) keyword ts
unfolding stmt_at
step form depth keyword ts formed = rw (word_again (keyword_word keyword) ts, keyword_again form keyword formed) refl

pub stmt_again : (form : FileForm) (depth : ℕ) (s : Stmt) (rest : List Lexeme) → IsStmt form depth s → stmt_at form depth (stmt_tokens s ++ rest) ≡ Ok (s, rest)
unfolding set_with put_with seq_with if_with repeat_with orelse_with throw_with
stmt_again form zero s rest h = absurd (no_depth s h.0)
stmt_again form (suc depth) Skip rest h = step form depth keywords.Skip (Closes ∷ rest) refl ∙ rw (close_again rest) refl
stmt_again form (suc depth) (Set name value) rest h =
    let regrouped : (expr_tokens value ++ (Closes ∷ [])) ++ rest ≡ expr_tokens value ++ (Closes ∷ rest) = simp append_assoc in
    let within : IsExpr form depth value = (let p = h.0 in omega arith, h.1) in
    rw regrouped (step form depth keywords.Set (token.Name name ∷ (expr_tokens value ++ (Closes ∷ rest))) refl
    ∙ rw (name_again name (expr_tokens value ++ (Closes ∷ rest)), expr_again form depth value (Closes ∷ rest) within, close_again rest) refl)
stmt_again form (suc depth) (Put table index value) rest h =
    let regrouped : ((expr_tokens index ++ expr_tokens value) ++ (Closes ∷ [])) ++ rest ≡ expr_tokens index ++ (expr_tokens value ++ (Closes ∷ rest)) = simp append_assoc in
    let formed = and_parts (has_tables form) _ h.1 in
    let operands = and_parts (expr_formed form index) (expr_formed form value) formed.1 in
    let within : IsExpr form depth index = (let p = h.0 in omega arith, operands.0) in
    let also : IsExpr form depth value = (let p = h.0 in omega arith, operands.1) in
    rw regrouped (step form depth keywords.Put (token.Name table ∷ (expr_tokens index ++ (expr_tokens value ++ (Closes ∷ rest)))) formed.0
    ∙ rw (
      name_again table (expr_tokens index ++ (expr_tokens value ++ (Closes ∷ rest))),
      expr_again form depth index (expr_tokens value ++ (Closes ∷ rest)) within,
      expr_again form depth value (Closes ∷ rest) also,
      close_again rest,
    ) refl)
stmt_again form (suc depth) (Seq parts) rest h =
    let regrouped : (stmts_tokens parts ++ (Closes ∷ [])) ++ rest ≡ flat_map stmt_tokens (listed parts) ++ (Closes ∷ rest) = append_assoc (stmts_tokens parts) (Closes ∷ []) rest ∙ ap (λ (us : List Lexeme). us ++ (Closes ∷ rest)) (ap stmts_tokens (sym (row-listed parts)) ∙ row_tokens (listed parts)) in
    let within : AllByRecursion (IsStmt form depth) (listed parts) = listed_fit form depth parts (let p = h.0 in omega arith, h.1) in
    let each = all_again stmt_tokens (IsStmt form depth) is_open (stmt_at form depth) (stmt_shortens form depth) (λ s more fits. stmt_again form depth s more fits) begins_open (listed parts) (Closes ∷ rest) within (closes rest) in
    rw regrouped (step form depth keywords.Seq (flat_map stmt_tokens (listed parts) ++ (Closes ∷ rest)) refl ∙ rw (each, close_again rest, row-listed parts) refl)
stmt_again form (suc depth) (If test first second) rest h =
    let regrouped : ((cond_tokens test ++ (stmt_tokens first ++ stmt_tokens second)) ++ (Closes ∷ [])) ++ rest ≡ cond_tokens test ++ (stmt_tokens first ++ (stmt_tokens second ++ (Closes ∷ rest))) = simp append_assoc in
    let formed = and_parts (cond_formed form test) _ h.1 in
    let branches = and_parts (stmt_formed form first) (stmt_formed form second) formed.1 in
    let tested : IsCond form depth test = (let p = h.0 in omega arith, formed.0) in
    let within : IsStmt form depth first = (let p = h.0 in omega arith, branches.0) in
    let also : IsStmt form depth second = (let p = h.0 in omega arith, branches.1) in
    rw regrouped (step form depth keywords.If (cond_tokens test ++ (stmt_tokens first ++ (stmt_tokens second ++ (Closes ∷ rest)))) refl
    ∙ rw (
      cond_again form depth test (stmt_tokens first ++ (stmt_tokens second ++ (Closes ∷ rest))) tested,
      stmt_again form depth first (stmt_tokens second ++ (Closes ∷ rest)) within,
      stmt_again form depth second (Closes ∷ rest) also,
      close_again rest,
    ) refl)
stmt_again form (suc depth) (Repeat count body) rest h =
    let regrouped : (stmt_tokens body ++ (Closes ∷ [])) ++ rest ≡ stmt_tokens body ++ (Closes ∷ rest) = simp append_assoc in
    let within : IsStmt form depth body = (let p = h.0 in omega arith, h.1) in
    rw regrouped (step form depth keywords.Repeat (token.Int count ∷ (stmt_tokens body ++ (Closes ∷ rest))) refl
    ∙ rw (int_again count (stmt_tokens body ++ (Closes ∷ rest)), stmt_again form depth body (Closes ∷ rest) within, close_again rest) refl)
stmt_again form (suc depth) Retry rest h = step form depth keywords.Retry (Closes ∷ rest) refl ∙ rw (close_again rest) refl
stmt_again form (suc depth) (OrElse first second) rest h =
    let regrouped : ((stmt_tokens first ++ stmt_tokens second) ++ (Closes ∷ [])) ++ rest ≡ stmt_tokens first ++ (stmt_tokens second ++ (Closes ∷ rest)) = simp append_assoc in
    let branches = and_parts (stmt_formed form first) (stmt_formed form second) h.1 in
    let within : IsStmt form depth first = (let p = h.0 in omega arith, branches.0) in
    let also : IsStmt form depth second = (let p = h.0 in omega arith, branches.1) in
    rw regrouped (step form depth keywords.OrElse (stmt_tokens first ++ (stmt_tokens second ++ (Closes ∷ rest))) refl
    ∙ rw (stmt_again form depth first (stmt_tokens second ++ (Closes ∷ rest)) within, stmt_again form depth second (Closes ∷ rest) also, close_again rest) refl)
stmt_again form (suc depth) (Throw value) rest h =
    let regrouped : (expr_tokens value ++ (Closes ∷ [])) ++ rest ≡ expr_tokens value ++ (Closes ∷ rest) = simp append_assoc in
    let within : IsExpr form depth value = (let p = h.0 in omega arith, h.1) in
    rw regrouped (step form depth keywords.Throw (expr_tokens value ++ (Closes ∷ rest)) refl ∙ rw (expr_again form depth value (Closes ∷ rest) within, close_again rest) refl)
stmt_again form (suc depth) (Call name arguments) rest h = absurd (let none : false ≡ true = h.1 in cc)

-- a statement by its keyword, for any depth but 0
pub stmt_step : (form : FileForm) (depth : ℕ) (ts : List Lexeme) (word : List ℕ × List Lexeme) (keyword : Keyword) → 0 < depth → word_at ts ≡ Ok word → keyword_of form word.0 ≡ Ok keyword
    → stmt_at form depth ts ≡ stmt_with (expr_at form (depth - 1)) (cond_at form (depth - 1)) (stmt_at form (depth - 1)) keyword word.1
unfolding stmt_at
stmt_step form zero ts word keyword lt a b = absurd (omega arith)
stmt_step form (suc depth) ts word keyword lt a b = let d : suc depth - 1 ≡ depth = omega arith in rw (a, b, d) refl

-- a sequence whose parts are not read, and one whose parts are
pub seq_fails : (e : ReadFault) (part : List Lexeme → Read Stmt) (ts : List Lexeme) → Fails e (all_of is_open part ts) → Fails e (seq_with part ts)
unfolding seq_with
seq_fails e part ts h = failed e (all_of is_open part ts) _ (seq_with part ts) h refl

pub seq_ends : (part : List Lexeme → Read Stmt) (ts us : List Lexeme) (parts : List Stmt) → all_of is_open part ts ≡ Ok (parts, us)
    → seq_with part ts ≡ (close_at us >>= λ rest. done (Seq (row parts), rest))
unfolding seq_with
seq_ends part ts us parts h = rw h refl
