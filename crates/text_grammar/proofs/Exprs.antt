-- An expression that is read is spelled so, and what is spelled so is read.
use Rattle.std.proofs.Common.{◌≡◌, ℕ, zero, suc, true, List, [], ◌∷◌, ◌++◌, Result, Ok, Err, refl, sym, ap, subst, ◌∙◌, append_assoc, arith}
use Rattle.std.proofs.lemmas.Bool.{and_from, and_parts}
use Rattle.txn_programs.specs.declared.ast.Fold.{Fold}
use Rattle.text_words.specs.Tokens.{Lexeme, Opens, Closes}
use Rattle.text_words.specs.Tokens as token
use Rattle.text_grammar.specs.Tree.{Expr, Int, Name, At, OfAll, Binary, expr_tokens, expr_formed, has_tables, IsExpr}
use Rattle.text_grammar.specs.declared.file.FileForm.{FileForm}
use Rattle.text_grammar.specs.declared.words.Operator.{Operator}
use Rattle.text_grammar.specs.declared.words.Head.{Head}
use Rattle.text_grammar.specs.declared.words.Head.TheVariants as heads
use Rattle.text_words.specs.declared.fault.ReadFault.{ReadFault}
use Rattle.text_words.specs.declared.fault.ReadFault.TheVariants.{Shape}
use Rattle.text_words.specs.TokenReading.{next_at, name_at, close_at}
use Rattle.text_grammar.specs.Reading.{head_of, binary_with, at_with, all_with, head_with, compound_with, expr_from, expr_at}
use Rattle.text_words.proofs.Steps.{bind_ok, ok_is, next_takes, name_takes, name_again, close_takes, close_again}
use Rattle.text_grammar.proofs.WordSteps.{head_word, head_formed, head_takes, head_again}
use Rattle.text_words.proofs.Many.{Takes, Taking}

abbrev pub TakesExpr : FileForm → List Lexeme → ℕ → Expr × List Lexeme → Type 0
TakesExpr form ts depth x = Takes expr_tokens (IsExpr form depth) ts x

-- the tokens of an expression, by what kind it is
abbrev behind : Head → List Lexeme → List Lexeme
behind kind ts = Opens ∷ token.Name (head_word kind) ∷ ts

binary_takes : (form : FileForm) (depth : ℕ) (op : Operator) (ts : List Lexeme) (x : Expr × List Lexeme) → Taking expr_tokens (IsExpr form depth) (expr_at form depth)
    → binary_with (expr_at form depth) op ts ≡ Ok x → TakesExpr form (behind (heads.Operates op) ts) (suc depth) x
unfolding binary_with
binary_takes form depth op ts x operand e =
    let l = bind_ok (expr_at form depth ts) _ x e in
    let r = bind_ok (expr_at form depth l.0.1) _ x l.2 in
    let c = bind_ok (close_at r.0.1) _ x r.2 in
    let left = operand ts l.0 l.1 in
    let right = operand l.0.1 r.0 r.1 in
    let tail : ts ≡ expr_tokens l.0.0 ++ (expr_tokens r.0.0 ++ (Closes ∷ c.0)) = left.parts ∙ ap (λ (us : List Lexeme). expr_tokens l.0.0 ++ us) (right.parts ∙ ap (λ (us : List Lexeme). expr_tokens r.0.0 ++ us) (close_takes r.0.1 c.0 c.1)) in
    subst (TakesExpr form (behind (heads.Operates op) ts) (suc depth)) (ok_is (Binary op l.0.0 r.0.0, c.0) x c.2) (record {
      parts = ap (behind (heads.Operates op)) (tail ∙ sym (simp append_assoc));
      fits = (let p = left.fits.0 in let q = right.fits.0 in omega arith, and_from _ _ left.fits.1 right.fits.1);
    })

at_takes : (form : FileForm) (depth : ℕ) (ts : List Lexeme) (x : Expr × List Lexeme) → has_tables form ≡ true → Taking expr_tokens (IsExpr form depth) (expr_at form depth)
    → at_with (expr_at form depth) ts ≡ Ok x → TakesExpr form (behind heads.Picks ts) (suc depth) x
unfolding at_with
at_takes form depth ts x tables operand e =
    let n = bind_ok (name_at ts) _ x e in
    let i = bind_ok (expr_at form depth n.0.1) _ x n.2 in
    let c = bind_ok (close_at i.0.1) _ x i.2 in
    let index = operand n.0.1 i.0 i.1 in
    let tail : ts ≡ token.Name n.0.0 ∷ (expr_tokens i.0.0 ++ (Closes ∷ c.0)) = name_takes ts n.0 n.1 ∙ ap (λ (us : List Lexeme). token.Name n.0.0 ∷ us) (index.parts ∙ ap (λ (us : List Lexeme). expr_tokens i.0.0 ++ us) (close_takes i.0.1 c.0 c.1)) in
    subst (TakesExpr form (behind heads.Picks ts) (suc depth)) (ok_is (At n.0.0 i.0.0, c.0) x c.2) (record {
      parts = ap (behind heads.Picks) (tail ∙ sym (simp append_assoc));
      fits = (let p = index.fits.0 in omega arith, and_from _ _ tables index.fits.1);
    })

all_takes : (form : FileForm) (depth : ℕ) (fold : Fold) (ts : List Lexeme) (x : Expr × List Lexeme) → has_tables form ≡ true
    → all_with fold ts ≡ Ok x → TakesExpr form (behind (heads.Folds fold) ts) (suc depth) x
unfolding all_with
all_takes form depth fold ts x tables e =
    let n = bind_ok (name_at ts) _ x e in
    let c = bind_ok (close_at n.0.1) _ x n.2 in
    let tail : ts ≡ token.Name n.0.0 ∷ Closes ∷ c.0 = name_takes ts n.0 n.1 ∙ ap (λ (us : List Lexeme). token.Name n.0.0 ∷ us) (close_takes n.0.1 c.0 c.1) in
    subst (TakesExpr form (behind (heads.Folds fold) ts) (suc depth)) (ok_is (OfAll fold n.0.0, c.0) x c.2) (record {
      parts = ap (behind (heads.Folds fold)) tail;
      fits = (omega arith, tables);
    })

head_takes_expr : (form : FileForm) (depth : ℕ) (kind : Head) (ts : List Lexeme) (x : Expr × List Lexeme) → head_formed form kind ≡ true → Taking expr_tokens (IsExpr form depth) (expr_at form depth)
    → head_with (expr_at form depth) kind ts ≡ Ok x → TakesExpr form (behind kind ts) (suc depth) x
head_takes_expr form depth (heads.Operates op) ts x formed operand e = binary_takes form depth op ts x operand e
head_takes_expr form depth heads.Picks ts x formed operand e = at_takes form depth ts x formed operand e
head_takes_expr form depth (heads.Folds fold) ts x formed operand e = all_takes form depth fold ts x formed e

compound_takes : (form : FileForm) (depth : ℕ) (ts : List Lexeme) (x : Expr × List Lexeme) → Taking expr_tokens (IsExpr form depth) (expr_at form depth)
    → compound_with form (expr_at form depth) ts ≡ Ok x → TakesExpr form (Opens ∷ ts) (suc depth) x
unfolding compound_with
compound_takes form depth ts x operand e =
    let a = bind_ok (name_at ts) _ x e in
    let k = bind_ok (head_of form a.0.0) _ x a.2 in
    let kind = head_takes form a.0.0 k.0 k.1 in
    let front : Opens ∷ ts ≡ behind k.0 a.0.1 = ap (λ (us : List Lexeme). Opens ∷ us) (name_takes ts a.0 a.1 ∙ ap (λ (w : List ℕ). token.Name w ∷ a.0.1) kind.worded) in
    subst (λ (us : List Lexeme). TakesExpr form us (suc depth) x) (sym front) (head_takes_expr form depth k.0 a.0.1 x kind.formed operand k.2)

from_takes : (form : FileForm) (depth : ℕ) (inside : List Lexeme → Result (Expr × List Lexeme) ReadFault) (t : Lexeme) (ts : List Lexeme) (x : Expr × List Lexeme) → (inside ts ≡ Ok x → TakesExpr form (Opens ∷ ts) depth x)
    → expr_from inside t ts ≡ Ok x → TakesExpr form (t ∷ ts) depth x
from_takes form depth inside Opens ts x h e = h e
from_takes form depth inside Closes ts x h e = absurd cc
from_takes form depth inside (token.Name text) ts x h e = subst (TakesExpr form (token.Name text ∷ ts) depth) (ok_is (Name text, ts) x e) (record { parts = refl; fits = (omega arith, refl) })
from_takes form depth inside (token.Int value) ts x h e = subst (TakesExpr form (token.Int value ∷ ts) depth) (ok_is (Int value, ts) x e) (record { parts = refl; fits = (omega arith, refl) })
from_takes form depth inside token.Other ts x h e = absurd cc

pub expr_takes : (form : FileForm) (depth : ℕ) → Taking expr_tokens (IsExpr form depth) (expr_at form depth)
unfolding expr_at
expr_takes form zero ts x e =
    let a = bind_ok (next_at ts) _ x e in
    subst (λ (us : List Lexeme). TakesExpr form us zero x) (sym (next_takes ts a.0 a.1)) (from_takes form zero (λ _. Err Shape) a.0.0 a.0.1 x (λ h. absurd cc) a.2)
expr_takes form (suc depth) ts x e =
    let a = bind_ok (next_at ts) _ x e in
    subst (λ (us : List Lexeme). TakesExpr form us (suc depth) x) (sym (next_takes ts a.0 a.1))
    (from_takes form (suc depth) (compound_with form (expr_at form depth)) a.0.0 a.0.1 x (compound_takes form depth a.0.1 x (expr_takes form depth)) a.2)

-- an expression by its word
step : (form : FileForm) (depth : ℕ) (kind : Head) (ts : List Lexeme) → head_formed form kind ≡ true → expr_at form (suc depth) (behind kind ts) ≡ head_with (expr_at form depth) kind ts
unfolding expr_at compound_with
step form depth kind ts formed = rw (name_again (head_word kind) ts, head_again form kind formed) refl

pub expr_again : (form : FileForm) (depth : ℕ) (e : Expr) (rest : List Lexeme) → IsExpr form depth e → expr_at form depth (expr_tokens e ++ rest) ≡ Ok (e, rest)
unfolding expr_at binary_with at_with all_with
expr_again form zero (Int value) rest h = refl
expr_again form (suc depth) (Int value) rest h = refl
expr_again form zero (Name name) rest h = refl
expr_again form (suc depth) (Name name) rest h = refl
expr_again form zero (At table index) rest h = absurd (let p = h.0 in omega arith)
expr_again form (suc depth) (At table index) rest h =
    let regrouped : (expr_tokens index ++ (Closes ∷ [])) ++ rest ≡ expr_tokens index ++ (Closes ∷ rest) = simp append_assoc in
    let formed = and_parts (has_tables form) (expr_formed form index) h.1 in
    let within : IsExpr form depth index = (let p = h.0 in omega arith, formed.1) in
    rw regrouped (step form depth heads.Picks (token.Name table ∷ (expr_tokens index ++ (Closes ∷ rest))) formed.0
    ∙ rw (name_again table (expr_tokens index ++ (Closes ∷ rest)), expr_again form depth index (Closes ∷ rest) within, close_again rest) refl)
expr_again form zero (OfAll fold table) rest h = absurd (let p = h.0 in omega arith)
expr_again form (suc depth) (OfAll fold table) rest h =
    step form depth (heads.Folds fold) (token.Name table ∷ Closes ∷ rest) h.1 ∙ rw (name_again table (Closes ∷ rest), close_again rest) refl
expr_again form zero (Binary op left right) rest h = absurd (let p = h.0 in omega arith)
expr_again form (suc depth) (Binary op left right) rest h =
    let regrouped : (((expr_tokens left ++ expr_tokens right) ++ (Closes ∷ [])) ++ rest) ≡ expr_tokens left ++ (expr_tokens right ++ (Closes ∷ rest)) = simp append_assoc in
    let formed = and_parts (expr_formed form left) (expr_formed form right) h.1 in
    let within : IsExpr form depth left = (let p = h.0 in omega arith, formed.0) in
    let also : IsExpr form depth right = (let p = h.0 in omega arith, formed.1) in
    rw regrouped (step form depth (heads.Operates op) (expr_tokens left ++ (expr_tokens right ++ (Closes ∷ rest))) refl
    ∙ rw (expr_again form depth left (expr_tokens right ++ (Closes ∷ rest)) within, expr_again form depth right (Closes ∷ rest) also, close_again rest) refl)
