use Rattle.std.proofs.Common.{◌≡◌, ◌∙◌, sym, ap, subst, refl, ◌↔◌, IsTrue, Bool, ◌==◌, List, [], ◌∷◌, length, drop, arith, length-drop}
use Rattle.std.specs.Cmp.{unsigned_Decides}
use Rattle.std.proofs.lemmas.Grind.{common_steps}
use Rattle.std.proofs.lemmas.List.{nil_from_length}
use Rattle.txn_programs.specs.declared.ast.Stmt.{Stmt}
use Rattle.txn_programs.specs.Tree.{Seq, End, Statements, statement_of, statements_of_list}
use Rattle.txn_programs.proofs.Rows.{statement_Seq}
use Rattle.txn_declarations.proofs.same.+same.Goals as goal

same_parts : {a b : Statements} → Seq a ≡ Seq b → a ≡ b
same_parts e = cc

-- no part is left
nothing_left : (rest : List Stmt) (b : Bool) → b ≡ (length rest == 0) → IsTrue b ↔ (End ≡ statements_of_list rest)
nothing_left [] b e = (λ _. refl, λ _. e)
nothing_left (p ∷ rest) b e = (λ h. let none : length (p ∷ rest) ≡ 0 = (unsigned_Decides _ _).0 (sym e ∙ h) in absurd (omega arith), λ h. cc)

pub same_statement-returns-in-Seq-Seq : goal.same_statement-returns-in-Seq-Seq
same_statement-returns-in-Seq-Seq t c =
    let a : statement_of c.args.a.now ≡ Seq (statements_of_list c.as_slice.result.now) =
    ap statement_of c.in-Seq-Seq.is-0 ∙ statement_Seq c.in-Seq-Seq.parts ∙ ap (λ l. Seq (statements_of_list l)) (sym c.as_slice.ensures.value) in
    let b : statement_of c.args.b.now ≡ Seq (statements_of_list c.as_slice-in-Seq-Seq.result.now) =
    ap statement_of c.in-Seq-Seq.is-1 ∙ statement_Seq c.in-Seq-Seq.others ∙ ap (λ l. Seq (statements_of_list l)) (sym c.as_slice-in-Seq-Seq.ensures.value) in
    (λ h. a ∙ ap Seq (c.same_statements.ensures.0 h) ∙ sym b, λ e. c.same_statements.ensures.1 (same_parts (sym a ∙ e ∙ b)))

pub same_statements-returns : goal.same_statements-returns
same_statements-returns t c =
    let done : drop c.loop-part.part-index c.args.parts.now ≡ [] = nil_from_length _ (omega (arith, length-drop c.loop-part.part-index c.args.parts.now)) in
    let told = nothing_left c.loop-part.rest.now c.is_empty.result c.is_empty.ensures in
    let whole = subst (λ (l : List Stmt). (statements_of_list l ≡ statements_of_list c.loop-part.rest.now) ↔ (statements_of_list c.args.parts.now ≡ statements_of_list c.args.others.now)) done c.loop-part.invariant in
    (λ h. whole.0 (told.0 h), λ e. told.1 (whole.1 e))

pub same_statement-returns-in-Skip-Skip : goal.same_statement-returns-in-Skip-Skip
same_statement-returns-in-Skip-Skip t c = grind (arith, common_steps)

pub same_statement-returns-then-x-y : goal.same_statement-returns-then-x-y
same_statement-returns-then-x-y t c = grind (arith, common_steps)

pub same_statement-returns-else-x-y : goal.same_statement-returns-else-x-y
same_statement-returns-else-x-y t c = grind (arith, common_steps)

pub same_statement-returns-then-same_statement : goal.same_statement-returns-then-same_statement
same_statement-returns-then-same_statement t c = grind (arith, common_steps)

pub same_statement-returns-else-same_statement : goal.same_statement-returns-else-same_statement
same_statement-returns-else-same_statement t c = grind (arith, common_steps)

pub same_statement-returns-then-same_statement-2 : goal.same_statement-returns-then-same_statement-2
same_statement-returns-then-same_statement-2 t c = grind (arith, common_steps)

pub same_statement-returns-else-same_statement-2 : goal.same_statement-returns-else-same_statement-2
same_statement-returns-else-same_statement-2 t c = grind (arith, common_steps)

pub same_statement-returns-then-m-n : goal.same_statement-returns-then-m-n
same_statement-returns-then-m-n t c = grind (arith, common_steps)

pub same_statement-returns-else-m-n : goal.same_statement-returns-else-m-n
same_statement-returns-else-m-n t c = grind (arith, common_steps)

pub same_statement-returns-in-Throw-Throw : goal.same_statement-returns-in-Throw-Throw
same_statement-returns-in-Throw-Throw t c = grind (arith, common_steps)

pub same_statements-returns-in_default : goal.same_statements-returns-in_default
same_statements-returns-in_default t c = grind (arith, common_steps)

pub same_statements-returns-then-not-same_statement : goal.same_statements-returns-then-not-same_statement
same_statements-returns-then-not-same_statement t c = grind (arith, common_steps)
