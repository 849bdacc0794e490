-- The statements of a sequence, put one by one.
use Rattle.std.proofs.Common.{◌≡◌, ◌∙◌, ℕ, suc, ◌+◌, ◌<◌, List, ◌∷◌, ◌++◌, length, get_or, drop, sym, ap, subst, append_assoc, add-one}
use Rattle.std.proofs.Math.Seq.{drop-cons}
use Rattle.txn_programs.specs.declared.ast.Stmt.{Stmt}
use Rattle.txn_programs.specs.Tree.{statement_of, statements_of_list}
use Rattle.text_grammar.specs.Scope.{Scope}
use Rattle.text_grammar.specs.Written.{written_statement, written_statements}
use Rattle.text_file_printer.specs.Canonical.{spaced, stmt_text, stmts_text}
use Rattle.text_file_printer.specs.Named.{StatementsNamed}
use Rattle.text_file_printer.specs.Fits.{StmtFits, StmtsFit}

-- an item and those behind it
pub next_part : {X : Type 0} (xs : List X) (i : ℕ) (x : X) → i < length xs → x ≡ get_or xs i x → drop i xs ≡ x ∷ drop (i + 1) xs
next_part xs i x lt is = drop-cons xs i x lt ∙ ap (λ y. y ∷ drop (suc i) xs) (sym is) ∙ ap (λ k. x ∷ drop k xs) (sym (add-one i))

pub parts_text : (names : Scope) (xs : List Stmt) (i : ℕ) (x : Stmt) (out after total : List ℕ) → i < length xs → x ≡ get_or xs i x
    → out ++ stmts_text (written_statements names (statements_of_list (drop i xs))) ≡ total → after ≡ out ++ spaced (stmt_text (written_statement names (statement_of x)))
    → after ++ stmts_text (written_statements names (statements_of_list (drop (i + 1) xs))) ≡ total
parts_text names xs i x out after total lt is so_far put =
    let text = λ (ys : List Stmt). stmts_text (written_statements names (statements_of_list ys)) in
    ap (λ t. t ++ text (drop (i + 1) xs)) put ∙ append_assoc out (spaced (stmt_text (written_statement names (statement_of x)))) (text (drop (i + 1) xs))
    ∙ ap (λ ys. out ++ text ys) (sym (next_part xs i x lt is)) ∙ so_far

pub parts_known : (names : Scope) (xs : List Stmt) (i : ℕ) (x : Stmt) → i < length xs → x ≡ get_or xs i x → StatementsNamed names (statements_of_list (drop i xs)) → StatementsNamed names (statements_of_list (drop (i + 1) xs))
parts_known names xs i x lt is known = (subst (λ ys. StatementsNamed names (statements_of_list ys)) (next_part xs i x lt is) known).1

pub parts_fit : (names : Scope) (xs : List Stmt) (i : ℕ) (x : Stmt) → i < length xs → x ≡ get_or xs i x → StmtFits (written_statement names (statement_of x))
    → StmtsFit (written_statements names (statements_of_list (drop (i + 1) xs))) → StmtsFit (written_statements names (statements_of_list (drop i xs)))
parts_fit names xs i x lt is fits rest = subst (λ ys. StmtsFit (written_statements names (statements_of_list ys))) (sym (next_part xs i x lt is)) (fits, rest)
