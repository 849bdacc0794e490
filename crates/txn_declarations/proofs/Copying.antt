-- Copies that say the same.
use Rattle.std.proofs.Common.{◌≡◌, List, [], ◌∷◌, map, refl, sym, ◌∙◌, ap, Vec, Global}
use Rattle.txn_programs.specs.declared.ast.Stmt.{Stmt}
use Rattle.txn_programs.specs.declared.ast.Stmt.TheVariants as stmt
use Rattle.txn_programs.specs.Tree.{Statements, Seq, statement_of, statements_of_list}
use Rattle.txn_programs.proofs.Rows.{statement_Seq}

-- parts that say the same are the same sequence
pub list_same : (xs ys : List Stmt) → map statement_of xs ≡ map statement_of ys → statements_of_list xs ≡ statements_of_list ys
list_same [] [] e = refl
list_same [] (y ∷ ys) e = absurd (cc)
list_same (x ∷ xs) [] e = absurd (cc)
list_same (x ∷ xs) (y ∷ ys) e =
    let head : statement_of x ≡ statement_of y = cc in
    let tail : map statement_of xs ≡ map statement_of ys = cc in
    let rest = list_same xs ys tail in
    cc

-- the copy of a sequence, by the copies of its parts
pub seq_same : (s : Stmt) (parts copies : Vec Stmt Global) (slice : List Stmt) → s ≡ stmt.Seq parts → slice ≡ parts.items → map statement_of copies.items ≡ map statement_of slice → statement_of (stmt.Seq copies) ≡ statement_of s
seq_same s parts copies slice is all same =
    statement_Seq copies
    ∙ (ap (λ (l : Statements). Seq l) (list_same copies.items parts.items (same ∙ ap (map statement_of) all))
    ∙ (sym (statement_Seq parts) ∙ ap statement_of (sym is)))
