-- The parts of a sequence as a list, and steps along it.
use Rattle.std.proofs.Common.{◌≡◌, ℕ, suc, ◌+◌, ◌-◌, ◌<◌, refl, ap, ◌∙◌, arith, Vec, Global}
use mathlib.Core.Former.{Count}
use Rattle.txn_programs.specs.Meaning.{Ending, then_do, repeated}
use Rattle.txn_programs.specs.Tree.{Statement, Statements, More, statement_of, statements_of, statements_of_list}
use Rattle.txn_programs.specs.Tree as tree
use Rattle.txn_programs.specs.declared.ast.Stmt.{Stmt, Seq, Seq', Row_of-Stmt, end_of-Stmt, more_of-Stmt, items-the_row-Stmt, items_hidden-the_row-Stmt-0}

statements_items : (n : _) (row : Row_of-Stmt n) → statements_of row ≡ statements_of_list (items-the_row-Stmt n row)
statements_items n end_of-Stmt = refl
statements_items n (more_of-Stmt s rest) = ap (More (statement_of s)) (statements_items _ rest)

abbrev row_of : Stmt → (n : Count) × Row_of-Stmt n
row_of (Seq' _ row) = (_, row)
row_of _ = (_, end_of-Stmt)

-- a sequence is that of its parts, as a list
pub statement_Seq : (parts : Vec Stmt Global) → statement_of (Seq parts) ≡ tree.Seq (statements_of_list parts.items)
statement_Seq parts =
    let row = row_of (Seq parts) in
    ap tree.Seq (statements_items row.0 row.1 ∙ ap statements_of_list (items_hidden-the_row-Stmt-0 parts))

-- one turn, and the times that are left
pub repeated_step : {S E : Type 0} (n k : ℕ) (go : S → Ending S E) (m : S) → k < n → repeated (n - k) go m ≡ then_do (go m) (repeated (n - (k + 1)) go)
repeated_step n k go m lt =
    let e : n - k ≡ suc (n - (k + 1)) = omega arith in
    ap (λ j. repeated j go m) e
