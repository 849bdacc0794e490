-- What a sequence is seen as.
use Rattle.std.proofs.Common.{◌≡◌, refl, ap, ◌∙◌, Vec, Global}
use mathlib.Core.Former.{Count}
use Rattle.text_grammar.specs.declared.stmt.RawStmt.{RawStmt, Seq, Seq', Row_of-RawStmt, end_of-RawStmt, more_of-RawStmt, items-the_row-RawStmt, items_hidden-the_row-RawStmt-0}
use Rattle.text_grammar.specs.Tree.{Stmts, MoreStmts}
use Rattle.text_grammar.specs.Tree as tree
use Rattle.text_grammar.specs.Reading.{row}
use Rattle.text_grammar.specs.View.{view_stmt, view_row, view_stmts}

view_items : (n : _) (parts : Row_of-RawStmt n) → view_row parts ≡ row (view_stmts (items-the_row-RawStmt n parts))
view_items n end_of-RawStmt = refl
view_items n (more_of-RawStmt s rest) = ap (MoreStmts (view_stmt s)) (view_items _ rest)

abbrev row_of : RawStmt → (n : Count) × Row_of-RawStmt n
row_of (Seq' _ parts) = (_, parts)
row_of _ = (_, end_of-RawStmt)

-- a sequence is that of its parts, as a list
pub view_seq : (parts : Vec RawStmt Global) → view_stmt (Seq parts) ≡ tree.Seq (row (view_stmts parts.items))
view_seq parts =
    let held = row_of (Seq parts) in
    ap tree.Seq (view_items held.0 held.1 ∙ ap (λ ss. row (view_stmts ss)) (items_hidden-the_row-RawStmt-0 parts))
