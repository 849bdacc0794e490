-- How many nodes calls stand for.
use Rattle.std.proofs.Common.{◌≡◌, ℕ, zero, suc, List, [], ◌∷◌, map, Option, Some, None, refl, ap}
use Rattle.std.specs.Prelude.{slice_index_or, position, bytes_eq}
use Rattle.text_grammar.specs.Tree.{Expr, Cond, Argument, Stmt, Stmts, NoStmts, MoreStmts}
use Rattle.text_grammar.specs.Tree as f
use Rattle.text_grammar.specs.Calls.{Given, argument_expr, argument_at, expr_given, cond_given, stmt_given, stmts_given, expr_nodes, cond_nodes, stmt_nodes, stmts_nodes}

-- a number and a name are one node each
argument_nodes : (given : List Argument) (place : ℕ) (name : List ℕ) → expr_nodes (slice_index_or (map argument_expr given) place (f.Name name)) ≡ 1
argument_nodes [] place name = refl
argument_nodes (f.Number value ∷ given) zero name = refl
argument_nodes (f.Parameter text ∷ given) zero name = refl
argument_nodes (one ∷ given) (suc place) name = argument_nodes given place name

name_nodes : (given : List Argument) (name : List ℕ) (o : Option ℕ) → expr_nodes (argument_at given name o) ≡ 1
name_nodes given name None = refl
name_nodes given name (Some place) = argument_nodes given place name

expr_nodes_given : (g : Given) (e : Expr) → expr_nodes (expr_given g e) ≡ expr_nodes e
expr_nodes_given g (f.Int value) = refl
expr_nodes_given g (f.Name name) = name_nodes g.arguments name (position (bytes_eq name) g.parameters)
expr_nodes_given g (f.At table index) = ap suc (expr_nodes_given g index)
expr_nodes_given g (f.OfAll fold table) = refl
expr_nodes_given g (f.Binary op left right) = rw (expr_nodes_given g left, expr_nodes_given g right) refl

cond_nodes_given : (g : Given) (c : Cond) → cond_nodes (cond_given g c) ≡ cond_nodes c
cond_nodes_given g (f.Compare op left right) = rw (expr_nodes_given g left, expr_nodes_given g right) refl
cond_nodes_given g (f.Not inner) = ap suc (cond_nodes_given g inner)
cond_nodes_given g (f.Connect op left right) = rw (cond_nodes_given g left, cond_nodes_given g right) refl

mutual
  pub stmt_nodes_given : (g : Given) (s : Stmt) → stmt_nodes (stmt_given g s) ≡ stmt_nodes s
  stmt_nodes_given g f.Skip = refl
  stmt_nodes_given g (f.Set name value) = ap suc (expr_nodes_given g value)
  stmt_nodes_given g (f.Put table index value) = rw (expr_nodes_given g index, expr_nodes_given g value) refl
  stmt_nodes_given g (f.Seq parts) = ap suc (stmts_nodes_given g parts)
  stmt_nodes_given g (f.If test first second) = rw (cond_nodes_given g test, stmt_nodes_given g first, stmt_nodes_given g second) refl
  stmt_nodes_given g (f.Repeat count body) = ap suc (stmt_nodes_given g body)
  stmt_nodes_given g f.Retry = refl
  stmt_nodes_given g (f.OrElse first second) = rw (stmt_nodes_given g first, stmt_nodes_given g second) refl
  stmt_nodes_given g (f.Throw value) = ap suc (expr_nodes_given g value)
  stmt_nodes_given g (f.Call name arguments) = refl

  stmts_nodes_given : (g : Given) (ss : Stmts) → stmts_nodes (stmts_given g ss) ≡ stmts_nodes ss
  stmts_nodes_given g NoStmts = refl
  stmts_nodes_given g (MoreStmts first others) = rw (stmt_nodes_given g first, stmts_nodes_given g others) refl
