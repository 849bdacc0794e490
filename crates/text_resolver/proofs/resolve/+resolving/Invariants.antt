use Rattle.std.proofs.Common.{◌≡◌, drop, map}
use Rattle.txn_programs.specs.Tree.{statement_of}
use Rattle.text_grammar.specs.Resolving.{each, statement_in}
use Rattle.text_resolver.specs.Scopes.{view_scope}
use Rattle.text_grammar.specs.View.{view_stmts}
use Rattle.text_resolver.proofs.Each.{joined}
use Rattle.text_resolver.proofs.resolve.+resolving.Given as goal

abbrev pub invariant-statements-parts : goal.invariant-statements-parts
invariant-statements-parts l = joined (map statement_of l.made.items) (each (statement_in (view_scope l.scope)) (view_stmts (drop l.part-index l.parts))) ≡ each (statement_in (view_scope l.scope)) (view_stmts l.parts)
