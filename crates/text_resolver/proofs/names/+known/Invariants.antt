use Rattle.std.proofs.Common.{◌≡◌, drop}
use Rattle.text_grammar.specs.Reading.{row}
use Rattle.text_grammar.specs.Resolving.{stmts_known}
use Rattle.text_resolver.specs.Scopes.{view_scope}
use Rattle.text_grammar.specs.View.{view_stmts}
use Rattle.text_resolver.proofs.names.+known.Given as goal

abbrev pub invariant-stmts_known-parts : goal.invariant-stmts_known-parts
invariant-stmts_known-parts l = stmts_known (view_scope l.scope) (row (view_stmts (drop l.part-index l.parts))) ≡ stmts_known (view_scope l.scope) (row (view_stmts l.parts))
