use Rattle.std.proofs.Common.{◌≡◌, ◌++◌, drop, string_bytes}
use Rattle.txn_programs.specs.Tree.{statements_of_list}
use Rattle.text_grammar.specs.Written.{written_statements}
use Rattle.text_file_printer.specs.Canonical.{stmts_text}
use Rattle.text_file_printer.specs.Named.{StatementsNamed}
use Rattle.text_file_printer.specs.Scopes.{view_scope}
use Rattle.text_file_printer.specs.Fits.{StmtsFit}
use Rattle.text_file_printer.proofs.forms.+put_stmt.Given as goal

abbrev pub invariant-put_seq-loop-part : goal.invariant-put_seq-loop-part
invariant-put_seq-loop-part l = record {
  text : string_bytes l.out ++ stmts_text (written_statements (view_scope l.scope) (statements_of_list (drop l.part-index l.parts))) ≡ string_bytes l.initial.out ++ stmts_text (written_statements (view_scope l.scope) (statements_of_list l.parts));
  known : StatementsNamed (view_scope l.scope) (statements_of_list (drop l.part-index l.parts));
  fits : StmtsFit (written_statements (view_scope l.scope) (statements_of_list (drop l.part-index l.parts))) → StmtsFit (written_statements (view_scope l.scope) (statements_of_list l.parts));
}
