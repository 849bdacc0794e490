use Rattle.txn_programs.specs.Tree.{expression_of}
use Rattle.text_words.specs.Tokens.{tokens}
use Rattle.text_grammar.specs.Reading.{expr_at}
use Rattle.text_resolver.specs.Scopes.{view_scope}
use Rattle.text_file_reader.proofs.Made.{put_makes}
use Rattle.text_file_reader.proofs.statements.put_at_once.Goals as goal

pub returns-in-Ok : goal.returns-in-Ok
returns-in-Ok c =
    put_makes (view_scope c.args.scope.now) (expr_at c.args.file_form c.args.depth) (tokens c.args.bytes.now) (tokens c.in_ok-name.rest.now) (tokens c.in_ok-index.rest.now) (tokens c.in-Ok.rest.now)
    c.in_ok-name.name.now c.in_ok-cells.cells (expression_of c.in_ok-index.index) (expression_of c.in-Ok.value) c.in_ok-name.ensures.value c.in_ok-cells.ensures.value c.in_ok-index.ensures c.in-Ok.ensures
