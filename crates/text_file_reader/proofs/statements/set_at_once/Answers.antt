use Rattle.txn_programs.specs.Tree.{expression_of}
use Rattle.text_words.specs.Tokens.{tokens}
use Rattle.text_grammar.specs.Reading.{expr_at}
use Rattle.text_resolver.specs.Scopes.{view_scope}
use Rattle.text_file_reader.proofs.Made.{set_makes}
use Rattle.text_file_reader.proofs.statements.set_at_once.Goals as goal

pub returns : goal.returns
returns c =
    set_makes (view_scope c.args.scope.now) (expr_at c.args.file_form c.args.depth) (tokens c.args.bytes.now) (tokens c.in_ok-name.rest.now) (tokens c.in_ok-value.rest.now)
    c.in_ok-name.name.now c.in_ok-id.id (expression_of c.in_ok-value.value) c.in_ok-name.ensures.value c.in_ok-id.ensures.value c.in_ok-value.ensures
