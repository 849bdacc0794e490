use Rattle.text_words.specs.Tokens.{tokens}
use Rattle.text_resolver.specs.Scopes.{view_scope}
use Rattle.text_file_reader.proofs.Made.{fold_makes}
use Rattle.text_file_reader.proofs.expressions.fold_at_once.Goals as goal

pub returns : goal.returns
returns c =
    rw c.of_all.ensures (fold_makes (view_scope c.args.scope.now) c.args.fold (tokens c.args.bytes.now) (tokens c.in_ok-name.rest.now) (tokens c.in_ok-rest.rest.now) c.in_ok-name.name.now c.in_ok-cells.cells
    c.in_ok-name.ensures.value c.in_ok-cells.ensures.value c.in_ok-rest.ensures.value)
