use Rattle.txn_programs.specs.Tree.{condition_of}
use Rattle.text_words.specs.Tokens.{tokens}
use Rattle.text_resolver.specs.Scopes.{view_scope}
use Rattle.text_file_reader.proofs.Made.{always_makes}
use Rattle.text_file_reader.proofs.at_once.always_at_once.Goals as goal

pub returns-in-Ok : goal.returns-in-Ok
returns-in-Ok c =
    rw c.in_ok-held.ensures.ok (always_makes c.args.file_form (view_scope c.args.outer.now) (tokens c.args.bytes.now) (tokens c.in_ok-rest.rest.now) (tokens c.in_ok-name.rest.now) (tokens c.in_ok-condition.rest.now)
    (tokens c.in-Ok.rest.now) c.in_ok-name.name.now (condition_of c.in_ok-condition.condition) c.in_ok-rest.ensures.value c.in_ok-name.ensures.value c.in_ok-condition.ensures c.in-Ok.ensures.value)
