use Rattle.std.proofs.Common.{◌≡◌, ◌++◌, ◌∷◌, [], Ok, refl, ◌∙◌, subst}
use Rattle.std.specs.Prelude.{codes}
use Rattle.text_words.specs.Tokens.{tokens}
use Rattle.text_words.specs.TokenReading.{begins, all_of}
use Rattle.text_grammar.specs.Reading.{run_at}
use Rattle.text_grammar.specs.Resolving.{run_in}
use Rattle.text_grammar.proofs.Files.{run_shortens}
use Rattle.text_parser.proofs.Begins.{begun, not_begun}
use Rattle.text_resolver.specs.Texts.{texts}
use Rattle.text_file_reader.proofs.AtOnce.{none_made, one_made, all_made, behind_word}
use Rattle.text_file_reader.proofs.runs.calls_at_once.Goals as goal

pub runs-init : goal.runs-init
runs-init c = rw c.new-made.ensures.items (none_made (begins (codes "run")) (run_at c.args.file_form) (run_in (texts c.args.names.now.keys)) (tokens c.args.bytes.now))

pub runs-preserved : goal.runs-preserved
runs-preserved c =
    let word = codes "run" in
    let form = c.args.file_form in
    let ts = tokens c.runs.rest.now in
    let inside = tokens c.in-Ok.inside.now in
    rw c.in_ok-push-in-Ok-run_at_once.ensures.items (one_made (begins word) (run_at form) (run_in (texts c.args.names.now.keys)) (run_shortens form) (all_of (begins word) (run_at form) (tokens c.args.bytes.now)) c.runs.made.items ts (tokens c.in-Ok-run_at_once.after.now) c.in-Ok-run_at_once.call c.runs.invariant
    (begun word ts inside c.in-Ok.ensures.value) (behind_word form (run_in (texts c.args.names.now.keys)) ts inside (tokens c.in-Ok-run_at_once.after.now) c.in-Ok-run_at_once.call c.in-Ok.ensures.value c.in-Ok-run_at_once.ensures.value))

pub returns : goal.returns
returns c =
    let word = codes "run" in
    let form = c.args.file_form in
    let ts = tokens c.runs.rest.now in
    all_made (begins word) (run_at form) (run_in (texts c.args.names.now.keys)) (all_of (begins word) (run_at form) (tokens c.args.bytes.now)) c.runs.made.items ts c.runs.invariant (not_begun word ts c.in_default.field-0 c.in_default.ensures.kind c.in_default.ensures.value)
