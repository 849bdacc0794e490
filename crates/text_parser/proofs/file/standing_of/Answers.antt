use Rattle.std.proofs.Common.{◌≡◌, ◌++◌, ◌∷◌, [], sym, ◌∙◌}
use Rattle.std.proofs.lemmas.Result.{err_from_is_err_and}
use Rattle.std.proofs.lemmas.List.{map_push}
use Rattle.std.specs.Prelude.{codes}
use Rattle.text_words.specs.Tokens.{tokens}
use Rattle.text_grammar.specs.View.{view_always, view_conditions}
use Rattle.text_grammar.specs.Reading.{always_at}
use Rattle.text_words.specs.TokenReading.{begins, all_of}
use Rattle.text_words.proofs.Many.{goes_on, ends_at_item, is_done}
use Rattle.text_grammar.proofs.Files.{always_shortens}
use Rattle.text_parser.proofs.file.standing_of.Goals as goal

pub returns-in_err-always : goal.returns-in_err-always
returns-in_err-always c =
    let p = err_from_is_err_and c.from_residual.result c.from_residual.ensures.1 in
    let word = codes "always" in
    rw (p.1, p.2) (ends_at_item c.in_err-always.field-0.0 (begins word) (always_at c.args.file_form) (always_shortens c.args.file_form) (view_conditions c.standing.standing.items) (tokens c.standing.rest.now) (all_of (begins word) (always_at c.args.file_form) (tokens c.args.bytes.now)) (sym c.begins.ensures ∙ c.standing-test.true) c.in_err-always.ensures.value c.standing.invariant)

pub standing-preserved : goal.standing-preserved
standing-preserved c =
    let always = c.in_ok-always.always in
    let word = codes "always" in
    let e : view_conditions c.push.new.self.items ≡ view_conditions c.standing.standing.items ++ view_always always ∷ [] = rw c.in_ok-push.ensures.items (map_push _ c.standing.standing.items always) in
    rw e (goes_on (begins word) (always_at c.args.file_form) (always_shortens c.args.file_form) (view_conditions c.standing.standing.items) (tokens c.standing.rest.now) (view_always always, tokens c.in_ok-always.after.now) (all_of (begins word) (always_at c.args.file_form) (tokens c.args.bytes.now)) (sym c.begins.ensures ∙ c.standing-test.true) c.in_ok-always.ensures.value c.standing.invariant)

pub returns : goal.returns
returns c =
    let word = codes "always" in
    is_done (begins word) (always_at c.args.file_form) (view_conditions c.standing.standing.items) (tokens c.standing.rest.now) (all_of (begins word) (always_at c.args.file_form) (tokens c.args.bytes.now)) (sym c.begins.ensures ∙ c.standing-test.false) c.standing.invariant
