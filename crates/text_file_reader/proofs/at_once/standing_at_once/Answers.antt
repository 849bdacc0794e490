use Rattle.std.proofs.Common.{◌≡◌, ◌++◌, ◌∷◌, [], map, sym, ◌∙◌}
use Rattle.std.specs.Prelude.{codes}
use Rattle.std.proofs.lemmas.List.{map_push}
use Rattle.text_words.specs.Tokens.{tokens}
use Rattle.text_words.specs.TokenReading.{begins, all_of}
use Rattle.text_grammar.specs.Reading.{always_at}
use Rattle.text_grammar.specs.Resolving.{always_in, condition_name}
use Rattle.text_grammar.proofs.Files.{always_shortens}
use Rattle.text_resolver.specs.Texts.{texts}
use Rattle.text_resolver.specs.Scopes.{view_scope}
use Rattle.text_resolver.specs.Parts.{view_condition}
use Rattle.text_file_reader.proofs.AtOnce.{none_yet, one_more, no_more, takes_one}
use Rattle.text_file_reader.proofs.at_once.standing_at_once.Goals as goal

pub standing-init : goal.standing-init
standing-init c = rw (c.new-made.ensures.items, c.new-names.ensures.empty) (none_yet (codes "always") (always_at c.args.file_form) (always_in (view_scope c.args.outer.now)) condition_name (tokens c.args.bytes.now))

pub standing-preserved : goal.standing-preserved
standing-preserved c =
    let word = codes "always" in
    let condition = c.in_ok-name.condition in
    let e : map view_condition c.push.new.self.items ≡ map view_condition c.standing.made.items ++ view_condition condition ∷ [] = rw c.in_ok-push.ensures.items (map_push view_condition c.standing.made.items condition) in
    rw e (one_more word (always_at c.args.file_form) (always_in (view_scope c.args.outer.now)) condition_name (always_shortens c.args.file_form) (all_of (begins word) (always_at c.args.file_form) (tokens c.args.bytes.now)) (map view_condition c.standing.made.items)
    (texts c.standing.names.keys) (texts c.declare.new.names.keys) (tokens c.standing.rest.now) (tokens c.in_ok-name.after.now) (view_condition condition) c.in_ok-name.name.now c.standing.invariant
    (sym c.begins.ensures ∙ c.standing-test.true) c.in_ok-name.ensures c.in_ok-declare.ensures)

pub standing-smaller : goal.standing-smaller
standing-smaller c = takes_one (always_at c.args.file_form) (always_in (view_scope c.args.outer.now)) condition_name (always_shortens c.args.file_form) (tokens c.standing.rest.now) (tokens c.in_ok-name.after.now) (view_condition c.in_ok-name.condition) c.in_ok-name.name.now c.in_ok-name.ensures

pub returns : goal.returns
returns c =
    let word = codes "always" in (
      texts c.standing.names.keys,
      no_more word (always_at c.args.file_form) (always_in (view_scope c.args.outer.now)) condition_name (all_of (begins word) (always_at c.args.file_form) (tokens c.args.bytes.now)) (map view_condition c.standing.made.items)
          (texts c.standing.names.keys) (tokens c.standing.rest.now) c.standing.invariant (sym c.begins.ensures ∙ c.standing-test.false),
    )
