use Rattle.std.proofs.Common.{◌≡◌, ◌++◌, ◌∷◌, [], arith}
use Rattle.std.proofs.lemmas.List.{map_push}
use Rattle.text_words.specs.Tokens.{tokens}
use Rattle.text_words.specs.TokenReading.{is_name, name_at, all_of}
use Rattle.text_grammar.specs.View.{view_names}
use Rattle.text_words.proofs.Many.{goes_on, is_done}
use Rattle.text_grammar.proofs.Lists.{name_shortens, is_name_next, no_name_next}
use Rattle.text_parser.proofs.file.names_of.Goals as goal

pub names-preserved : goal.names-preserved
names-preserved c =
    let name = c.in-Ok.name in
    let ts = tokens c.names.rest.now in
    let e : view_names c.push.new.self.items ≡ view_names c.names.names.items ++ name.now ∷ [] = rw c.in_ok-push.ensures.items (map_push _ c.names.names.items name) in
    record {
      so_far = rw e (goes_on is_name name_at name_shortens (view_names c.names.names.items) ts (name.now, tokens c.in-Ok.after.now) (all_of is_name name_at (tokens c.args.bytes.now)) (is_name_next ts (name.now, tokens c.in-Ok.after.now) c.in-Ok.ensures.value) c.in-Ok.ensures.value c.names.invariant.so_far);
      within = let shorter = c.in-Ok.ensures.shorter in let within = c.names.invariant.within in omega arith;
    }

pub returns-clause-value : goal.returns-clause-value
returns-clause-value c =
    let ts = tokens c.names.rest.now in
    let stop = no_name_next ts c.in_default.field-0 c.in_default.ensures.kind c.in_default.ensures.value in
    is_done is_name name_at (view_names c.names.names.items) ts (all_of is_name name_at (tokens c.args.bytes.now)) stop c.names.invariant.so_far
