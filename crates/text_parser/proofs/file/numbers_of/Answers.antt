use Rattle.std.proofs.Common.{◌≡◌, ◌++◌, ◌∷◌, [], arith}
use Rattle.std.proofs.lemmas.List.{map_push}
use Rattle.text_words.specs.Bytes.{int_value}
use Rattle.text_words.specs.Tokens.{tokens}
use Rattle.text_words.specs.TokenReading.{is_int, int_at, all_of}
use Rattle.text_grammar.specs.View.{view_numbers}
use Rattle.text_words.proofs.Many.{goes_on, is_done}
use Rattle.text_grammar.proofs.Lists.{int_shortens, is_int_next, no_int_next}
use Rattle.text_parser.proofs.file.numbers_of.Goals as goal

pub numbers-preserved : goal.numbers-preserved
numbers-preserved c =
    let number = c.in-Ok.number in
    let ts = tokens c.numbers.rest.now in
    let e : view_numbers c.push.new.self.items ≡ view_numbers c.numbers.numbers.items ++ int_value number.text.now ∷ [] = rw c.in_ok-push.ensures.items (map_push _ c.numbers.numbers.items number) in
    record {
      so_far = rw e (goes_on is_int int_at int_shortens (view_numbers c.numbers.numbers.items) ts (int_value number.text.now, tokens c.in-Ok.after.now) (all_of is_int int_at (tokens c.args.bytes.now)) (is_int_next ts (int_value number.text.now, tokens c.in-Ok.after.now) c.in-Ok.ensures.value) c.in-Ok.ensures.value c.numbers.invariant.so_far);
      within = let shorter = c.in-Ok.ensures.shorter in let within = c.numbers.invariant.within in omega arith;
    }

pub returns-clause-value : goal.returns-clause-value
returns-clause-value c =
    let ts = tokens c.numbers.rest.now in
    let stop = no_int_next ts c.in_default.field-0 c.in_default.ensures.kind c.in_default.ensures.value in
    is_done is_int int_at (view_numbers c.numbers.numbers.items) ts (all_of is_int int_at (tokens c.args.bytes.now)) stop c.numbers.invariant.so_far
