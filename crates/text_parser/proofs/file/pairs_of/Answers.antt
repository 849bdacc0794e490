use Rattle.std.proofs.Common.{◌≡◌, ◌++◌, ◌∷◌, [], ℕ, List, Ok, refl, sym, subst, ◌∙◌}
use Rattle.std.proofs.lemmas.Result.{err_from_is_err_and}
use Rattle.std.proofs.lemmas.List.{map_push}
use Rattle.text_words.specs.Answers.{Fails}
use Rattle.text_words.specs.Tokens.{Lexeme, tokens}
use Rattle.text_grammar.specs.View.{view_pair, view_pairs}
use Rattle.text_grammar.specs.Reading.{pair_at, pair_behind}
use Rattle.text_words.specs.TokenReading.{form_at, begins, all_of}
use Rattle.text_words.proofs.Many.{goes_on, ends_at_item, is_done}
use Rattle.text_grammar.proofs.Files.{pair_shortens}
use Rattle.text_parser.proofs.Begins.{begun, not_begun}
use Rattle.text_parser.proofs.file.pairs_of.Goals as goal

-- a pair is what stands behind its parenthesis and its word
behind : (word : List ℕ) (ts rest : List Lexeme) → form_at word ts ≡ Ok rest → pair_at word ts ≡ pair_behind rest
unfolding pair_at
behind word ts rest e = rw e refl

pub returns-in_err-pair : goal.returns-in_err-pair
returns-in_err-pair c =
    let p = err_from_is_err_and c.from_residual.result c.from_residual.ensures.1 in
    let word = c.args.word.now in
    let ts = tokens c.pairs.rest.now in
    let inside = tokens c.in-Ok.inside.now in
    let fails = subst (Fails c.in_err-pair.field-0.0) (sym (behind word ts inside c.in-Ok.ensures.value)) c.in_err-pair.ensures.value in
    rw (p.1, p.2) (ends_at_item c.in_err-pair.field-0.0 (begins word) (pair_at word) (pair_shortens word) (view_pairs c.pairs.pairs.items) ts (all_of (begins word) (pair_at word) (tokens c.args.bytes.now)) (begun word ts inside c.in-Ok.ensures.value) fails c.pairs.invariant)

pub pairs-preserved : goal.pairs-preserved
pairs-preserved c =
    let pair = c.in_ok-pair.pair in
    let word = c.args.word.now in
    let ts = tokens c.pairs.rest.now in
    let inside = tokens c.in-Ok.inside.now in
    let read = behind word ts inside c.in-Ok.ensures.value ∙ c.in_ok-pair.ensures.value in
    let e : view_pairs c.push.new.self.items ≡ view_pairs c.pairs.pairs.items ++ view_pair pair ∷ [] = rw c.in_ok-push.ensures.items (map_push _ c.pairs.pairs.items pair) in
    rw e (goes_on (begins word) (pair_at word) (pair_shortens word) (view_pairs c.pairs.pairs.items) ts (view_pair pair, tokens c.in_ok-pair.after.now) (all_of (begins word) (pair_at word) (tokens c.args.bytes.now)) (begun word ts inside c.in-Ok.ensures.value) read c.pairs.invariant)

pub returns : goal.returns
returns c =
    let word = c.args.word.now in
    let ts = tokens c.pairs.rest.now in
    let stop = not_begun word ts c.in_default.field-0 c.in_default.ensures.kind c.in_default.ensures.value in
    is_done (begins word) (pair_at word) (view_pairs c.pairs.pairs.items) ts (all_of (begins word) (pair_at word) (tokens c.args.bytes.now)) stop c.pairs.invariant
