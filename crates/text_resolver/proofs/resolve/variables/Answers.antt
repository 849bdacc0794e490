use Rattle.std.proofs.Common.{◌≡◌, ◌++◌, ◌∷◌, [], map}
use Rattle.std.proofs.lemmas.List.{map_push}
use Rattle.text_grammar.specs.Resolving.{each, variable_of}
use Rattle.text_grammar.specs.View.{view_pair, view_pairs}
use Rattle.text_resolver.specs.Parts.{view_variable}
use Rattle.text_resolver.proofs.Each.{loop_more, loop_fails}
use Rattle.std.proofs.lemmas.Result.{err_from_is_err_and}
use Rattle.text_resolver.proofs.resolve.variables.Goals as goal

pub pairs-preserved : goal.pairs-preserved
pairs-preserved c =
    let made = c.in_ok-variable.variable in
    let xs = c.args.pairs.now in
    let e : map view_variable c.push.new.self.items ≡ map view_variable c.pairs.made.items ++ view_variable made ∷ [] = rw c.in_ok-push.ensures.items (map_push view_variable c.pairs.made.items made) in
    rw e (loop_more variable_of view_pair (map view_variable c.pairs.made.items) xs c.pairs.pair-index c.pair-item.result (view_variable made) (each variable_of (view_pairs xs)) c.pairs-test.true c.pair-item.is c.in_ok-variable.ensures c.pairs.invariant)

pub returns-in_err-variable : goal.returns-in_err-variable
returns-in_err-variable c =
    let p = err_from_is_err_and c.from_residual-in_err-variable.result c.from_residual-in_err-variable.ensures.1 in
    let xs = c.args.pairs.now in
    rw (p.1, p.2) (loop_fails _ variable_of view_pair (map view_variable c.pairs.made.items) xs c.pairs.pair-index c.pair-item.result (each variable_of (view_pairs xs))
    c.pairs-test.true c.pair-item.is c.in_err-variable.ensures c.pairs.invariant)
