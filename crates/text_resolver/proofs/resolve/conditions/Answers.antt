use Rattle.std.proofs.Common.{◌≡◌, ◌∙◌, ◌++◌, ◌∷◌, [], length, map, sym, ap, arith}
use Rattle.std.specs.Vec.Iter.{into_iter_items}
use Rattle.std.proofs.lemmas.List.{map_push}
use Rattle.text_resolver.specs.Parts.{view_condition}
use Rattle.text_grammar.specs.Resolving.{each, always_in}
use Rattle.text_resolver.specs.Scopes.{view_scope}
use Rattle.text_grammar.specs.View.{view_always, view_conditions}
use Rattle.text_resolver.proofs.Each.{joined, each_more, each_done, nothing_left}
use Rattle.text_resolver.proofs.resolve.conditions.Goals as goal

pub conditions-preserved : goal.conditions-preserved
conditions-preserved c =
    let one = always_in (view_scope c.args.outer.now) in
    let front = map view_condition c.conditions.made.items in
    let made = c.in_ok-condition.condition in
    let more = into_iter_items c.next.new.self in
    let steps : into_iter_items c.conditions.raw-iterator ≡ c.in-Some.raw ∷ more = c.in-Some.ensures.steps.0 in
    let e : map view_condition c.push.new.self.items ≡ front ++ view_condition made ∷ [] = rw c.in_ok-push.ensures.items (map_push view_condition c.conditions.made.items made) in
    let so_far = ap (λ xs. joined front (each one (view_conditions xs))) (sym steps) ∙ c.conditions.invariant.0 in (
      rw e (each_more one front (view_always c.in-Some.raw) (view_conditions more) (view_condition made) _ c.in_ok-condition.ensures so_far),
      let was = c.conditions.invariant.1 in
          let gone = c.in-Some.ensures.steps.1 in
          let short = ap length steps in
          omega arith,
    )

pub returns : goal.returns
returns c =
    let one = always_in (view_scope c.args.outer.now) in
    let front = map view_condition c.conditions.made.items in
    let empty : into_iter_items c.conditions.raw-iterator ≡ [] = nothing_left _ (sym c.conditions.invariant.1 ∙ c.in-None.ensures.steps.0) in
    let total = each one (view_conditions (into_iter_items c.into_iter-raw-iterator.result)) in
    ap (λ xs. each one (view_conditions xs)) (sym c.into_iter-raw-iterator.ensures.into_iter_gives.0)
    ∙ each_done one front total (ap (λ xs. joined front (each one (view_conditions xs))) (sym empty) ∙ c.conditions.invariant.0)
