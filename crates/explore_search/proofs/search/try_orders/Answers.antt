use Rattle.std.proofs.Common.{◌≡◌, ℕ, List, [], ◌∷◌, ◌++◌, length, sym, ◌∙◌, ap, subst}
use Rattle.explore_search.specs.Searching.{IsUnderWay}
use Rattle.explore_search.proofs.Calls.{first_callable, none_first}
use Rattle.explore_search.proofs.Ending.{alone}
use Rattle.explore_search.proofs.search.try_orders.Goals as goal

pub returns-in_default-clause-done : goal.returns-in_default-clause-done
returns-in_default-clause-done c =
    let l = c.args.catalogue.now in
    let s = c.args.s.now in
    let none = c.requires.none in
    let at_start = subst (λ (ends : List ℕ). IsUnderWay l c.args.limit s.configs s.kinds.items ends 0 0) none c.requires.at_start in
    let is : c.note_end.new.ends.items ≡ 0 ∷ [] = c.in_ok-note_end.ensures ∙ ap (λ (ends : List ℕ). ends ++ 0 ∷ []) none in
    subst (λ (ends : List ℕ). IsUnderWay l c.args.limit s.configs s.kinds.items ends (length s.configs.configs) 0) (sym is)
    (alone l c.args.limit s.configs s.kinds.items c.requires.first (sym (ap length c.requires.calls) ∙ none_first c.args.calls.now c.in_default.ensures.value) at_start)

pub new-attempt-requires : goal.new-attempt-requires
new-attempt-requires c =
    first_callable c.args.catalogue.now c.args.calls.now c.in-Some.first.now c.as_slice.result.now c.rules.ensures.names c.requires.calls c.in-Some.ensures.value c.as_slice.ensures.value
