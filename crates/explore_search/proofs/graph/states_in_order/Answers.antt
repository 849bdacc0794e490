use Rattle.std.proofs.Common.{ℕ, length, ◌∙◌, ap, arith}
use Rattle.std.specs.List.{range_with_len}
use Rattle.std.proofs.lemmas.List.{length-map}
use Rattle.std.proofs.lemmas.List.Sorted.{length_permutation}
use Rattle.explore_law.specs.Explored.{end_config}
use Rattle.explore_search.specs.Graphing.{configs}
use Rattle.explore_search.proofs.Graphing.{below_all_numbers, moved_all, reached_reordered, search_reached, search_sized, sized_reordered}
use Rattle.explore_search.proofs.graph.states_in_order.Goals as goal

pub numbers_below-requires : goal.numbers_below-requires
numbers_below-requires c = omega (arith, c.len.ensures, c.in_ok-s.ensures.done.few, c.in_ok-s.ensures.done.small)

pub end_configs-requires : goal.end_configs-requires
end_configs-requires c =
    let ps = c.in_ok-s.s.configs.configs in
    below_all_numbers (length ps) c.as_slice.result.now (c.as_slice.ensures.value ∙ c.in_ok-numbers.ensures ∙ ap (λ (n : ℕ). range_with_len 0 n) c.len.ensures)

pub returns-clause-reached : goal.returns-clause-reached
returns-clause-reached c =
    let l = c.args.catalogue.now in
    let s = c.in_ok-s.s in
    let ps = s.configs.configs in
    let qs = configs c.in_ok-states.states.items in
    let moved = moved_all ps qs c.as_slice.result.now (c.as_slice.ensures.value ∙ c.in_ok-numbers.ensures ∙ ap (λ (n : ℕ). range_with_len 0 n) c.len.ensures) c.in_ok-states.ensures.same in
    reached_reordered l ps qs moved (search_reached l c.args.limit s.configs s.kinds.items s.ends.items c.in_ok-s.ensures.done c.law.ensures)

pub returns-clause-ascend : goal.returns-clause-ascend
returns-clause-ascend c = c.in_ok-states.ensures.ascending

pub returns-clause-sized : goal.returns-clause-sized
returns-clause-sized c =
    let l = c.args.catalogue.now in
    let s = c.in_ok-s.s in
    let ps = s.configs.configs in
    let qs = configs c.in_ok-states.states.items in
    let moved = moved_all ps qs c.as_slice.result.now (c.as_slice.ensures.value ∙ c.in_ok-numbers.ensures ∙ ap (λ (n : ℕ). range_with_len 0 n) c.len.ensures) c.in_ok-states.ensures.same in
    sized_reordered l ps qs moved (search_sized l c.args.limit s.configs s.kinds.items s.ends.items (length ps) 0 c.in_ok-s.ensures.done)

pub returns-clause-few : goal.returns-clause-few
returns-clause-few c =
    let s = c.in_ok-s.s in
    let ps = s.configs.configs in
    let es = c.in_ok-states.states.items in
    let moved = moved_all ps (configs es) c.as_slice.result.now (c.as_slice.ensures.value ∙ c.in_ok-numbers.ensures ∙ ap (λ (n : ℕ). range_with_len 0 n) c.len.ensures) c.in_ok-states.ensures.same in
    omega (arith, length_permutation ps (configs es) moved, length-map es end_config, c.in_ok-s.ensures.done.few)
