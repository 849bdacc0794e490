use Rattle.std.proofs.Common.{ℕ, ◌<◌, List, length, map, sym, ap, subst}
use Rattle.std.specs.Prelude.{All}
use Rattle.std.specs.declared.alloc.Global.{Global}
use Rattle.std.specs.declared.vec.Vec.{Vec}
use Rattle.std.specs.List.Sorted.{IsPermutation}
use Rattle.explore_law.specs.declared.found.Kinds.{Kinds}
use Rattle.explore_law.specs.Explored.{end_config}
use Rattle.explore_search.specs.Indexed.{config_at}
use Rattle.explore_search.proofs.Ending.{ends_listed, explored}
use Rattle.explore_search.proofs.found.explore.Goals as goal

pub end_configs-requires : goal.end_configs-requires
end_configs-requires c =
    let s = c.in_ok-s.s in
    subst (λ (ends : List ℕ). All (λ (i : ℕ). i < length s.configs.configs) ends) (sym c.as_slice.ensures.value) (ends_listed c.args.catalogue.now s.configs.configs s.kinds.items s.ends.items 0 c.in_ok-s.ensures.done.searched)

pub returns-clause-explored : goal.returns-clause-explored
returns-clause-explored c =
    let s = c.in_ok-s.s in
    let ps = s.configs.configs in
    let same : IsPermutation (map (config_at ps) s.ends.items) (map end_config c.in_ok-ends.ends.items) = subst (λ (ends : List ℕ). IsPermutation (map (config_at ps) ends) (map end_config c.in_ok-ends.ends.items)) c.as_slice.ensures.value c.in_ok-ends.ensures.same in
    explored c.args.catalogue.now c.args.limit s.configs s.kinds.items s.ends.items (record { states = c.len-states.result; kinds = c.into_kinds.result; ends = c.in_ok-ends.ends }) c.in_ok-s.ensures.done c.law.ensures c.len-states.ensures (ap (λ (v : Vec Kinds Global). v.items) c.into_kinds.ensures) same c.in_ok-ends.ensures.ascending
