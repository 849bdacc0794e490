use Rattle.std.proofs.Common.{◌≡◌, ◌<◌, ◌≤◌, sym, ◌∙◌, ap, ⊎_elim, arith}
use Rattle.std.proofs.lemmas.List.{length-map}
use Rattle.std.proofs.lemmas.Bool.{cases_lt, true≢false}
use Rattle.explore_law.specs.Explored.{end_config}
use Rattle.explore_search.specs.Graphing.{configs}
use Rattle.explore_search.specs.Indexed.{config_at}
use Rattle.explore_search.proofs.Indexing.{at_contains}
use Rattle.explore_search.proofs.Graphing.{config_of_end, listed_end}
use Rattle.explore_search.proofs.graph.number_in.Goals as goal

pub states-preserved : goal.states-preserved
states-preserved c j low same =
    let es = c.args.states.now in
    let k = c.states.k in
    ⊎_elim (λ (h : j < k). c.states.invariant j h same)
    (λ (h : k ≤ j).
    let here : k ≡ j = omega (arith, h, low) in
    let at = config_of_end es k c.index-states-k.result c.states-test.true c.index-states-k.is in
    let is = sym at ∙ ap (config_at (configs es)) here ∙ same in
    absurd (true≢false (sym (c.is_same.ensures.1 is) ∙ c.if-is_same.false)))
    (cases_lt j k)

pub returns-then-is_same : goal.returns-then-is_same
returns-then-is_same c =
    listed_end c.args.states.now c.states.k c.index-states-k.result (end_config c.args.state.now) c.states-test.true c.index-states-k.is (c.is_same.ensures.0 c.if-is_same.true)

pub unreachable-requires : goal.unreachable-requires
unreachable-requires c =
    let es = c.args.states.now in
    let at = at_contains (configs es) (end_config c.args.state.now) c.requires.listed in
    c.states.invariant at.0 (omega (arith, at.1, length-map es end_config, c.states-test.false)) at.2
