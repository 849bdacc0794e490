use Rattle.std.proofs.Common.{◌≡◌, ◌+◌, ℕ, length, sym, ap, subst, arith}
use Rattle.explore_law.specs.Instances.{instances}
use Rattle.explore_law.specs.Explored.{end_config}
use Rattle.explore_search.specs.Graphing.{configs, ListsTurnsBelow}
use Rattle.explore_search.proofs.Calls.{few}
use Rattle.explore_search.proofs.Graphing.{below_start, below_with, below_all}
use Rattle.explore_search.proofs.graph.turns_of.Goals as goal

pub overflow_cast-k-end : goal.overflow_cast-k-end
overflow_cast-k-end c = omega (arith, few c.args.catalogue.now c.args.calls.now c.rules.ensures.limits c.requires.calls)

pub turns-init : goal.turns-init
turns-init c =
    let l = c.args.catalogue.now in
    let ps = configs c.args.states.now in
    let p = end_config c.args.state.now in
    subst (ListsTurnsBelow l ps p 0) (sym c.new-turns.ensures.items) (below_start l ps p)

pub turns-preserved : goal.turns-preserved
turns-preserved c =
    let l = c.args.catalogue.now in
    let ps = configs c.args.states.now in
    let p = end_config c.args.state.now in
    let more = below_with l ps p (record { 0 = c.turns.k }) c.turns.turns.items c.in_ok-turn.turn c.in_ok-turn.ensures c.turns.invariant in
    subst (ListsTurnsBelow l ps p (c.turns.k + 1)) (sym c.in_ok-add.ensures) more

pub returns : goal.returns
returns c =
    let l = c.args.catalogue.now in
    let ps = configs c.args.states.now in
    let p = end_config c.args.state.now in
    let all : c.turns.k ≡ length (instances l) = omega (arith, c.turns.auto.k-end, c.turns-test.false, ap length c.requires.calls) in
    below_all l ps p c.turns.turns.items c.requires.sized c.requires.listed (subst (λ (n : ℕ). ListsTurnsBelow l ps p n c.turns.turns.items) all c.turns.invariant)
