use Rattle.std.proofs.Common.{◌≡◌, ℕ, ◌+◌, List, length, sym, ◌∙◌, ap, subst, arith}
use Rattle.std.proofs.lemmas.Bool.{true≢false}
use Rattle.explore_law.specs.Instances.{instances}
use Rattle.explore_law.specs.Orders.{Config}
use Rattle.explore_search.specs.Indexed.{config_at}
use Rattle.explore_search.specs.Searching.{IsUnderWay, HasMoved}
use Rattle.explore_search.proofs.Calls.{few}
use Rattle.explore_search.proofs.Trying.{moved_on, ended_on}
use Rattle.explore_search.proofs.search.try_all.Goals as goal

pub overflow_cast-k-end : goal.overflow_cast-k-end
overflow_cast-k-end c = omega (arith, few c.args.catalogue.now c.args.calls.now c.rules.ensures.limits c.requires.calls)

pub returns-in_ok-note_end-clause-on : goal.returns-in_ok-note_end-clause-on
returns-in_ok-note_end-clause-on c =
    let l = c.args.catalogue.now in
    let s = c.turns.s in
    let i = c.turns.invariant in
    let n = c.turns.k in
    let all : n ≡ length (instances l) = omega (arith, c.turns.auto.k-end, c.turns-test.false, ap length c.requires.calls) in
    let none : HasMoved l (config_at s.configs.configs c.args.i) n → ⊥ = λ h.
    let before : HasMoved l (config_at c.args.s.now.configs.configs c.args.i) n = subst (λ (p : Config). HasMoved l p n) i.stays.1 h in
    true≢false (sym (i.moved.1 before) ∙ c.if-not-moves.true) in
    let on = ended_on l c.args.limit s.configs s.kinds.items s.ends.items c.args.i n all i.stays.0 none i.so_far in
    subst (λ (ends : List ℕ). IsUnderWay l c.args.limit s.configs s.kinds.items ends (c.args.i + 1) 0) (sym c.in_ok-note_end.ensures) on

pub returns-else-not-moves-clause-on : goal.returns-else-not-moves-clause-on
returns-else-not-moves-clause-on c =
    let l = c.args.catalogue.now in
    let s = c.turns.s in
    let i = c.turns.invariant in
    let n = c.turns.k in
    let all : n ≡ length (instances l) = omega (arith, c.turns.auto.k-end, c.turns-test.false, ap length c.requires.calls) in
    let moved : HasMoved l (config_at s.configs.configs c.args.i) n = subst (λ (p : Config). HasMoved l p n) (sym i.stays.1) (i.moved.0 c.if-not-moves.false) in
    moved_on l c.args.limit s.configs s.kinds.items s.ends.items c.args.i n all i.stays.0 moved i.so_far
