use Rattle.std.proofs.Common.{◌≡◌, ℕ, List, reverse, sym, subst, arith}
use Rattle.explore_law.specs.declared.instance.InstanceId.{InstanceId}
use Rattle.explore_law.specs.Orders.{Config, first_config, Leads}
use Rattle.explore_search.specs.Indexed.{config_at}
use Rattle.explore_search.proofs.Fewest.{any_way}
use Rattle.explore_search.proofs.way.way_to.Goals as goal

pub returns : goal.returns
returns c =
    let l = c.args.catalogue.now in
    let ps = c.args.configs.now.configs in
    let to = config_at ps c.args.number in
    let none : c.back.at ≡ 0 = omega (arith, c.back-test.false) in
    let here : config_at ps c.back.at ≡ first_config l = subst (λ (i : ℕ). config_at ps i ≡ first_config l) (sym none) c.requires.charted.first in
    let led : Leads l (first_config l) (reverse c.back.way.items) to = subst (λ (p : Config). Leads l p (reverse c.back.way.items) to) here c.back.invariant.leads in
    any_way l c.reverse.new.self.items to (subst (λ (ts : List InstanceId). Leads l (first_config l) ts to) (sym c.reverse.ensures.items) led)
