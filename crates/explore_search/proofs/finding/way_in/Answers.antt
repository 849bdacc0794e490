use Rattle.std.proofs.Common.{length, Some, None, subst}
use Rattle.std.specs.List.{Contains}
use Rattle.explore_law.specs.Orders.{Config, Reached}
use Rattle.explore_search.specs.Nearest.{IsNearestOrNone}
use Rattle.explore_search.proofs.Nearing.{way_to_nearest, shows_nowhere}
use Rattle.explore_search.proofs.Whole.{all_reached}
use Rattle.explore_search.proofs.finding.way_in.Goals as goal

pub returns-in_default : goal.returns-in_default
returns-in_default c =
    let l = c.args.catalogue.now in
    let s = c.args.s.now in
    let ps = s.configs.configs in
    let all : (p : Config) → Reached l p → Contains ps p = λ p. (all_reached l ps s.kinds.items s.ends.items c.requires.done.1.searched p).1 in
    let none : IsNearestOrNone l c.args.tx c.args.sought ps (length ps) None =
    subst (IsNearestOrNone l c.args.tx c.args.sought ps (length ps)) c.in_default.is c.in_ok-nearest.ensures in
    shows_nowhere l c.args.tx c.args.sought ps all none

pub returns : goal.returns
returns c =
    let l = c.args.catalogue.now in
    let s = c.args.s.now in
    let ps = s.configs.configs in
    let all : (p : Config) → Reached l p → Contains ps p = λ p. (all_reached l ps s.kinds.items s.ends.items c.requires.done.1.searched p).1 in
    let some : IsNearestOrNone l c.args.tx c.args.sought ps (length ps) (Some (c.in-Some.number, c.in-Some.instance)) =
    subst (IsNearestOrNone l c.args.tx c.args.sought ps (length ps)) c.in-Some.is c.in_ok-nearest.ensures in
    way_to_nearest l c.args.tx c.args.sought ps c.in-Some.number c.in-Some.instance c.in_ok-turns.turns.items all some c.in_ok-turns.ensures
