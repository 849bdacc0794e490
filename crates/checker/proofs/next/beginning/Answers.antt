use Rattle.std.proofs.Common.{◌∙◌, List, length, sym, ap, subst, arith}
use Rattle.std.specs.List.{All}
use Rattle.std.proofs.lemmas.List.{length-take}
use Rattle.txn_programs.specs.declared.arguments.Call.{Call}
use Rattle.txn_programs.specs.Listing.{calls}
use Rattle.txn_programs.proofs.Lawful.{few_tasks}
use Rattle.checker.proofs.Chaptered.{Callable, calls_count, first_callable}
use Rattle.checker.proofs.next.beginning.Goals as goal

pub begun-requires-clause-known : goal.begun-requires-clause-known
begun-requires-clause-known c =
    let l = c.args.catalogue.now in
    subst (λ (cs : List Call). All (Callable l) cs) (sym (c.deref.ensures.value ∙ c.in_ok-first.ensures)) (first_callable l c.args.count c.rules.ensures.names)

pub begun-requires-clause-few : goal.begun-requires-clause-few
begun-requires-clause-few c =
    let l = c.args.catalogue.now in
    omega (arith, ap length (c.deref.ensures.value ∙ c.in_ok-first.ensures), length-take c.args.count (calls l), calls_count l, few_tasks l c.rules.ensures.limits)
