use Rattle.std.proofs.Common.{None, sym, ◌∙◌, subst}
use Rattle.explore_law.specs.Finding.{WayOrNever}
use Rattle.explore_runner.specs.Finding.{Asks}
use Rattle.explore_runner.proofs.finding.finding_over.Goals as goal

pub returns-in-Ok-clause-shown : goal.returns-in-Ok-clause-shown
returns-in-Ok-clause-shown c file spelled =
    let asks : Asks file c.args.transaction.now c.args.outcome =
    record {
      file = c.args.catalogue.now;
      spelled = spelled;
      tx = c.in-Some.tx;
      named = sym c.tx_id.ensures ∙ c.in-Some.is;
      sought = c.in-Some-sought_by.sought;
      meant = sym c.sought_by.ensures ∙ c.in-Some-sought_by.is;
    } in
    let way = subst (WayOrNever c.args.catalogue.now c.in-Some.tx c.in-Some-sought_by.sought) c.in-Ok-Some.field-0-is c.in-Ok-Some.ensures.way in
    (asks, c.in-Ok.ensures c.in-Some.tx way)

pub returns-in-Ok-from_str-clause-shown : goal.returns-in-Ok-from_str-clause-shown
returns-in-Ok-from_str-clause-shown c file spelled =
    let l = c.args.catalogue.now in
    let asks : Asks file c.args.transaction.now c.args.outcome =
    record {
      file = l;
      spelled = spelled;
      tx = c.in-Some.tx;
      named = sym c.tx_id.ensures ∙ c.in-Some.is;
      sought = c.in-Some-sought_by.sought;
      meant = sym c.sought_by.ensures ∙ c.in-Some-sought_by.is;
    } in
    let never : WayOrNever l c.in-Some.tx c.in-Some-sought_by.sought None =
    subst (WayOrNever l c.in-Some.tx c.in-Some-sought_by.sought) c.in-Ok-None.field-0-is c.in-Ok-None.ensures.way in
    (asks, never, c.in-Ok-from_str.ensures.ok)
