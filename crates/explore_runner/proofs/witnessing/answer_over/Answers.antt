use Rattle.std.proofs.Common.{List, Some, None, string_bytes, subst}
use Rattle.explore_law.specs.declared.instance.InstanceId.{InstanceId}
use Rattle.explore_law.specs.Orders.{Config, Leads, first_config}
use Rattle.explore_law.specs.Explored.{end_config}
use Rattle.explore_law.specs.Ways.{WayOfEnd}
use Rattle.explore_runner.specs.Witness.{IsReportTo}
use Rattle.explore_runner.proofs.witnessing.answer_over.Goals as goal

pub returns-in-Ok-clause-shown : goal.returns-in-Ok-clause-shown
returns-in-Ok-clause-shown c file spelled =
    let l = c.args.catalogue.now in
    let w : WayOfEnd l c.args.end (Some c.in-Ok-Some.way) = subst (WayOfEnd l c.args.end) c.in-Ok-Some.field-0-is c.in-Ok-Some.ensures.way in
    let turns = c.in-Ok-Some.way.items in
    let Comes : List InstanceId → Type 0 = λ ts. (p : Config) → Leads l (first_config l) ts p → IsReportTo l ts p (string_bytes c.in-Ok.text) in
    let comes : Comes turns = subst Comes c.as_slice.ensures.value c.in-Ok.ensures in
    record {
      file = l;
      spelled = spelled;
      found = w.found;
      explored = w.explored;
      turns = turns;
      way = w.answer;
      report = comes (end_config w.answer.end) w.answer.way.leads;
    }

pub returns-in-Ok-None-clause-shown : goal.returns-in-Ok-None-clause-shown
returns-in-Ok-None-clause-shown c file spelled =
    let l = c.args.catalogue.now in
    let w : WayOfEnd l c.args.end None = subst (WayOfEnd l c.args.end) c.in-Ok-None.field-0-is c.in-Ok-None.ensures.way in
    record {
      file = l;
      spelled = spelled;
      found = w.found;
      explored = w.explored;
      past = w.answer;
      none = c.new.ensures.bytes;
    }
