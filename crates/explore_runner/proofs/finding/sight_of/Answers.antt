use Rattle.std.proofs.Common.{◌≡◌, List, sym, ◌∙◌, subst, string_bytes}
use Rattle.std.specs.declared.alloc.Global.{Global}
use Rattle.std.specs.declared.string.String.{String}
use Rattle.txn_programs.specs.declared.ast.TxId.{TxId}
use Rattle.txn_programs.specs.Told.{told}
use Rattle.text_report_printer.specs.ReportText.{report_text}
use Rattle.explore_law.specs.declared.instance.InstanceId.{InstanceId}
use Rattle.explore_law.specs.Finding.{IsWayWhere}
use Rattle.explore_law.specs.Orders.{first_config}
use Rattle.explore_runner.specs.Finding.{IsSight}
use Rattle.explore_runner.specs.Giving.{GoesSomewhere}
use Rattle.explore_runner.specs.Stopping.{StopsAfter, turns_to}
use Rattle.explore_runner.proofs.Sighting.{goes_there, shows_there}
use Rattle.explore_runner.proofs.Worded.{if_ok}
use Rattle.explore_runner.proofs.finding.sight_of.Goals as goal

pub stopped-requires : goal.stopped-requires
stopped-requires c =
    let l = c.args.catalogue.now in
    let w = c.requires.1 in
    let k = c.args.way.instance in
    let turns = c.args.way.turns.items in
    subst (GoesSomewhere l (first_config l)) (sym (c.as_slice.ensures.value ∙ c.in_ok-turns.ensures)) (goes_there l k c.args.sought turns w.config w.leads w.shows)

pub returns : goal.returns
returns c =
    let l = c.args.catalogue.now in
    let k = c.args.way.instance in
    let turns = c.args.way.turns.items in
    let r = told c.in_ok-report.report in
    let stops : StopsAfter l (turns_to k c.args.sought turns) r =
    subst (λ (ks : List InstanceId). StopsAfter l ks r) (c.as_slice.ensures.value ∙ c.in_ok-turns.ensures) c.in_ok-report.ensures in
    if_ok c.print_report.result (λ (s : String Global). string_bytes s ≡ report_text l r)
    (λ (s : String Global). (tx : TxId) → IsWayWhere l tx c.args.sought turns k → IsSight l tx c.args.sought (string_bytes s))
    (λ s e tx w.
    record {
      turns = turns;
      instance = k;
      way = w;
      report = r;
      stops = stops;
      shows = shows_there l r c.rules.ensures.names tx k w.own c.args.sought turns w.config stops w.leads w.shows;
      printed = e;
    })
    c.print_report.ensures.text
