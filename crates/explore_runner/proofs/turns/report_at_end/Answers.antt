use Rattle.std.proofs.Common.{◌≡◌, List, [], ◌++◌, map, sym, ◌∙◌, ap, subst}
use Rattle.txn_programs.specs.declared.report.Entry.{Entry}
use Rattle.txn_programs.specs.declared.report.Report.{Report}
use Rattle.txn_programs.specs.Listing.{Listing}
use Rattle.txn_programs.specs.Replay.{opening}
use Rattle.txn_programs.specs.Told.{told}
use Rattle.txn_programs.specs.LawfulReport.{LawfulReport}
use Rattle.explore_law.specs.Instances.{instance_at}
use Rattle.explore_law.specs.Orders.{Config, first_config, Leads}
use Rattle.explore_runner.specs.Ends.{EndsAt}
use Rattle.explore_runner.specs.Giving.{entered_by}
use Rattle.explore_runner.proofs.Closing.{if_all, same_turns, ends_there}
use Rattle.explore_runner.proofs.turns.report_at_end.Goals as goal

pub take_turns-requires-clause-goes : goal.take_turns-requires-clause-goes
take_turns-requires-clause-goes c = (c.requires.leads.config, c.requires.leads.leads)

pub close-requires : goal.close-requires
close-requires c = c.in_ok-take_turns.ensures.base ∙ ap opening (sym c.in_ok-take_turns.ensures.catalogue)

pub returns-clause-ends : goal.returns-clause-ends
returns-clause-ends c =
    let l = c.args.catalogue.now in
    let turns = c.args.turns.now in
    let b = c.take_turns.new.book in
    let given = c.in_ok-take_turns.ensures in
    let leads = c.requires.leads in
    if_all c.close.result (λ (r : Report). LawfulReport b.catalogue (told r)) (λ (r : Report). (told r).base ≡ 0) (λ (r : Report). (told r).memory ≡ [])
    (λ (r : Report). (more : List Entry) × ((told r).entries ≡ b.journal ++ more))
    (λ (r : Report). (p : Config) → Leads l (first_config l) turns p → EndsAt l (told r) p)
    (λ r lawful opens none goes.
    ends_there l (told r) turns goes.0 b.journal leads.config c.rules.ensures.names (subst (λ (x : Listing). LawfulReport x (told r)) given.catalogue lawful) opens none goes.1 given.entered leads.leads leads.last)
    c.close.ensures.lawful c.close.ensures.opens c.close.ensures.none_stopped c.close.ensures.entries

pub returns-clause-turns : goal.returns-clause-turns
returns-clause-turns c =
    let l = c.args.catalogue.now in
    let turns = c.args.turns.now in
    let b = c.take_turns.new.book in
    let given = c.in_ok-take_turns.ensures in
    let leads = c.requires.leads in
    if_all c.close.result (λ (r : Report). LawfulReport b.catalogue (told r)) (λ (r : Report). (told r).base ≡ 0) (λ (r : Report). (told r).memory ≡ [])
    (λ (r : Report). (more : List Entry) × ((told r).entries ≡ b.journal ++ more))
    (λ (r : Report). entered_by l (told r).entries ≡ map (instance_at l) turns)
    (λ r lawful opens none goes.
    same_turns l (told r) turns goes.0 b.journal leads.config c.rules.ensures.names (subst (λ (x : Listing). LawfulReport x (told r)) given.catalogue lawful) opens none goes.1 given.entered leads.leads leads.last)
    c.close.ensures.lawful c.close.ensures.opens c.close.ensures.none_stopped c.close.ensures.entries
