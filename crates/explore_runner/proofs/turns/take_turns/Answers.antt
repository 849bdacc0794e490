use Rattle.std.proofs.Common.{◌≡◌, ℕ, List, ◌++◌, length, map, sym, ◌∙◌, ap, subst}
use Rattle.txn_programs.specs.declared.report.Entry.{Entry}
use Rattle.txn_programs.specs.Listing.{Listing, tasks}
use Rattle.book.specs.View.{BookView, opened}
use Rattle.explore_law.specs.Instances.{instance_at}
use Rattle.explore_law.specs.Orders.{Config}
use Rattle.explore_runner.specs.Giving.{GoesSomewhere, HasGiven, IsGiving, IsTaken, queues, config_of, entered_by}
use Rattle.explore_runner.proofs.Turning.{all_taken, begins, has_given}
use Rattle.explore_runner.proofs.Closing.{on_all}
use Rattle.explore_runner.proofs.turns.take_turns.Goals as goal

pub take_all-requires-clause-opened : goal.take_all-requires-clause-opened
take_all-requires-clause-opened c =
    let b = c.args.book.now in
    let of : b.catalogue ≡ c.args.catalogue.now = ap (λ (x : BookView). x.catalogue) c.requires.opened in
    subst (λ (x : Listing). b ≡ opened x b.cells 0) (sym of) c.requires.opened

pub give_turns-requires-clause-underway : goal.give_turns-requires-clause-underway
give_turns-requires-clause-underway c =
    let l = c.args.catalogue.now in
    let b = c.take_all.new.book in
    let of : c.args.book.now.catalogue ≡ l = ap (λ (x : BookView). x.catalogue) c.requires.opened in
    let taken : IsTaken l (length (tasks l)) b = subst (λ (n : ℕ). IsTaken l n b) c.tasks.ensures.value (subst (λ (x : Listing). IsTaken x c.tasks.result b) of c.take_all.ensures) in
    all_taken l b (queues c.in_ok-waiting.waiting.items) taken c.in_ok-waiting.ensures.own

pub give_turns-requires-clause-leads : goal.give_turns-requires-clause-leads
give_turns-requires-clause-leads c =
    let l = c.args.catalogue.now in
    let b = c.take_all.new.book in
    let qs = queues c.in_ok-waiting.waiting.items in
    let of : c.args.book.now.catalogue ≡ l = ap (λ (x : BookView). x.catalogue) c.requires.opened in
    let taken : IsTaken l (length (tasks l)) b = subst (λ (n : ℕ). IsTaken l n b) c.tasks.ensures.value (subst (λ (x : Listing). IsTaken x c.tasks.result b) of c.take_all.ensures) in
    subst (λ (x : Listing). GoesSomewhere x (config_of b qs) c.args.turns.now) (sym taken.catalogue)
    (subst (λ (p : Config). GoesSomewhere l p c.args.turns.now) (sym (begins l b qs (length (tasks l)) taken c.in_ok-waiting.ensures.counted)) c.requires.goes)

pub returns : goal.returns
returns c =
    let l = c.args.catalogue.now in
    let turns = c.args.turns.now in
    let first = c.take_all.new.book in
    let b = c.give_turns.new.book in
    let of : c.args.book.now.catalogue ≡ l = ap (λ (x : BookView). x.catalogue) c.requires.opened in
    let taken : IsTaken l c.tasks.result first = subst (λ (x : Listing). IsTaken x c.tasks.result first) of c.take_all.ensures in
    on_all c.give_turns.result (IsGiving b (queues c.give_turns.new.waiting.items)) (entered_by first.catalogue b.journal ≡ entered_by first.catalogue first.journal ++ map (instance_at first.catalogue) turns)
    (b.catalogue ≡ first.catalogue) (HasGiven l turns b) (has_given l c.tasks.result first b (queues c.give_turns.new.waiting.items) turns taken)
    c.give_turns.ensures.underway c.give_turns.ensures.entered c.give_turns.ensures.catalogue
