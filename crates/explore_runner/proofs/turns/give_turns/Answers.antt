use Rattle.std.proofs.Common.{◌≡◌, ℕ, ◌+◌, ◌<◌, List, [], ◌∷◌, ◌++◌, length, map, get_or, take, drop, refl, sym, ◌∙◌, ap, subst, arith, append_assoc}
use Rattle.std.proofs.lemmas.List.{append-nil, map-append, take_more}
use Rattle.std.proofs.lemmas.Option.{slice_get-get_or}
use Rattle.txn_programs.specs.declared.arguments.Call.{Call}
use Rattle.txn_programs.specs.Listing.{Listing}
use Rattle.explore_law.specs.declared.instance.InstanceId.{InstanceId}
use Rattle.explore_law.specs.Instances.{instance_at}
use Rattle.explore_law.specs.Orders.{Config, HasTurn, turned, Leads}
use Rattle.explore_runner.specs.Giving.{queues, config_of, entered_by}
use Rattle.explore_runner.proofs.Queueing.{drop_at}
use Rattle.explore_runner.proofs.Closing.{take_all_of, drop_all_of}
use Rattle.explore_runner.proofs.turns.give_turns.Goals as goal

pub turns-init : goal.turns-init
turns-init c =
    record {
      catalogue = refl;
      underway = c.requires.underway;
      entered = sym (append-nil (entered_by c.args.book.now.catalogue c.args.book.now.journal));
      leads = λ q way. way;
    }

-- the turns from here on
on : (turns : List InstanceId) (i : ℕ) → i < length turns → drop i turns ≡ get_or turns i (record { 0 = 0 }) ∷ drop (i + 1) turns
on turns i low = drop_at turns i (get_or turns i (record { 0 = 0 })) (slice_get-get_or turns i (record { 0 = 0 }) low)

pub give_turn-requires-clause-turn : goal.give_turn-requires-clause-turn
give_turn-requires-clause-turn c =
    let l = c.args.book.now.catalogue in
    let turns = c.args.turns.now in
    let i = c.turns.i in
    let low : i < length turns = omega (arith, c.turns-test.true) in
    let q = c.requires.leads.0 in
    let p = config_of c.turns.book (queues c.turns.waiting.items) in
    let way = subst (λ (ks : List InstanceId). Leads l p ks q) (on turns i low) (c.turns.invariant.leads q c.requires.leads.1) in
    subst (λ (x : Listing). HasTurn x p (get_or turns i (record { 0 = 0 }))) (sym c.turns.invariant.catalogue) way.0

pub turns-preserved : goal.turns-preserved
turns-preserved c =
    let l = c.args.book.now.catalogue in
    let turns = c.args.turns.now in
    let i = c.turns.i in
    let low : i < length turns = omega (arith, c.turns-test.true) in
    let k = get_or turns i (record { 0 = 0 }) in
    let p = config_of c.turns.book (queues c.turns.waiting.items) in
    let inv = c.turns.invariant in
    let given = c.in_ok-give_turn.ensures in
    let before = entered_by l c.args.book.now.journal in
    let next : config_of c.give_turn.new.book (queues c.give_turn.new.waiting.items) ≡ turned l p k = given.turned ∙ ap (λ (x : Listing). turned x p k) inv.catalogue in
    let by_one : entered_by l c.give_turn.new.book.journal ≡ entered_by l c.turns.book.journal ++ instance_at l k ∷ [] =
    subst (λ (x : Listing). entered_by x c.give_turn.new.book.journal ≡ entered_by x c.turns.book.journal ++ instance_at x k ∷ []) inv.catalogue given.entered in
    record {
      catalogue = given.catalogue ∙ inv.catalogue;
      underway = given.underway;
      entered = by_one
          ∙ (ap (λ (cs : List Call). cs ++ instance_at l k ∷ []) inv.entered
          ∙ (append_assoc before (map (instance_at l) (take i turns)) (instance_at l k ∷ [])
          ∙ ap (λ (cs : List Call). before ++ cs) (sym (map-append (instance_at l) (take i turns) (k ∷ []))
          ∙ ap (map (instance_at l)) (sym (take_more turns i (record { 0 = 0 }) low)))));
      leads = λ q way.
          let from_here = subst (λ (ks : List InstanceId). Leads l p ks q) (on turns i low) (inv.leads q way) in
          subst (λ (x : Config). Leads l x (drop (i + 1) turns) q) (sym next) from_here.1;
    }

pub returns-clause-leads : goal.returns-clause-leads
returns-clause-leads c =
    let l = c.args.book.now.catalogue in
    let turns = c.args.turns.now in
    let q = c.requires.leads.0 in
    let p = config_of c.turns.book (queues c.turns.waiting.items) in
    let none : drop c.turns.i turns ≡ [] = drop_all_of turns c.turns.i (omega (arith, c.turns-test.false)) in
    let there : q ≡ p = subst (λ (ks : List InstanceId). Leads l p ks q) none (c.turns.invariant.leads q c.requires.leads.1) in
    subst (Leads l (config_of c.args.book.now (queues c.args.waiting.now.items)) turns) there c.requires.leads.1

pub returns-clause-entered : goal.returns-clause-entered
returns-clause-entered c =
    let l = c.args.book.now.catalogue in
    c.turns.invariant.entered
    ∙ ap (λ (ks : List InstanceId). entered_by l c.args.book.now.journal ++ map (instance_at l) ks) (take_all_of c.args.turns.now c.turns.i (omega (arith, c.turns-test.false)))
