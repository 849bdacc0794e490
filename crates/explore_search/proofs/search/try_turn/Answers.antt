use Rattle.std.proofs.Common.{◌≡◌, ℕ, ◌+◌, ◌<◌, ℤ, List, length, get_or, Option, Some, None, refl, sym, ◌∙◌, ap, subst, arith}
use Rattle.std.specs.Prelude.{IfSome}
use Rattle.txn_programs.specs.declared.ast.TxId.{TxId}
use Rattle.explore_law.specs.declared.instance.InstanceId.{InstanceId}
use Rattle.txn_programs.specs.declared.ast.Outcome.{Outcome}
use Rattle.txn_programs.specs.LawfulReport.{OutcomeKnown}
use Rattle.txn_programs.specs.Listing.{Listing}
use Rattle.explore_law.specs.Instances.{instance_at}
use Rattle.explore_law.specs.Orders.{Config, HasTurn, turned}
use Rattle.explore_law.specs.declared.found.Kinds.{Kinds}
use Rattle.explore_law.specs.Explored.{end_config}
use Rattle.explore_search.specs.Shelf.{Adds, config}
use Rattle.explore_search.specs.Indexed.{config_at}
use Rattle.explore_search.specs.Noting.{none_seen}
use Rattle.explore_search.specs.Turns.{Turns, TurnsTo}
use Rattle.explore_search.specs.Searching.{IsUnderWay}
use Rattle.explore_search.specs.Charted.{Charts}
use Rattle.explore_search.specs.declared.search.Came.{Came}
use Rattle.explore_search.proofs.Calls.{own_transaction, declared}
use Rattle.explore_search.proofs.Charting.{charted_adds}
use Rattle.explore_search.proofs.Trying.{stays, tried_none, tried_some, too_many, turn_flagged}
use Rattle.explore_search.proofs.search.try_turn.Goals as goal

no_turn : (l : Listing) (p q : Config) (inst : InstanceId) (t : Option Outcome) → Turns l p inst q t → ((o : Outcome) → t ≡ Some o → ⊥) → HasTurn l p inst → ⊥
no_turn l p q inst None h n = h
no_turn l p q inst (Some o) h n = absurd (n o refl)

pub returns-in_default-clause-on : goal.returns-in_default-clause-on
returns-in_default-clause-on c =
    let l = c.args.catalogue.now in
    let s = c.args.s.now in
    let i = c.args.i in
    let inst = c.args.k in
    let here = config_at s.configs.configs i in
    let p = end_config s.here in
    let is : p ≡ here = c.requires.here in
    let q = end_config c.turn_from.new.next in
    let none : HasTurn l p inst → ⊥ = no_turn l p q inst c.in_ok-turn.turn c.in_ok-turn.ensures.turn c.in_default.not-Some in
    tried_none l c.args.limit s.configs s.kinds.items s.ends.items i inst p is none c.requires.so_far

pub returns-then-len-limit-clause-more : goal.returns-then-len-limit-clause-more
returns-then-len-limit-clause-more c = λ same.
    let l = c.args.catalogue.now in
    let s = c.args.s.now in
    let i = c.args.i in
    let inst = c.args.k in
    let o = c.in-Some.outcome in
    let h = c.requires.so_far in
    let here = config_at s.configs.configs i in
    let p = end_config s.here in
    let is : p ≡ here = c.requires.here in
    let v = c.turn_from.new.next.values.items in
    let u = c.turn_from.new.next.waiting.items in
    let q = config c.as_slice.result.now c.as_slice-2.result.now in
    let same_q : config v u ≡ q = ap (λ (x : List ℤ). config x u) (sym c.as_slice.ensures.value) ∙ ap (config c.as_slice.result.now) (sym c.as_slice-2.ensures.value) in
    let turn : TurnsTo l p inst (config v u) o = subst (Turns l p inst (config v u)) c.in-Some.is c.in_ok-turn.ensures.turn in
    let to : TurnsTo l p inst q o = subst (λ (x : Config). TurnsTo l p inst x o) same_q turn in
    let adds : Adds s.configs c.insert.new.self q = c.in_ok-insert.ensures.added in
    too_many l c.args.limit s.configs c.insert.new.self s.kinds.items s.ends.items i inst p q o is c.requires.listed to adds (omega (arith, c.len.ensures, c.if-len-limit.true)) c.law.ensures h

pub returns-clause-on : goal.returns-clause-on
returns-clause-on c =
    let l = c.args.catalogue.now in
    let s = c.args.s.now in
    let i = c.args.i in
    let inst = c.args.k in
    let o = c.in-Some.outcome in
    let h = c.requires.so_far in
    let here = config_at s.configs.configs i in
    let p = end_config s.here in
    let is : p ≡ here = c.requires.here in
    let v = c.turn_from.new.next.values.items in
    let u = c.turn_from.new.next.waiting.items in
    let q = config c.as_slice.result.now c.as_slice-2.result.now in
    let same_q : config v u ≡ q = ap (λ (x : List ℤ). config x u) (sym c.as_slice.ensures.value) ∙ ap (config c.as_slice.result.now) (sym c.as_slice-2.ensures.value) in
    let turn : TurnsTo l p inst (config v u) o = subst (Turns l p inst (config v u)) c.in-Some.is c.in_ok-turn.ensures.turn in
    let to : TurnsTo l p inst q o = subst (λ (x : Config). TurnsTo l p inst x o) same_q turn in
    let adds : Adds s.configs c.insert.new.self q = c.in_ok-insert.ensures.added in
    let sized = h.sized i c.requires.listed in
    let as_wide = subst (λ (t : Option Outcome). IfSome t (λ _. length v ≡ length s.here.values.items)) c.in-Some.is c.in_ok-turn.ensures.values in
    let as_deep = subst (λ (t : Option Outcome). IfSome t (λ _. length u ≡ length s.here.waiting.items)) c.in-Some.is c.in_ok-turn.ensures.left in
    let wide : length c.as_slice.result.now ≡ s.configs.variables = omega (arith, ap length c.as_slice.ensures.value, as_wide, ap (λ (x : Config). length x.state) is, sized.0) in
    let deep : length c.as_slice-2.result.now ≡ s.configs.counts = omega (arith, ap length c.as_slice-2.ensures.value, as_deep, ap (λ (x : Config). length x.left) is, sized.1) in
    let tx : TxId = (get_or c.args.calls.now inst.0 c.index-calls-k.result).tx in
    let own : (instance_at l inst).tx ≡ tx = own_transaction l c.args.calls.now inst c.index-calls-k.result c.requires.calls c.requires.known in
    let known : tx.0 < length l.transactions = declared l c.args.calls.now inst c.index-calls-k.result c.rules.ensures.names c.requires.calls c.requires.known in
    let low : tx.0 < length s.kinds.items = omega (arith, known, h.searched.each) in
    let flags : length (get_or s.kinds.items tx.0 none_seen).broke ≡ 64 = c.note_turn.ensures.flags in
    let fits : OutcomeKnown (length (get_or s.kinds.items tx.0 none_seen).broke) o = subst (λ (n : ℕ). OutcomeKnown n o) (sym flags) (turn_flagged l p q inst o c.rules.ensures.limits to) in
    let on = tried_some l c.args.limit s.configs c.insert.new.self s.kinds.items s.ends.items i inst tx p q o is c.requires.listed own known fits to adds wide deep (omega (arith, c.len.ensures, c.if-len-limit.false)) h in
    subst (λ (ks : List Kinds). IsUnderWay l c.args.limit c.insert.new.self ks s.ends.items i (inst.0 + 1)) (sym c.note_turn.ensures.noted) on

pub note_turn-requires-clause-known : goal.note_turn-requires-clause-known
note_turn-requires-clause-known c =
    let l = c.args.catalogue.now in
    let inst = c.args.k in
    let o = c.in-Some.outcome in
    let p = end_config c.args.s.now.here in
    let q = end_config c.turn_from.new.next in
    let turn : TurnsTo l p inst q o = subst (Turns l p inst q) c.in-Some.is c.in_ok-turn.ensures.turn in
    turn_flagged l p q inst o c.rules.ensures.limits turn

pub returns-clause-charted : goal.returns-clause-charted
returns-clause-charted c =
    let l = c.args.catalogue.now in
    let s = c.args.s.now in
    let i = c.args.i in
    let inst = c.args.k in
    let o = c.in-Some.outcome in
    let here = config_at s.configs.configs i in
    let p = end_config s.here in
    let is : p ≡ here = c.requires.here in
    let v = c.turn_from.new.next.values.items in
    let u = c.turn_from.new.next.waiting.items in
    let q = config c.as_slice.result.now c.as_slice-2.result.now in
    let same_q : config v u ≡ q = ap (λ (x : List ℤ). config x u) (sym c.as_slice.ensures.value) ∙ ap (config c.as_slice.result.now) (sym c.as_slice-2.ensures.value) in
    let turn : TurnsTo l p inst (config v u) o = subst (Turns l p inst (config v u)) c.in-Some.is c.in_ok-turn.ensures.turn in
    let to : TurnsTo l p inst q o = subst (λ (x : Config). TurnsTo l p inst x o) same_q turn in
    let adds : Adds s.configs c.insert.new.self q = c.in_ok-insert.ensures.added in
    let step : Came = record { from = i; by = inst } in
    let here_turn : HasTurn l here inst = subst (λ (x : Config). HasTurn l x inst) is to.turn in
    let leads : q ≡ turned l here inst = to.leads ∙ ap (λ (x : Config). turned l x inst) is in
    let charts : Charts s.came.items (length c.insert.new.self.configs) step c.chart.new.came.items = subst (λ (n : ℕ). Charts s.came.items n step c.chart.new.came.items) c.len-2.ensures c.in_ok-chart.ensures in
    charted_adds l s.configs c.insert.new.self q s.came.items c.chart.new.came.items step adds charts c.requires.listed here_turn leads c.requires.charted

pub note_turn-requires-clause-listed : goal.note_turn-requires-clause-listed
note_turn-requires-clause-listed c =
    let l = c.args.catalogue.now in
    let low = declared l c.args.calls.now c.args.k c.index-calls-k.result c.rules.ensures.names c.requires.calls c.requires.known in
    omega (arith, low, c.requires.so_far.searched.each)

pub returns-clause-stays : goal.returns-clause-stays
returns-clause-stays c =
    stays c.args.s.now.configs c.insert.new.self (config c.as_slice.result.now c.as_slice-2.result.now) c.args.i c.requires.listed c.in_ok-insert.ensures.added

pub turn_from-requires-clause-values : goal.turn_from-requires-clause-values
turn_from-requires-clause-values c =
    let h = c.requires.so_far in
    omega (arith, ap (λ (x : Config). length x.state) c.requires.here, (h.sized c.args.i c.requires.listed).0, h.variables)

pub turn_from-requires-clause-left : goal.turn_from-requires-clause-left
turn_from-requires-clause-left c =
    let h = c.requires.so_far in
    omega (arith, ap (λ (x : Config). length x.left) c.requires.here, (h.sized c.args.i c.requires.listed).1, h.counts, ap length c.requires.calls)
