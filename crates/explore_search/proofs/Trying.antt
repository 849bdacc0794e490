-- One step of a search under way.
use Rattle.std.proofs.Common.{◌≡◌, ℕ, ◌+◌, ◌<◌, ◌≤◌, Bool, true, false, List, [], ◌∷◌, ◌++◌, length, get_or, set, refl, sym, ◌∙◌, ap, ℤ, subst, ⊎_elim, arith}
use Rattle.std.specs.Bool.{Decides}
use Rattle.std.specs.List.{Contains}
use Rattle.txn_programs.specs.declared.ast.TxId.{TxId}
use Rattle.explore_law.specs.declared.instance.InstanceId.{InstanceId}
use Rattle.txn_programs.specs.declared.ast.Outcome.{Outcome}
use Rattle.txn_programs.specs.declared.ast.Outcome.TheVariants.{Returned, Thrown, Retries}
use Rattle.txn_programs.specs.declared.ast.Fault.TheVariants.{User, Overflow, DivideByZero, Broken, Outside}
use Rattle.txn_programs.specs.Limits.{limits_hold}
use Rattle.txn_programs.proofs.Lawful.{limits_parts}
use Rattle.txn_programs.proofs.Faults.{outcome_known}
use Rattle.txn_programs.specs.LawfulReport.{OutcomeKnown}
use Rattle.txn_programs.specs.Tree.{Transaction}
use Rattle.txn_programs.specs.Instance.{instance_statement, instance_expression}
use Rattle.txn_programs.specs.Listing.{Listing, transaction_at, call_program}
use Rattle.txn_programs.specs.Meaning.{State, outcome}
use Rattle.std.proofs.lemmas.Bool.{cases_lt, true≢false}
use Rattle.explore_law.specs.declared.found.Kinds.{Kinds}
use Rattle.explore_law.specs.Instances.{instances, instance_at, instance_program}
use Rattle.explore_law.specs.Orders.{Config, HasTurn, turned, Reached}
use Rattle.explore_law.specs.Explored.{IsOnce, ReachesMore}
use Rattle.explore_search.specs.Shelf.{Shelf, Adds}
use Rattle.explore_search.specs.Indexed.{config_at}
use Rattle.explore_search.proofs.Indexing.{at_contains}
use Rattle.explore_search.specs.Noting.{none_seen, noted}
use Rattle.explore_search.specs.Turns.{TurnsTo}
use Rattle.explore_search.specs.Searching.{IsSearched, IsUnderWay, StaysAt, HasMoved}
use Rattle.explore_search.proofs.Growing.{adds_grows, adds_each, adds_contains, searched_grows}
use Rattle.explore_search.proofs.Steps.{searched_none, searched_some}
use Rattle.explore_search.proofs.Whole.{reached_more, searched_moved, searched_ended}

abbrev instance : ℕ → InstanceId
instance n = record { 0 = n }

pub tried_none : (l : Listing) (limit : ℕ) (s : Shelf) (kinds : List Kinds) (ends : List ℕ) (c : ℕ) (inst : InstanceId) (p : Config) → p ≡ config_at s.configs c → (HasTurn l p inst → ⊥)
    → IsUnderWay l limit s kinds ends c inst.0 → IsUnderWay l limit s kinds ends c (inst.0 + 1)
tried_none l limit s kinds ends c inst p is none h =
    record {
      searched = searched_none l s.configs kinds ends c inst (λ turn. none (subst (λ (q : Config). HasTurn l q inst) (sym is) turn)) h.searched;
      variables = h.variables;
      counts = h.counts;
      sized = h.sized;
      few = h.few;
      small = h.small;
    }

-- where the turn leads is reached
leads_reached : (l : Listing) (s : Shelf) (kinds : List Kinds) (ends : List ℕ) (c k : ℕ) (inst : InstanceId) (p q : Config) (o : Outcome) → p ≡ config_at s.configs c → c < length s.configs
    → TurnsTo l p inst q o → IsSearched l s.configs kinds ends c k → Reached l q
leads_reached l s kinds ends c k inst p q o is low to h =
    let here : Reached l p = subst (Reached l) (sym is) (h.reached c low) in
    subst (Reached l) (sym to.leads) (reached_more l p inst here to.turn)

pub tried_some : (l : Listing) (limit : ℕ) (s new : Shelf) (kinds : List Kinds) (ends : List ℕ) (c : ℕ) (inst : InstanceId) (tx : TxId) (p q : Config) (o : Outcome) → p ≡ config_at s.configs c → c < length s.configs
    → (instance_at l inst).tx ≡ tx → tx.0 < length l.transactions → OutcomeKnown (length (get_or kinds tx.0 none_seen).broke) o → TurnsTo l p inst q o → Adds s new q → length q.state ≡ s.variables → length q.left ≡ s.counts → length new.configs ≤ limit
    → IsUnderWay l limit s kinds ends c inst.0 → IsUnderWay l limit new (set kinds tx.0 (noted (get_or kinds tx.0 none_seen) o)) ends c (inst.0 + 1)
tried_some l limit s new kinds ends c inst tx p q o is low own known fits to adds wide deep few h =
    let reached = leads_reached l s kinds ends c inst.0 inst p q o is low to h.searched in
    let grown = searched_grows l s new q kinds ends c inst.0 adds reached low h.searched in
    let g = adds_grows s new q adds in
    let at : p ≡ config_at new.configs c = is ∙ sym (g.same c low) in
    let there : Contains new.configs (turned l p inst) = subst (Contains new.configs) to.leads (adds_contains s new q adds) in
    let P : Config → Type 0 = λ x. (length x.state ≡ s.variables) × (length x.left ≡ s.counts) in
    record {
      searched = searched_some l new.configs kinds ends c inst tx o own (omega (arith, low, g.longer)) (omega (arith, known, h.searched.each)) fits (subst (λ (x : Config). HasTurn l x inst) at to.turn)
          (ap (λ (x : Config). outcome (instance_program l inst) x.state) (sym at) ∙ to.ends) (subst (λ (x : Config). Contains new.configs (turned l x inst)) at there) grown;
      variables = adds.variables ∙ h.variables;
      counts = adds.counts ∙ h.counts;
      sized = λ i within.
          let each : P (config_at new.configs i) = adds_each P s new q adds (wide, deep) h.sized i within in
          (each.0 ∙ sym adds.variables, each.1 ∙ sym adds.counts);
      few = few;
      small = h.small;
    }

pub too_many : (l : Listing) (limit : ℕ) (s new : Shelf) (kinds : List Kinds) (ends : List ℕ) (c : ℕ) (inst : InstanceId) (p q : Config) (o : Outcome) → p ≡ config_at s.configs c → c < length s.configs
    → TurnsTo l p inst q o → Adds s new q → limit < length new.configs → IsOnce new.configs → IsUnderWay l limit s kinds ends c inst.0 → ReachesMore l limit
too_many l limit s new kinds ends c inst p q o is low to adds more once h =
    let reached = leads_reached l s kinds ends c inst.0 inst p q o is low to h.searched in
    let all = adds_each (Reached l) s new q adds reached h.searched.reached in
    record {
      configs = new.configs;
      once = once;
      reached = λ x in_it. let at = at_contains new.configs x in_it in subst (Reached l) at.2 (all at.0 at.1);
      more = more;
    }

pub stays : (s new : Shelf) (q : Config) (c : ℕ) → c < length s.configs → Adds s new q → StaysAt s new c
stays s new q c low adds = let g = adds_grows s new q adds in (omega (arith, low, g.longer), g.same c low)

-- one more instance at the configuration p
pub moved_more : (l : Listing) (p r : Config) (inst : InstanceId) (old new found : Bool) → Decides old (HasMoved l p inst.0) → Decides found (HasTurn l r inst) → r ≡ p
    → ((found ≡ true) → new ≡ true) → ((found ≡ false) → new ≡ old) → Decides new (HasMoved l p (inst.0 + 1))
moved_more l p r inst old new true before now is if_yes if_no =
    let turn : HasTurn l p inst = subst (λ (x : Config). HasTurn l x inst) is (now.0 refl) in
    (λ h. record { instance = inst; before = omega arith; turn = turn }, λ h. if_yes refl)
moved_more l p r inst old new false before now is if_yes if_no =
    let same = if_no refl in (
      λ h. let m = before.0 (sym same ∙ h) in record { instance = m.instance; before = omega (arith, m.before); turn = m.turn },
      λ h. ⊎_elim (λ (low : h.instance.0 < inst.0). same ∙ before.1 (record { instance = h.instance; before = low; turn = h.turn }))
          (λ (high : inst.0 ≤ h.instance.0).
          let e : h.instance.0 ≡ inst.0 = omega (arith, high, h.before) in
          let t : HasTurn l p inst = subst (HasTurn l p) (ap instance e) h.turn in
          absurd (true≢false (sym (now.1 (subst (λ (x : Config). HasTurn l x inst) (sym is) t)))))
          (cases_lt h.instance.0 inst.0),
    )

pub moved_on : (l : Listing) (limit : ℕ) (s : Shelf) (kinds : List Kinds) (ends : List ℕ) (c n : ℕ) → n ≡ length (instances l) → c < length s.configs → HasMoved l (config_at s.configs c) n
    → IsUnderWay l limit s kinds ends c n → IsUnderWay l limit s kinds ends (c + 1) 0
moved_on l limit s kinds ends c n all low moved h =
    record {
      searched = searched_moved l s.configs kinds ends c n low (λ i within. (h.sized i within).1 ∙ h.counts ∙ sym all) moved h.searched;
      variables = h.variables;
      counts = h.counts;
      sized = h.sized;
      few = h.few;
      small = h.small;
    }

pub ended_on : (l : Listing) (limit : ℕ) (s : Shelf) (kinds : List Kinds) (ends : List ℕ) (c n : ℕ) → n ≡ length (instances l) → c < length s.configs → (HasMoved l (config_at s.configs c) n → ⊥)
    → IsUnderWay l limit s kinds ends c n → IsUnderWay l limit s kinds (ends ++ c ∷ []) (c + 1) 0
ended_on l limit s kinds ends c n all low none h =
    record {
      searched = searched_ended l s.configs kinds ends c n low (λ i within. (h.sized i within).1 ∙ h.counts ∙ sym all) none h.searched;
      variables = h.variables;
      counts = h.counts;
      sized = h.sized;
      few = h.few;
      small = h.small;
    }

-- a condition that the outcome names has a flag
pub outcome_more : (m n : ℕ) (o : Outcome) → m ≤ n → OutcomeKnown m o → OutcomeKnown n o
outcome_more m n (Returned v) h known = tt
outcome_more m n (Thrown (User v)) h known = tt
outcome_more m n (Thrown Overflow) h known = tt
outcome_more m n (Thrown DivideByZero) h known = tt
outcome_more m n (Thrown (Broken id)) h known = let low : id.0 < m = known in omega (arith, low, h)
outcome_more m n (Thrown Outside) h known = tt
outcome_more m n Retries h known = tt

-- a condition that the outcome of a call names is one of the listing's
call_flagged : (l : Listing) (tx : TxId) (given : List ℤ) (m : State) → OutcomeKnown (length l.always) (outcome (call_program l tx given) m)
call_flagged l tx given m =
    let t = transaction_at l tx in
    let called : Transaction = record t { body = instance_statement given t.body; result = instance_expression given t.result } in
    outcome_known (record l { transactions = called ∷ [] }) (record { 0 = 0 }) m

pub turn_flagged : (l : Listing) (p q : Config) (inst : InstanceId) (o : Outcome) → limits_hold l ≡ true → TurnsTo l p inst q o → OutcomeKnown 64 o
turn_flagged l p q inst o rules to =
    outcome_more (length l.always) 64 o (omega (arith, (limits_parts l rules).conditions_few)) (subst (OutcomeKnown (length l.always)) to.ends (call_flagged l (instance_at l inst).tx (instance_at l inst).arguments p.state))
