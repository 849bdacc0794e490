-- All ways to a configuration have as many turns.
use Rattle.std.proofs.Common.{◌≡◌, ℕ, ◌+◌, ◌-◌, ◌≤◌, List, [], ◌∷◌, length, get_or, sum, ap, arith}
use Rattle.std.proofs.lemmas.List.Sums.{sum_by-set}
use Rattle.explore_law.specs.declared.instance.InstanceId.{InstanceId}
use Rattle.txn_programs.specs.Listing.{Listing}
use Rattle.explore_law.specs.Orders.{Config, first_config, HasTurn, turned, Leads}
use Rattle.explore_law.specs.Ways.{IsWay}
use Rattle.explore_search.proofs.Whole.{turn_known}

-- how many tasks are left in all
abbrev all_left : Config → ℕ
all_left p = sum p.left

turn_takes_one : (l : Listing) (p : Config) (inst : InstanceId) → HasTurn l p inst → all_left p ≡ all_left (turned l p inst) + 1
turn_takes_one l p inst turn =
    let kept = sum_by-set (λ (n : ℕ). n) p.left inst.0 (get_or p.left inst.0 0 - 1) 0 (turn_known l p inst turn) in
    omega (arith, kept, turn.left)

turns_taken : (l : Listing) (p : Config) (turns : List InstanceId) (q : Config) → Leads l p turns q → all_left p ≡ length turns + all_left q
turns_taken l p [] q e = omega (arith, ap all_left e)
turns_taken l p (t ∷ ts) q h =
    let one = turn_takes_one l p t h.0 in
    let rest = turns_taken l (turned l p t) ts q h.1 in
    omega (arith, one, rest)

-- to where more tasks are left lead no more turns
pub more_left : (l : Listing) (turns others : List InstanceId) (p q : Config) → Leads l (first_config l) turns p → Leads l (first_config l) others q → sum q.left ≤ sum p.left
    → length turns ≤ length others
more_left l turns others p q leads way more =
    let a = turns_taken l (first_config l) turns p leads in
    let b = turns_taken l (first_config l) others q way in
    omega (arith, a, b, more)

pub any_way : (l : Listing) (turns : List InstanceId) (q : Config) → Leads l (first_config l) turns q → IsWay l turns q
any_way l turns q leads =
    record {
      leads = leads;
      fewest = λ others way.
          let a = turns_taken l (first_config l) turns q leads in
          let b = turns_taken l (first_config l) others q way in
          omega (arith, a, b);
    }
