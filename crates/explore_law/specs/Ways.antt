-- A way to an end: turns that lead there from the first configuration.
use Rattle.std.specs.Prelude.{◌≡◌, ℕ, ◌≤◌, List, length, Option, Some, None, slice_get}
use Rattle.std.specs.declared.vec.Vec.{Vec}
use Rattle.std.specs.declared.alloc.Global.{Global}
use Rattle.txn_programs.specs.Listing.{Listing}
use Rattle.explore_law.specs.declared.found.End.{End}
use Rattle.explore_law.specs.declared.found.Found.{Found}
use Rattle.explore_law.specs.declared.instance.InstanceId.{InstanceId}
use Rattle.explore_law.specs.Orders.{Config, first_config, Leads}
use Rattle.explore_law.specs.Explored.{Explored, end_config}

-- these turns, in this order, lead from the first configuration to p, and no fewer do
pub record IsWay (l : Listing) (turns : List InstanceId) (p : Config) : Type 0 where
  pub leads : Leads l (first_config l) turns p
  pub fewest : (others : List InstanceId) → Leads l (first_config l) others p → length turns ≤ length others

-- these turns are a way to the end of number k, counted from 0, of those that are found
pub record IsWayToEnd (l : Listing) (f : Found) (k : ℕ) (turns : List InstanceId) : Type 0 where
  pub end : End
  pub listed : slice_get f.ends.items k ≡ Some end
  pub way : IsWay l turns (end_config end)

-- by the answer: such a way, or there are no more than k ends
abbrev pub WayOrNone : Listing → Found → ℕ → Option (Vec InstanceId Global) → Type 0
WayOrNone l f k None = length f.ends.items ≤ k
WayOrNone l f k (Some turns) = IsWayToEnd l f k turns.items

-- that, of what is found when all orders are seen
pub record WayOfEnd (l : Listing) (k : ℕ) (way : Option (Vec InstanceId Global)) : Type 0 where
  pub found : Found
  pub explored : Explored l found
  pub answer : WayOrNone l found k way
