-- What trying a turn tells.
use Rattle.std.specs.Prelude.{◌≡◌, Option, Some, None}
use Rattle.txn_programs.specs.declared.ast.Outcome.{Outcome}
use Rattle.txn_programs.specs.Listing.{Listing}
use Rattle.txn_programs.specs.Meaning.{outcome}
use Rattle.explore_law.specs.declared.instance.InstanceId.{InstanceId}
use Rattle.explore_law.specs.Instances.{instance_program}
use Rattle.explore_law.specs.Orders.{Config, HasTurn, turned}

-- there is one, which ends so and leads from p to q
pub record TurnsTo (l : Listing) (p : Config) (k : InstanceId) (q : Config) (o : Outcome) : Type 0 where
  pub turn : HasTurn l p k
  pub ends : outcome (instance_program l k) p.state ≡ o
  pub leads : q ≡ turned l p k

-- by the answer: such a turn, or there is none
abbrev pub Turns : Listing → Config → InstanceId → Config → Option Outcome → Type 0
Turns l p k q None = HasTurn l p k → ⊥
Turns l p k q (Some o) = TurnsTo l p k q o
