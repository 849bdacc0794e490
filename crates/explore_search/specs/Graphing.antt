-- What is known while the graph of all orders is made.
use Rattle.std.specs.Prelude.{◌≡◌, ℕ, ◌<◌, List, [], ◌∷◌, ◌++◌, map, length, Option, Some, None, slice_get}
use Rattle.std.specs.List.{Contains}
use Rattle.txn_programs.specs.Listing.{Listing}
use Rattle.explore_law.specs.declared.found.End.{End}
use Rattle.explore_law.specs.declared.graph.Turn.{Turn}
use Rattle.explore_law.specs.declared.graph.Node.{Node}
use Rattle.explore_law.specs.declared.instance.InstanceId.{InstanceId}
use Rattle.explore_law.specs.Instances.{instances}
use Rattle.explore_law.specs.Orders.{Config, HasTurn}
use Rattle.explore_law.specs.Explored.{end_config}
use Rattle.explore_law.specs.Graphs.{IsTurn, ListsTurns, node_config, node_configs}

abbrev pub configs : List End → List Config
configs es = map end_config es

-- each has a value for each variable, and a count for each instance
abbrev pub IsSized : Listing → List Config → Type 0
IsSized l ps = (p : Config) → Contains ps p → (length p.state ≡ length l.initial) × (length p.left ≡ length (instances l))

-- by the answer: such a turn of the instance, or it has none
abbrev pub TurnOrNone : Listing → List Config → Config → InstanceId → Option Turn → Type 0
TurnOrNone l ps p k None = HasTurn l p k → ⊥
TurnOrNone l ps p k (Some t) = IsTurn l ps p t × (t.instance ≡ k)

-- with the turn behind the others, if it is one
abbrev pub with_turn : List Turn → Option Turn → List Turn
with_turn ts None = ts
with_turn ts (Some t) = ts ++ t ∷ []

-- the turns at the configuration p of the instances below n, each once, in order
pub record ListsTurnsBelow (l : Listing) (ps : List Config) (p : Config) (n : ℕ) (ts : List Turn) : Type 0 where
  pub are : (t : Turn) → Contains ts t → IsTurn l ps p t × (t.instance.0 < n)
  pub all : (k : InstanceId) → k.0 < n → HasTurn l p k → Contains (map (λ (t : Turn). t.instance) ts) k
  pub ascend : (i j : ℕ) (t u : Turn) → i < j → slice_get ts i ≡ Some t → slice_get ts j ≡ Some u → t.instance.0 < u.instance.0

-- nodes of the configurations qs, each with its turns
pub record AreNodesOf (l : Listing) (ps qs : List Config) (ns : List Node) : Type 0 where
  pub same : node_configs ns ≡ qs
  pub turns : (n : Node) → Contains ns n → ListsTurns l ps (node_config n) n.turns.items

abbrev pub AreNodes : Listing → List Config → List Node → Type 0
AreNodes l ps ns = AreNodesOf l ps ps ns
