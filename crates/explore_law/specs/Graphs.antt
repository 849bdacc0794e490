-- The graph of all orders: a node for each reached configuration, with its turns.
use Rattle.std.specs.Prelude.{◌≡◌, ℕ, ◌<◌, List, map, Some, slice_get}
use Rattle.std.specs.List.{Contains}
use Rattle.std.specs.List.Sorted.{IsSorted}
use Rattle.txn_programs.specs.Listing.{Listing}
use Rattle.txn_programs.specs.Meaning.{outcome}
use Rattle.explore_law.specs.declared.graph.Turn.{Turn}
use Rattle.explore_law.specs.declared.graph.Node.{Node}
use Rattle.explore_law.specs.declared.graph.Graph.{Graph}
use Rattle.explore_law.specs.declared.instance.InstanceId.{InstanceId}
use Rattle.explore_law.specs.Instances.{instance_program}
use Rattle.explore_law.specs.Orders.{Config, HasTurn, turned}
use Rattle.explore_law.specs.Explored.{ListsReached, config_cmp}

-- the configuration of a node
abbrev pub node_config : Node → Config
node_config n = record { state = n.values.items; left = n.left.items }

abbrev pub node_configs : List Node → List Config
node_configs ns = map node_config ns

-- a turn at the configuration p, which ends so and leads to that of this number
pub record IsTurn (l : Listing) (ps : List Config) (p : Config) (t : Turn) : Type 0 where
  pub turn : HasTurn l p t.instance
  pub ends : outcome (instance_program l t.instance) p.state ≡ t.outcome
  pub leads : slice_get ps t.to ≡ Some (turned l p t.instance)

-- exactly the turns at the configuration p, each once, in the order of their instances
pub record ListsTurns (l : Listing) (ps : List Config) (p : Config) (ts : List Turn) : Type 0 where
  pub are : (t : Turn) → Contains ts t → IsTurn l ps p t
  pub all : (k : InstanceId) → HasTurn l p k → Contains (map (λ (t : Turn). t.instance) ts) k
  pub ascend : (i j : ℕ) (t u : Turn) → i < j → slice_get ts i ≡ Some t → slice_get ts j ≡ Some u → t.instance.0 < u.instance.0

-- a node for each configuration that is reached, in order, and each has its turns
pub record IsGraph (l : Listing) (g : Graph) : Type 0 where
  pub reached : ListsReached l (node_configs g.nodes.items)
  pub ascend : IsSorted config_cmp (node_configs g.nodes.items)
  pub turns : (n : Node) → Contains g.nodes.items n → ListsTurns l (node_configs g.nodes.items) (node_config n) n.turns.items
