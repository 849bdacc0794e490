-- What writing a graph leaves.
use Rattle.std.specs.Prelude.{◌≡◌, ◌≤◌, ℕ, List, length, min, take, Option, Some, Result, Ok, Err}
use Rattle.std.specs.Io.KnownBytes.{Appends, Keeps}
use Rattle.txn_programs.specs.Listing.{Listing}
use Rattle.txn_text.specs.Spelling.{Spells, first_fault}
use Rattle.run_interface.specs.declared.fault.RunFault.{RunFault}
use Rattle.run_interface.specs.declared.fault.RunFault.TheVariants.{Input, Memory, Output, Schedule}
use Rattle.explore_law.specs.declared.graph.Graph.{Graph}
use Rattle.explore_law.specs.Graphs.{IsGraph}
use Rattle.explore_runner.specs.GraphText.{graph_text}
use Rattle.explore_runner.specs.Showing.{IsMoreText}
use Rattle.explore_runner.specs.declared.sight.Sight.{Sight}
use Rattle.explore_runner.specs.declared.sight.Sight.TheVariants.{Whole, More}

-- how many nodes a graph has at most, by how many states are looked at
abbrev pub most_nodes : ℕ → ℕ
most_nodes limit = min limit 2000

-- the text is that of exactly the graph of the file that the input spells, which has no more nodes than so many
pub record IsGraphText (input : List ℕ) (most : ℕ) (text : List ℕ) : Type 0 where
  pub file : Listing
  pub spelled : Spells input file
  pub graph : Graph
  pub is_graph : IsGraph file graph
  pub few : length graph.nodes.items ≤ most
  pub printed : text ≡ graph_text file graph

abbrev pub IsDrawn : List ℕ → ℕ → Sight → List ℕ → Type 0
IsDrawn input most Whole text = IsGraphText input most text
IsDrawn input most More text = IsMoreText input most text

-- such a text was written
pub record WroteDrawn (input : List ℕ) (most : ℕ) (sight : Sight) (old new : Option (List ℕ)) : Type 0 where
  pub text : List ℕ
  pub drawn : IsDrawn input most sight text
  pub written : Appends old new text

-- a beginning of such a text was written
pub record BeganDrawn (input : List ℕ) (most : ℕ) (old new : Option (List ℕ)) : Type 0 where
  pub sight : Sight
  pub text : List ℕ
  pub drawn : IsDrawn input most sight text
  pub count : ℕ
  pub written : Appends old new (take count text)

-- by the answer: a whole text, or nothing and the first kind of fault, or nothing, or a beginning
abbrev pub Drew : List ℕ → ℕ → Option (List ℕ) → Option (List ℕ) → Result Sight RunFault → Type 0
Drew input most old new (Ok sight) = WroteDrawn input most sight old new
Drew input most old new (Err (Input kind)) = (first_fault input ≡ Some kind) × Keeps old new
Drew input most old new (Err Memory) = Keeps old new
Drew input most old new (Err Output) = BeganDrawn input most old new
-- all orders have no schedule
Drew input most old new (Err (Schedule kind)) = ⊥
