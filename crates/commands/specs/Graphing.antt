-- What writing a graph leaves.
use Rattle.std.specs.Prelude.{ℕ, List, Option, Result, Ok, Err}
use Rattle.explore_runner.specs.Graphing.{Drew, most_nodes}
use Rattle.explore_runner.specs.declared.sight.Sight.{Sight}
use Rattle.explore_runner.specs.declared.sight.Sight.TheVariants.{Whole, More}
use Rattle.commands.specs.Files.{AfterReading, file_limit}
use Rattle.run_interface.specs.declared.fault.RunFault.{RunFault}
use Rattle.command_line.specs.declared.answer.Answer.{Answer}
use Rattle.command_line.specs.declared.answer.Answer.TheVariants.{Done, Unlawful, Refused, Unreadable, Failed, Earlier}

-- the answers of writing the graph of bytes
abbrev pub drawn : Sight → Result Sight RunFault
drawn sight = Ok sight

abbrev pub undrawn : RunFault → Result Sight RunFault
undrawn fault = Err fault

-- by the answer: what writing the graph of these bytes leaves that ends so
abbrev pub DrawnBytes : ℕ → List ℕ → Option (List ℕ) → Option (List ℕ) → Answer → Type 0
DrawnBytes limit file old new Done = Drew file (most_nodes limit) old new (drawn Whole)
DrawnBytes limit file old new Unlawful = Drew file (most_nodes limit) old new (drawn More)
DrawnBytes limit file old new Refused = ⊥
DrawnBytes limit file old new (Unreadable source) = ⊥
DrawnBytes limit file old new (Failed fault) = Drew file (most_nodes limit) old new (undrawn fault)
DrawnBytes limit file old new (Earlier kind) = ⊥

-- of a file of which it is known that it has these bytes, if anything is
abbrev pub DrawnFile : Option (List ℕ) → ℕ → Option (List ℕ) → Option (List ℕ) → Answer → Type 0
DrawnFile known limit old new a = AfterReading file_limit known (λ file. DrawnBytes limit file old new a) old new a
