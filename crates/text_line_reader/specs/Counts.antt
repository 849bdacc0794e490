-- Numbers below a bound, and the tasks of a catalogue.
use Rattle.std.specs.Prelude.{ℕ, nat_lt, if◌then◌else◌, Result, Ok, Err, List, length}
use Rattle.std.specs.Str.Parse.{digits_value}
use Rattle.txn_programs.specs.declared.ast.TaskId.{TaskId}
use Rattle.txn_programs.specs.Listing.{Listing, tasks}
use Rattle.text_words.specs.Answers.{◌>>=◌}
use Rattle.text_words.specs.declared.fault.ReadFault.{ReadFault}
use Rattle.text_words.specs.declared.fault.ReadFault.TheVariants.{Limit}

-- a number below a bound
unfoldable pub below : ℕ → ℕ → Result ℕ ReadFault
below bound n = if nat_lt n bound then Ok n else Err Limit

-- one of the catalogue's tasks
unfoldable pub task_id : Listing → List ℕ → Result TaskId ReadFault
task_id l text = below (length (tasks l)) (digits_value 10 text) >>= λ n. Ok (record { 0 = n })
