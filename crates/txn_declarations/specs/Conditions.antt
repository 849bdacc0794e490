-- What a declared standing condition says: its name, and the condition.
use Rattle.std.specs.Prelude.{ℕ, List, string_bytes}
use Rattle.std.specs.declared.alloc.Global.{Global}
use Rattle.std.specs.declared.string.String.{String}
use Rattle.txn_programs.specs.declared.ast.Cond.{Cond}
use Rattle.txn_programs.specs.Tree.{Condition, condition_of}

abbrev pub standing_of : String Global × Cond → List ℕ × Condition
standing_of a = (string_bytes a.0, condition_of a.1)
