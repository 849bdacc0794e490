-- What declared conditions say, without their names.
use Rattle.std.specs.Prelude.{List, map}
use Rattle.std.specs.declared.alloc.Global.{Global}
use Rattle.std.specs.declared.string.String.{String}
use Rattle.txn_programs.specs.declared.ast.Cond.{Cond}
use Rattle.txn_programs.specs.Tree.{Condition, condition_of}

abbrev pub conditions_of : List (String Global × Cond) → List Condition
conditions_of always = map (λ a. condition_of a.1) always
