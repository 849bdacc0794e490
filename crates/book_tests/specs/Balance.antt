-- Two accounts whose sum stays 100.
use Rattle.std.specs.Prelude.{ℤ, ◌+ℤ◌, pos, List, [], ◌∷◌}
use Rattle.txn_programs.specs.declared.ast.VarId.{VarId}
use Rattle.txn_programs.specs.Meaning.{State, value_at}
use Rattle.txn_programs.specs.Tree.{Condition, Eq, Add, Var, Int}

abbrev pub a : VarId
a = record { 0 = 0 }

abbrev pub b : VarId
b = record { 0 = 1 }

-- (eq (add a b) 100)
abbrev pub sum_stays : Condition
sum_stays = Eq (Add (Var a) (Var b)) (Int (pos 100))

abbrev pub sum_of_accounts : State → ℤ
sum_of_accounts m = value_at m a +ℤ value_at m b
