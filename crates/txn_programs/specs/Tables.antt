-- The cells of a table: which variable each of them is, and what all of them make together.
use Rattle.std.specs.Prelude.{ℕ, ◌+◌, ◌-◌, ◌^◌, nat_lt, if◌then◌else◌, Result, Ok, Err, ℤ, pos, negsuc}
use Rattle.std.specs.Int.RustNames.{int_le}
use Rattle.txn_programs.specs.Arithmetic.{sum_of}
use Rattle.txn_programs.specs.declared.ast.VarId.{VarId}
use Rattle.txn_programs.specs.declared.ast.Span.{Span}
use Rattle.txn_programs.specs.declared.ast.Fold.{Fold}
use Rattle.txn_programs.specs.declared.ast.Fold.TheVariants.{Sum, Min, Max}
use Rattle.txn_programs.specs.declared.ast.Fault.{Fault}
use Rattle.txn_programs.specs.declared.ast.Fault.TheVariants.{Outside}

-- the cell with a number, counted from 0, of so many whose first is this variable
abbrev pub cell_from : ℕ → ℕ → ℤ → Result VarId Fault
cell_from first length (pos i) = if nat_lt i length then Ok (record { 0 = first + i }) else Err Outside
cell_from first length (negsuc i) = Err Outside

abbrev pub cell_of : Span → ℤ → Result VarId Fault
cell_of t i = cell_from t.first t.length i

-- what no cell at all makes: 0, and the greatest and the least number of 64 signed bits
abbrev pub beginning : Fold → ℤ
beginning Sum = pos 0
beginning Min = pos (2 ^ 63 - 1)
beginning Max = negsuc (2 ^ 63 - 1)

-- what some cells make, with one cell more
abbrev pub joined : Fold → ℤ → ℤ → Result ℤ Fault
joined Sum x y = sum_of x y
joined Min x y = Ok (if int_le x y then x else y)
joined Max x y = Ok (if int_le x y then y else x)
