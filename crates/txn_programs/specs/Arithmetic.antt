-- Signed 64-bit arithmetic, where each result that does not fit is a fault.
use Rattle.std.specs.Prelude.{zero, ◌^◌, Bool, Result, Ok, Err, nat_lt, if◌then◌else◌, ℤ, pos, negsuc, ◌+ℤ◌, ◌-ℤ◌, ◌*ℤ◌}
use Rattle.std.specs.Int.RustNames.{int_div, int_rem}
use Rattle.txn_programs.specs.declared.ast.Fault.{Fault}
use Rattle.txn_programs.specs.declared.ast.Fault.TheVariants.{Overflow, DivideByZero}

-- z is a value of 64 signed bits
abbrev pub fits : ℤ → Bool
fits (pos n) = nat_lt n (2 ^ 63)
fits (negsuc n) = nat_lt n (2 ^ 63)

-- a result r, or Overflow where the number z does not fit
abbrev pub fitted : ℤ → ℤ → Result ℤ Fault
fitted z r = if fits z then Ok r else Err Overflow

abbrev pub sum_of : ℤ → ℤ → Result ℤ Fault
sum_of x y = fitted (x +ℤ y) (x +ℤ y)

abbrev pub difference_of : ℤ → ℤ → Result ℤ Fault
difference_of x y = fitted (x -ℤ y) (x -ℤ y)

abbrev pub product_of : ℤ → ℤ → Result ℤ Fault
product_of x y = fitted (x *ℤ y) (x *ℤ y)

-- the quotient, cut towards zero
abbrev pub quotient_of : ℤ → ℤ → Result ℤ Fault
quotient_of x (pos zero) = Err DivideByZero
quotient_of x y = fitted (int_div x y) (int_div x y)

-- the remainder has the sign of x; it is Overflow where the quotient is
abbrev pub remainder_of : ℤ → ℤ → Result ℤ Fault
remainder_of x (pos zero) = Err DivideByZero
remainder_of x y = fitted (int_div x y) (int_rem x y)
