-- Integers as numbers of the machine.
use Rattle.std.specs.Prelude.{ℕ, ℤ, pos, negsuc, nat_lt, if◌then◌else◌, Result, Ok, Err, ◌^◌}
use Rattle.txn_programs.specs.Arithmetic.{fits}
use Rattle.text_words.specs.declared.fault.ReadFault.{ReadFault}
use Rattle.text_words.specs.declared.fault.ReadFault.TheVariants.{Limit}

-- a number of 64 signed bits
unfoldable pub number_of : ℤ → Result ℤ ReadFault
number_of z = if fits z then Ok z else Err Limit

-- a count of 32 bits
unfoldable pub count_of : ℤ → Result ℕ ReadFault
count_of (pos n) = if nat_lt n (2 ^ 32) then Ok n else Err Limit
count_of (negsuc n) = Err Limit
