-- Why the bytes of a file come to no text.
use Rattle.std.specs.Prelude.{◌≡◌, ℕ, List, Some}
use Rattle.txn_text.specs.Spelling.{first_fault}
use Rattle.run_interface.specs.declared.fault.RunFault.{RunFault}
use Rattle.run_interface.specs.declared.fault.RunFault.TheVariants.{Input, Memory, Output, Schedule}

-- they spell no file, and have this kind of fault first; or memory was refused
abbrev pub IsRefused : List ℕ → RunFault → Type 0
IsRefused input (Input kind) = first_fault input ≡ Some kind
IsRefused input Memory = Unit {0}
IsRefused input Output = ⊥
IsRefused input (Schedule kind) = ⊥
