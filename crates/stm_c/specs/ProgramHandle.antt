-- What a `ProgramHandle` owns: nothing where its pointer is null, else a `&` to the program that lies there, which stays.
use base.Fml.{Fml, feq, fex, fsep, ftrue}
use base.Stored.{Coded}
use denote.RawPtr.{Ptr, null_ptr, Testable}
use denote.Struct.Lending.{lent_at}
use Rattle.std.specs.Prelude.{Option, None, Some, []}
use Rattle.std.specs.Coded.{coded_option}
use Rattle.stm_store.specs.contracts.program.Program.{the_row}

-- a pointer that may be compared with null
abbrev pub is_testable : Ptr → Fml
is_testable p = fex (Testable p) (λ _. ftrue)

abbrev pub handle_owns : Ptr → Option the_row.Denot → Fml
handle_owns p None = feq Ptr p null_ptr
handle_owns p (Some x) = fsep (lent_at the_row p x []) (is_testable p)

abbrev pub value_coded : Coded (Option the_row.Denot)
value_coded = coded_option the_row.coded
