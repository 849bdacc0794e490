-- Status and line of each fault.
use Rattle.std.specs.Prelude.{ℕ, List, codes}
use Rattle.text_words.specs.declared.fault.ReadFault.{ReadFault}
use Rattle.text_words.specs.declared.fault.ReadFault.TheVariants as read
use Rattle.run_interface.specs.declared.fault.RunFault.{RunFault}
use Rattle.run_interface.specs.declared.fault.RunFault.TheVariants.{Input, Memory, Output, Schedule}

abbrev pub status_of : RunFault → ℕ
status_of (Input kind) = 2
status_of Output = 4
status_of Memory = 5
status_of (Schedule kind) = 2

abbrev pub kind_line : ReadFault → List ℕ
kind_line read.TooLong = codes "stm: file: F1 TooLong"
kind_line read.BadByte = codes "stm: file: F2 BadByte"
kind_line read.Shape = codes "stm: file: F3 Shape"
kind_line read.Name = codes "stm: file: F4 Name"
kind_line read.Limit = codes "stm: file: F5 Limit"
kind_line read.Broken = codes "stm: file: F7 Broken"
kind_line read.Memory = codes "stm: out of memory"

abbrev pub schedule_line : ReadFault → List ℕ
schedule_line read.TooLong = codes "stm: schedule: F1 TooLong"
schedule_line read.BadByte = codes "stm: schedule: F2 BadByte"
schedule_line read.Shape = codes "stm: schedule: F3 Shape"
schedule_line read.Name = codes "stm: schedule: F4 Name"
schedule_line read.Limit = codes "stm: schedule: F5 Limit"
schedule_line read.Broken = codes "stm: schedule: F7 Broken"
schedule_line read.Memory = codes "stm: out of memory"

abbrev pub line_of : RunFault → List ℕ
line_of (Input kind) = kind_line kind
line_of Output = codes "stm: cannot write"
line_of Memory = codes "stm: out of memory"
line_of (Schedule kind) = schedule_line kind
