-- The status that the program ends with, and the line of an earlier file that is refused.
use Rattle.std.specs.Prelude.{ℕ, List, codes}
use Rattle.text_words.specs.declared.fault.ReadFault.{ReadFault}
use Rattle.text_words.specs.declared.fault.ReadFault.TheVariants as read
use Rattle.run_interface.specs.Statuses.{status_of}
use Rattle.command_line.specs.declared.answer.Answer.{Answer}
use Rattle.command_line.specs.declared.answer.Answer.TheVariants.{Done, Unlawful, Refused, Unreadable, Failed, Earlier}

abbrev pub exit_status : Answer → ℕ
exit_status Done = 0
exit_status Unlawful = 1
exit_status Refused = 3
exit_status (Unreadable source) = 4
exit_status (Failed fault) = status_of fault
exit_status (Earlier kind) = 2

abbrev pub earlier_line : ReadFault → List ℕ
earlier_line read.TooLong = codes "stm: earlier file: F1 TooLong"
earlier_line read.BadByte = codes "stm: earlier file: F2 BadByte"
earlier_line read.Shape = codes "stm: earlier file: F3 Shape"
earlier_line read.Name = codes "stm: earlier file: F4 Name"
earlier_line read.Limit = codes "stm: earlier file: F5 Limit"
earlier_line read.Broken = codes "stm: earlier file: F7 Broken"
earlier_line read.Memory = codes "stm: out of memory"
