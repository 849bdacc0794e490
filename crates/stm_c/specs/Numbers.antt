-- What the calls answer, in the numbers of the header.
use Rattle.std.specs.Prelude.{ℕ, zero, suc, ℤ, pos, negsuc, ◌<◌, Result, Ok, Err}
use Rattle.txn_programs.specs.declared.ast.Fault.TheVariants as fault
use Rattle.txn_programs.specs.declared.ast.Outcome.{Outcome}
use Rattle.txn_programs.specs.declared.ast.Outcome.TheVariants as outcome
use Rattle.text_words.specs.declared.fault.ReadFault.{ReadFault}
use Rattle.text_words.specs.declared.fault.ReadFault.TheVariants as read
use Rattle.checker.specs.declared.verdict.Part.{Part}
use Rattle.checker.specs.declared.verdict.Part.TheVariants as part
use Rattle.checker.specs.declared.verdict.Verdict.{Verdict}
use Rattle.checker.specs.declared.verdict.Verdict.TheVariants as verdict
use Rattle.stm_store.specs.declared.job.Ticket.{Ticket}
use Rattle.stm_store.specs.declared.answers.Refused.{Refused}
use Rattle.stm_store.specs.declared.answers.Refused.TheVariants as refused
use Rattle.stm_store.specs.declared.answers.Way.{Way}
use Rattle.stm_store.specs.declared.answers.Way.TheVariants as way

-- -6: out of memory
abbrev pub out_of_memory : ℤ
out_of_memory = negsuc 5

-- -8: the room is too short, and how long it has to be was told
abbrev pub too_short : ℤ
too_short = negsuc 7

-- -9: there is no such transaction, variable, table or cell; or the transaction has another number of parameters
abbrev pub not_there : ℤ
not_there = negsuc 8

-- -10: more workers than a store can have, or than it was opened for; or no transaction to work on
abbrev pub no_worker : ℤ
no_worker = negsuc 9

-- -11: the worker has no ended attempt to bring; the host did not say yet of a chapter whether it was kept, or it is another
abbrev pub not_ended : ℤ
not_ended = negsuc 10

-- -12: the handle is empty
abbrev pub empty_handle : ℤ
empty_handle = negsuc 11

-- -13: the handle that is to hold what is made holds something
abbrev pub full_handle : ℤ
full_handle = negsuc 12

-- -14: there is no room for another task; or there would be more tasks than there may be
abbrev pub no_room : ℤ
no_room = negsuc 13

-- -15: a task is ready or running
abbrev pub work_left : ℤ
work_left = negsuc 14

-- -26: no task is ready; nothing is to be told, or to be evaluated
abbrev pub not_ready : ℤ
not_ready = negsuc 25

-- -1 to -7: why a file is refused, or out of memory
abbrev pub IsFileFault : ℤ → Type 0
IsFileFault (pos n) = ⊥
IsFileFault (negsuc n) = n < 7

-- why a file is refused
abbrev pub number_of_fault : ReadFault → ℤ
number_of_fault read.TooLong = negsuc 0
number_of_fault read.BadByte = negsuc 1
number_of_fault read.Shape = negsuc 2
number_of_fault read.Name = negsuc 3
number_of_fault read.Limit = negsuc 4
number_of_fault read.Memory = out_of_memory
number_of_fault read.Broken = negsuc 6

-- why a schedule is refused; its reader has no rules that a file could break
abbrev pub number_of_schedule_fault : ReadFault → ℤ
number_of_schedule_fault read.TooLong = negsuc 20
number_of_schedule_fault read.BadByte = negsuc 21
number_of_schedule_fault read.Shape = negsuc 22
number_of_schedule_fault read.Name = negsuc 23
number_of_schedule_fault read.Limit = negsuc 24
number_of_schedule_fault read.Memory = out_of_memory
number_of_schedule_fault read.Broken = negsuc 26

-- the part of a report that does not hold
abbrev pub number_of_part : Part → ℤ
number_of_part part.Text = pos 101
number_of_part part.Base = pos 102
number_of_part part.Entries = pos 103
number_of_part part.Present = pos 104
number_of_part part.Tasks = pos 105
number_of_part part.Parked = pos 106

abbrev pub number_of_verdict : Result Verdict ReadFault → ℤ
number_of_verdict (Ok verdict.Good) = pos 0
number_of_verdict (Ok (verdict.Bad p)) = number_of_part p
number_of_verdict (Err e) = number_of_fault e

-- why a call of a store did nothing
abbrev pub number_of_refused : Refused → ℤ
number_of_refused refused.Unknown = not_there
number_of_refused refused.Gone = negsuc 17
number_of_refused refused.NotReady = not_ready
number_of_refused refused.NotRunning = pos 3
number_of_refused refused.NotEnded = not_ended
number_of_refused refused.OtherProgram = negsuc 16
number_of_refused refused.Stale = pos 2
number_of_refused refused.NoRoom = no_room
number_of_refused refused.Retries = pos 1
number_of_refused refused.Memory = out_of_memory
number_of_refused refused.Closed = negsuc 18
number_of_refused refused.TimedOut = negsuc 19

-- 0 where it was done, else why not
abbrev pub number_of_done : Result (Unit {0}) Refused → ℤ
number_of_done (Ok done) = pos 0
number_of_done (Err why) = number_of_refused why

abbrev pub number_of_ticket : Ticket → ℤ
number_of_ticket t = pos t.0

-- a ticket's number; where no task was submitted, why not
abbrev pub ticket_told : Result Ticket Refused → ℤ
ticket_told (Ok t) = number_of_ticket t
ticket_told (Err why) = number_of_refused why

-- a call waits where its way is 0, else it is a try
abbrev pub way_told : ℕ → Way
way_told zero = way.Waits
way_told (suc n) = way.Tries

-- how a transaction ends
abbrev pub code_of_outcome : Outcome → ℤ
code_of_outcome (outcome.Returned value) = pos 0
code_of_outcome outcome.Retries = pos 1
code_of_outcome (outcome.Thrown (fault.User value)) = pos 5
code_of_outcome (outcome.Thrown fault.Overflow) = pos 6
code_of_outcome (outcome.Thrown fault.DivideByZero) = pos 7
code_of_outcome (outcome.Thrown (fault.Broken condition)) = pos 8
code_of_outcome (outcome.Thrown fault.Outside) = pos 16

-- what it returned or threw, or the number of the condition that would be broken; else 0
abbrev pub value_of_outcome : Outcome → ℤ
value_of_outcome (outcome.Returned value) = value
value_of_outcome outcome.Retries = pos 0
value_of_outcome (outcome.Thrown (fault.User value)) = value
value_of_outcome (outcome.Thrown fault.Overflow) = pos 0
value_of_outcome (outcome.Thrown fault.DivideByZero) = pos 0
value_of_outcome (outcome.Thrown (fault.Broken condition)) = pos condition.0
value_of_outcome (outcome.Thrown fault.Outside) = pos 0
