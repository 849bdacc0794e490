-- What the fields of a packed entry mean, and what a report with a packed journal tells.
use Rattle.std.specs.Prelude.{◌≡◌, ◌<◌, ◌^◌, ℕ, ℤ, pos, negsuc}
use Rattle.txn_programs.specs.declared.ast.Fault.TheVariants.{User, Overflow, DivideByZero, Broken, Outside}
use Rattle.txn_programs.specs.declared.ast.Outcome.{Outcome}
use Rattle.txn_programs.specs.declared.ast.Outcome.TheVariants.{Returned, Thrown, Retries}
use Rattle.txn_programs.specs.declared.report.Entry.{Entry}
use Rattle.txn_programs.specs.Told.{Told, told}
use Rattle.book_storage.specs.declared.packed_entry.How.{How}
use Rattle.book_storage.specs.declared.packed_entry.How.TheVariants as how
use Rattle.book_storage.specs.declared.packed_entry.PackedEntry.TheInside.{Inside}
use Rattle.book_storage.specs.declared.run_report.RunReport.{RunReport}

-- the number that a value is, where it is one
abbrev pub number_in : ℤ → ℕ
number_in (pos n) = n
number_in (negsuc n) = 0

-- the outcome that ended so, with this value
abbrev pub outcome_with : How → ℤ → Outcome
outcome_with how.Returned value = Returned value
outcome_with how.User value = Thrown (User value)
outcome_with how.Overflow value = Thrown Overflow
outcome_with how.DivideByZero value = Thrown DivideByZero
outcome_with how.Broken value = Thrown (Broken (record { 0 = number_in value }))
outcome_with how.Outside value = Thrown Outside
outcome_with how.Retries value = Retries

abbrev pub entry_of : Inside → Entry
entry_of l =
    record {
      number = l.number;
      task = record { 0 = l.task };
      tx = record { 0 = l.tx };
      outcome = outcome_with l.how l.value;
    }

-- where a condition was broken, the value is its number
abbrev pub IsPacked : Inside → Type 0
IsPacked l = l.how ≡ how.Broken → (n : ℕ) × (l.value ≡ pos n) × (n < 2 ^ 32)

-- a report with a packed journal tells those entries, and else what the rest of it tells
abbrev pub told_run : RunReport → Told
told_run r = record (told r.rest) { entries = r.journal.items }
