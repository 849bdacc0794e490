-- What printing a file leaves, as it is or going on from a report.
use Rattle.std.specs.Prelude.{ℕ, List, Option, None, Ok, Err}
use Rattle.checker.specs.declared.verdict.Verdict.TheVariants.{Good, Bad}
use Rattle.checker.specs.declared.verdict.Part.{Part}
use Rattle.file_chains.specs.Printing.{Printed, PrintedOn}
use Rattle.file_chains.specs.declared.next.Next.{Next}
use Rattle.file_chains.specs.declared.next.Next.TheVariants.{Again, Chapter}
use Rattle.command_line.specs.declared.printing_words.Printed.{Printed as Wanted}
use Rattle.command_line.specs.declared.printing_words.Printed.TheVariants as what
use Rattle.commands.specs.Files.{AfterReading, AfterReadingReport, file_limit, done, ended}
use Rattle.command_line.specs.declared.answer.Answer.{Answer}
use Rattle.command_line.specs.declared.answer.Answer.TheVariants.{Done, Unlawful, Refused, Unreadable, Failed, Earlier}

-- by the answer: what printing these bytes leaves that ends so
abbrev pub PrintedBytes : List ℕ → Option (List ℕ) → Option (List ℕ) → Answer → Type 0
PrintedBytes input old new Done = Printed input old new done
PrintedBytes input old new Unlawful = ⊥
PrintedBytes input old new Refused = ⊥
PrintedBytes input old new (Unreadable source) = ⊥
PrintedBytes input old new (Failed fault) = Printed input old new (ended fault)
PrintedBytes input old new (Earlier kind) = ⊥

-- the same of that with which work goes on behind a report of these bytes
abbrev pub PrintedOnBytes : Next → List ℕ → List ℕ → Option (List ℕ) → Option (List ℕ) → Answer → Type 0
PrintedOnBytes next input report old new Done = PrintedOn next input report old new (Ok Good)
PrintedOnBytes next input report old new Unlawful = (part : Part) × PrintedOn next input report old new (Ok (Bad part))
PrintedOnBytes next input report old new Refused = ⊥
PrintedOnBytes next input report old new (Unreadable source) = ⊥
PrintedOnBytes next input report old new (Failed fault) = PrintedOn next input report old new (Err fault)
PrintedOnBytes next input report old new (Earlier kind) = ⊥

-- of a file of which it is known that it has these bytes, if anything is
abbrev pub PrintedFile : Option (List ℕ) → Option (List ℕ) → Option (List ℕ) → Answer → Type 0
PrintedFile known old new a = AfterReading file_limit known (λ input. PrintedBytes input old new a) old new a

abbrev pub PrintedOnFiles : Next → Option (List ℕ) → Option (List ℕ) → Option (List ℕ) → Option (List ℕ) → Answer → Type 0
PrintedOnFiles next file report old new a = AfterReadingReport file report (λ f r. PrintedOnBytes next f r old new a) old new a

-- by what is asked for
abbrev pub PrintedAs : Wanted → Option (List ℕ) → Option (List ℕ) → Answer → Type 0
PrintedAs what.File old new a = PrintedFile None old new a
PrintedAs (what.From report) old new a = PrintedOnFiles Again None None old new a
PrintedAs (what.After report) old new a = PrintedOnFiles Chapter None None old new a
