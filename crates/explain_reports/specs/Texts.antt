-- How an explanation is written.
use Rattle.std.specs.Prelude.{ℕ, List, [], ◌∷◌, ◌++◌, codes}
use Rattle.std.specs.Fmt.{decimal}
use Rattle.txn_programs.specs.Listing.{Listing, always_name}
use Rattle.text_words.specs.Words.{line as line_of}
use Rattle.text_words.specs.declared.fault.ReadFault.{ReadFault}
use Rattle.text_words.specs.declared.fault.ReadFault.TheVariants.{TooLong, BadByte, Shape, Name, Limit, Broken, Memory}
use Rattle.text_report_printer.specs.Names.{transaction_name, value_name}
use Rattle.text_report_printer.specs.ReportText.{variable_line, entry_line, outcome_text}
use Rattle.text_line_reader.specs.Reports.{max_len}
use Rattle.checker.specs.declared.verdict.Part.TheVariants.{Text}
use Rattle.checker.specs.Lines.{bad_line, line_of as verdict_line}
use Rattle.checker.specs.declared.verdict.Verdict.TheVariants as verdict
use Rattle.explain_reports.specs.declared.flaw.Flaw.{Flaw}
use Rattle.explain_reports.specs.declared.flaw.Flaw.TheVariants.{Untrue, Opening, Late, Entry, Number, Present, NotOwn}
use Rattle.explain_reports.specs.declared.flaw.Flaw.TheVariants.{Again, Falls, Count, Ends}
use Rattle.explain_reports.specs.declared.explaining.ReportExplanation.{ReportExplanation}
use Rattle.explain_reports.specs.declared.explaining.ReportExplanation.TheVariants.{Good, Unread, Bad}
use Rattle.explain_reports.specs.Flaws.{part_of}

-- why bytes are the text of no report
abbrev pub kind_text : Listing → ReadFault → List ℕ
kind_text l TooLong = codes "it has more than " ++ (decimal (max_len l) ++ codes " bytes\n")
kind_text l BadByte = codes "it has a byte that is neither a newline nor printable ASCII\n"
kind_text l Shape = codes "a line has not the form of the one that stands in its place\n"
kind_text l Name = codes "a name is not one that may stand in its place\n"
kind_text l Limit = codes "a number is not one that may stand in its place\n"
-- these are no faults of a report
kind_text l Broken = codes "\n"
kind_text l Memory = codes "\n"

-- what is so in place of what the line says: these words, then this, then these
unfoldable pub front_text : Flaw → List ℕ
front_text (Untrue id) = codes "the standing condition "
front_text (Opening i value) = codes "the file has "
front_text (Late i) = codes "no version is above the number of the base\n"
front_text (Entry i due) = codes "replay has "
front_text (Number n) = codes "replay has "
front_text (Present i value version) = codes "replay has "
front_text (NotOwn at tx) = codes "the task runs "
front_text (Again at) = codes "the task stands on a line before\n"
front_text (Falls at) = codes "the task is not larger than that of the line before\n"
front_text Count = codes "the base and the lines do not add up to the tasks of the file\n"
front_text (Ends i ending) = codes "the task does not wait: "

abbrev pub what_text : Listing → Flaw → List ℕ
what_text l (Untrue id) = always_name l id
what_text l (Opening i value) = variable_line (value_name l i) (value, 0)
what_text l (Late i) = []
what_text l (Entry i due) = entry_line l due
what_text l (Number n) = line_of (codes "now" ∷ decimal n ∷ [])
what_text l (Present i value version) = variable_line (value_name l i) (value, version)
what_text l (NotOwn at tx) = transaction_name l tx.0
what_text l (Again at) = []
what_text l (Falls at) = []
what_text l Count = []
what_text l (Ends i ending) = outcome_text l ending

unfoldable pub back_text : Flaw → List ℕ
back_text (Untrue id) = codes " is not true of these values\n"
back_text (Opening i value) = []
back_text (Late i) = []
back_text (Entry i due) = []
back_text (Number n) = []
back_text (Present i value version) = []
back_text (NotOwn at tx) = codes "\n"
back_text (Again at) = []
back_text (Falls at) = []
back_text Count = []
back_text (Ends i ending) = codes "\n"

abbrev pub flaw_text : Listing → Flaw → List ℕ
flaw_text l flaw = front_text flaw ++ (what_text l flaw ++ back_text flaw)

-- the verdict; why the bytes are no report, or the line with its number and its text; and what is so in its place
abbrev pub explanation_text : Listing → ReportExplanation → List ℕ
explanation_text l Good = verdict_line verdict.Good
explanation_text l (Unread kind) = bad_line Text ++ kind_text l kind
explanation_text l (Bad line flaw) = bad_line (part_of flaw)
    ++ (codes "line " ++ (decimal line.number ++ (codes ": " ++ (line.text.now ++ (codes "\n" ++ flaw_text l flaw)))))
