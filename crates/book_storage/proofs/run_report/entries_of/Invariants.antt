use Rattle.std.proofs.Common.{◌≡◌, take}
use Rattle.book_storage.proofs.run_report.entries_of.Given as goal

abbrev pub invariant-lines : goal.invariant-lines
invariant-lines l = l.entries.items ≡ take l.line-index l.lines
