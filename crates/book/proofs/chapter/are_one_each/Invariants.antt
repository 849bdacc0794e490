use Rattle.std.proofs.Common.{◌≡◌, take, drop}
use Rattle.book.specs.ChapterInside.{one_each}
use Rattle.book.proofs.chapter.are_one_each.Given as goal

abbrev pub invariant-loop-i : goal.invariant-loop-i
invariant-loop-i l = take l.i l.runs ≡ one_each (take l.i (drop l.from l.calls.calls))
