use Rattle.std.proofs.Common.{◌≡◌, ◌+◌, ◌*◌, ◌≤◌, true, length}
use Rattle.txn_words.specs.Words.{StartsWith}
use Rattle.cells.specs.Passing.{at}
use Rattle.cells.specs.Answers.{AgreesUpTo}
use Rattle.cells.proofs.pass.Pass.extend.Given as goal

abbrev pub invariant-loop-entry : goal.invariant-loop-entry
invariant-loop-entry l =
    (l.self.cells ≡ l.fn.self.cells)
    × StartsWith l.self.seen l.fn.self.seen
    × (l.self.clock_loads ≡ l.fn.self.clock_loads + 1)
    × (l.self.word_loads ≤ l.fn.self.word_loads + 3 * l.entry-index)
    × (length l.self.seen ≡ l.self.rv + 1)
    × (l.self.open_now ≡ true)
    × AgreesUpTo l.log (at l.self) l.entry-index
