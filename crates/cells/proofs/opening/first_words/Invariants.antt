use Rattle.cells.specs.Private.{AreFirstWords}
use Rattle.cells.proofs.opening.first_words.Given as goal

abbrev pub invariant-loop-x : goal.invariant-loop-x
invariant-loop-x l = AreFirstWords l.values l.words.items l.x
