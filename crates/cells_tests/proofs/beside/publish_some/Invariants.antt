use Rattle.std.proofs.Common.{◌≡◌, ◌+◌, [], ◌∷◌, pos, length}
use Rattle.txn_words.specs.Words.{last_state}
use Rattle.cells_tests.proofs.beside.publish_some.Given as goal

abbrev pub invariant-loop-n : goal.invariant-loop-n
invariant-loop-n l = (l.publisher.cells ≡ l.initial.publisher.cells) × (last_state l.publisher.history ≡ pos (l.n + 1) ∷ pos (l.n + 1) ∷ []) × (length l.publisher.history ≡ l.n + 1)
