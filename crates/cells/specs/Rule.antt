-- The rule of the shared words: it holds between any two loads and stores of any threads.
use Rattle.std.specs.Prelude.{◌≡◌, ℕ, IfSome}
use mathlib.Core.Option.{some}
use lib.ListN.{get_elem?}
use Rattle.atomic_table.specs.Table.{State}
use Rattle.txn_words.specs.Words.{Commit, WordsMean}
use Rattle.txn_words.specs.Loads.{ReaderHolds}
use Rattle.cells.specs.Sight.{Sight}

-- One seat, `writer`, is the publisher's, and the words mean what it stored. Each reader's record holds of the words
-- and the history. No clause links two readers.
pub record WordsHold (s : State Unit Sight) : Type 0 where
  pub commit : Commit
  pub writer : ℕ
  pub words : WordsMean s.words commit
  pub publisher : (seat : ℕ) (d : Sight) → get_elem? s.views seat ≡ some d
      → IfSome d.publisher (λ c. (c ≡ commit) × (seat ≡ writer))
  pub reader : (seat : ℕ) (d : Sight) → get_elem? s.views seat ≡ some d
      → IfSome d.reader (ReaderHolds s.words commit.history)
