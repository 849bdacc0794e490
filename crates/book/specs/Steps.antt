-- The steps of a catalogue's transactions and of its standing conditions.
use Rattle.std.specs.Prelude.{◌≡◌, length, Some, slice_get}
use Rattle.txn_programs.specs.declared.ast.TxId.{TxId}
use Rattle.txn_programs.specs.Listing.{Listing, conditions, transaction_at}
use Rattle.txn_registers.specs.declared.registers.Compiled.{Compiled}
use Rattle.txn_registers.specs.Compiled.{IsOf, AreTests}
use Rattle.book.specs.declared.steps.Steps.{Steps}

-- each transaction has its own, and the standing conditions have theirs
pub record AreStepsOf (s : Steps) (l : Listing) : Type 0 where
  pub all : length s.transactions.items ≡ length l.transactions
  pub each : (tx : TxId) (c : Compiled) → slice_get s.transactions.items tx.0 ≡ Some c → IsOf c (transaction_at l tx)
  pub always : AreTests s.conditions (conditions l)
