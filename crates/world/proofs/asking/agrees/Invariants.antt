use Rattle.std.proofs.Common.{◌≡◌, ◌<◌, ℕ, ℤ, Some, slice_get}
use Rattle.txn_programs.specs.declared.ast.VarId.{VarId}
use Rattle.txn_programs.specs.Meaning.{value_at}
use Rattle.world.proofs.asking.agrees.Given as goal

abbrev pub invariant-loop-pair : goal.invariant-loop-pair
invariant-loop-pair l = (i : ℕ) (p : VarId × ℤ) → i < l.pair-index → slice_get l.log i ≡ Some p → value_at l.state p.0 ≡ p.1
