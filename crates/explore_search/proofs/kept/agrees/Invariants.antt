use Rattle.std.proofs.Common.{◌≡◌, ◌<◌, ℕ, ℤ, Some}
use Rattle.std.specs.Prelude.{slice_get}
use Rattle.txn_programs.specs.declared.ast.VarId.{VarId}
use Rattle.txn_programs.specs.Meaning.{value_at}
use Rattle.explore_search.proofs.kept.agrees.Given as goal

abbrev pub invariant-reads : goal.invariant-reads
invariant-reads l = (i : ℕ) (p : VarId × ℤ) → i < l.pair-index → slice_get l.reads i ≡ Some p → value_at l.values p.0 ≡ p.1
