use Rattle.std.proofs.lemmas.Slice.Eq.{slice_eq-Decides}
use Rattle.txn_declarations.proofs.Equal.{decides_run}
use Rattle.txn_declarations.proofs.same.same_runs.Goals as goal

pub returns : goal.returns
returns c = slice_eq-Decides decides_run _ _ _ c.eq.ensures
