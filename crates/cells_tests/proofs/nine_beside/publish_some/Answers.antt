use Rattle.std.proofs.Common.{ℤ, pos, ◌+ℤ◌, List, sym, subst, w64, to_z, of_z}
use Rattle.cells.specs.Publishing.{AreWrites}
use Rattle.cells_tests.proofs.Nine.{all_nine, are_nine}
use Rattle.cells_tests.proofs.nine_beside.publish_some.Goals as goal

pub publish-requires-clause-writes : goal.publish-requires-clause-writes
publish-requires-clause-writes c =
    let v = to_z w64 (of_z w64 (to_z w64 (of_z w64 c.from-v.result) +ℤ pos 1)) in
    subst (λ (m : List ℤ). AreWrites m (all_nine v)) (sym c.loop-n.invariant.1) (are_nine (pos c.loop-n.n) v)
