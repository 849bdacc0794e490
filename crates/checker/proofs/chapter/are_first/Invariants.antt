use Rattle.txn_programs.specs.Listing.{calls}
use Rattle.checker.proofs.Firsts.{SameBefore}
use Rattle.checker.proofs.chapter.are_first.Given as goal

abbrev pub invariant-parked : goal.invariant-parked
invariant-parked l = SameBefore l.earlier (calls l.next) l.parked l.i
