use Rattle.std.proofs.Common.{refl}
use Rattle.txn_programs.specs.Listing.{calls}
use Rattle.checker.proofs.Firsts.{firsts}
use Rattle.checker.proofs.chapter.are_first.Goals as goal

pub returns : goal.returns
returns c = (λ yes. firsts c.args.earlier.now (calls c.args.next.now) c.args.parked.now c.parked.i c.parked-test.false c.parked.invariant, λ same. refl)
