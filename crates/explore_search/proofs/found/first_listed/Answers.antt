use Rattle.std.proofs.Common.{length, ap, arith}
use Rattle.txn_programs.specs.Listing.{calls}
use Rattle.explore_search.specs.Shelf.{Shelf}
use Rattle.explore_law.proofs.Instances.{length-counted}
use Rattle.explore_search.proofs.found.first_listed.Goals as goal

pub insert-requires-clause-counts : goal.insert-requires-clause-counts
insert-requires-clause-counts c =
    let l = c.args.catalogue.now in
    omega (arith, ap length c.as_slice.ensures.value, ap length c.in_ok-left.ensures, length-counted l (calls l), ap (λ (s : Shelf). s.counts) c.in_ok-configs.ensures, c.len.ensures, ap length c.requires.instances.calls)
