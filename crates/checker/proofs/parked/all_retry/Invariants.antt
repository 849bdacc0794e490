use Rattle.std.proofs.Common.{◌≡◌, take}
use Rattle.std.specs.List.{All}
use Rattle.txn_programs.specs.declared.ast.Outcome.TheVariants.{Retries}
use Rattle.txn_programs.specs.Listing.{program_as}
use Rattle.txn_programs.specs.Meaning.{outcome}
use Rattle.checker.proofs.parked.all_retry.Given as goal

abbrev pub invariant-parked : goal.invariant-parked
invariant-parked l = record {
  so_far : All (λ p. outcome (program_as l.catalogue p.0 p.1) l.fn.values.items ≡ Retries) (take l.task-index l.parked);
  kept : l.values.items ≡ l.fn.values.items;
}
