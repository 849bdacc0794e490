use Rattle.std.proofs.Common.{◌≡◌, map, take}
use Rattle.txn_declarations.specs.Conditions.{standing_of}
use Rattle.txn_declarations.proofs.copy.always_of.Given as goal

abbrev pub invariant-loop-each : goal.invariant-loop-each
invariant-loop-each l = map standing_of l.copies.items ≡ map standing_of (take l.each-index l.always)
