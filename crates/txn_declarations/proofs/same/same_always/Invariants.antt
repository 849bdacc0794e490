use Rattle.std.proofs.Common.{◌≡◌, ◌↔◌, drop, map}
use Rattle.txn_declarations.specs.Conditions.{standing_of}
use Rattle.txn_declarations.proofs.same.same_always.Given as goal

-- the lists are equal where what is left of them is
abbrev pub invariant-loop-standing : goal.invariant-loop-standing
invariant-loop-standing l = (map standing_of (drop l.standing-index l.always) ≡ map standing_of l.rest) ↔ (map standing_of l.always ≡ map standing_of l.others)
