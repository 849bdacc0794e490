use Rattle.std.proofs.Common.{◌≡◌, map, take, string_bytes}
use Rattle.txn_declarations.proofs.copy.variables_of.Given as goal

abbrev pub invariant-loop-i : goal.invariant-loop-i
invariant-loop-i l = (map (λ v. string_bytes v.0) l.copies.items ≡ map string_bytes (take l.i l.names)) × (map (λ v. v.1) l.copies.items ≡ take l.i l.values)
