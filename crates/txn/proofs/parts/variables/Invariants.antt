use Rattle.std.proofs.Common.{◌≡◌, ◌++◌, drop, map, string_bytes}
use Rattle.txn.proofs.parts.variables.Given as goal

abbrev pub invariant-vars : goal.invariant-vars
invariant-vars l = record {
  names : map (λ v. string_bytes v.0) l.made.items ++ drop l.i l.catalogue.names ≡ l.catalogue.names;
  values : map (λ v. v.1) l.made.items ++ drop l.i l.values ≡ l.values;
}
