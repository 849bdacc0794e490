use Rattle.std.proofs.Common.{arith, string_bytes}
use Rattle.std.proofs.lemmas.List.{length-map}
use Rattle.txn_programs.proofs.Lawful.{limits_parts}
use Rattle.txn.specs.CatalogueInside.{listed}
use Rattle.txn.proofs.catalogue.Catalogue.var_count.Goals as goal

pub returns-clause-few : goal.returns-clause-few
returns-clause-few c =
    let few = (limits_parts (listed c.self.inside) c.self.invariant.limits).variables in
    omega (arith, few, c.len.ensures, length-map c.self.inside.names.items string_bytes)
