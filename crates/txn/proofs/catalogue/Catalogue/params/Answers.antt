use Rattle.std.proofs.Common.{◌≡◌, ◌∙◌, ap, sym, subst, length, true, arith, string_bytes}
use Rattle.std.proofs.lemmas.List.{length-map}
use Rattle.std.proofs.lemmas.Grind.{common_steps}
use Rattle.txn_programs.specs.Listing.{Listing, transaction_at}
use Rattle.txn_programs.specs.Limits.{limits_hold}
use Rattle.txn.proofs.Arities.{arity_most, most_few}
use Rattle.txn.proofs.catalogue.Catalogue.params.Goals as goal

pub returns-clause-value : goal.returns-clause-value
returns-clause-value c = grind (arith, common_steps)

pub returns-clause-few : goal.returns-clause-few
returns-clause-few c =
    let l = c.args.self.now in
    let limits : limits_hold l ≡ true = subst (λ (l : Listing). limits_hold l ≡ true) c.self.view_is c.self.invariant.limits in
    let same : length c.as_slice.result.now ≡ length (transaction_at l c.args.id).parameters = sym (length-map c.as_slice.result.now string_bytes) ∙ ap length (returns-clause-value c) in
    omega (arith, same, arity_most l c.args.id c.requires, most_few l limits)
