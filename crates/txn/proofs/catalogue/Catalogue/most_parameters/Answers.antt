use Rattle.std.proofs.Common.{◌≡◌, ◌≤◌, ◌∙◌, ap, ℕ, arith, length, true, subst, sym}
use Rattle.txn_programs.specs.Listing.{Listing}
use Rattle.txn_programs.specs.Limits.{limits_hold}
use Rattle.txn.specs.Arities.{most_arity}
use Rattle.txn.proofs.Arities.{arguments_most, most_few}
use Rattle.txn.proofs.catalogue.Catalogue.most_parameters.Goals as goal

pub returns-clause-calls : goal.returns-clause-calls
returns-clause-calls c tx given h =
    let most = c.self.invariant.most ∙ ap (λ (l : Listing). most_arity l.transactions) c.self.view_is in
    subst (λ (n : ℕ). length given ≤ n) (sym most) (arguments_most c.args.self.now tx given h)

pub returns-clause-few : goal.returns-clause-few
returns-clause-few c =
    let most = c.self.invariant.most ∙ ap (λ (l : Listing). most_arity l.transactions) c.self.view_is in
    let limits : limits_hold c.args.self.now ≡ true = subst (λ (l : Listing). limits_hold l ≡ true) c.self.view_is c.self.invariant.limits in
    omega (arith, most, most_few c.args.self.now limits)
