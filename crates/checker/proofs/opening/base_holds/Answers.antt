use Rattle.std.proofs.Common.{rules, arith, ◌≤◌, ◌∙◌, ap, sym, subst, IsTrue}
use Rattle.std.specs.List.{All}
use Rattle.txn_programs.specs.Standing.{Upholds}
use Rattle.txn_programs.specs.Told.{told, snapshot_at, base_of}
use Rattle.checker.specs.Parts.{BaseHolds}
use Rattle.checker.proofs.Opens.{opens}
use Rattle.checker.proofs.opening.base_holds.Goals as goal

pub returns : goal.returns
returns c =
    let l = c.args.catalogue.now in
    let r = told c.args.report.now in
    let values = c.deref-2.ensures.value ∙ ap (λ s. s.state) c.requires.told in
    let recent : All (λ v. v.1 ≤ r.base) r.base_vars = subst (λ vs. All (λ v. v.1 ≤ r.base) vs) c.deref.ensures.value (search rules) in
    let upheld : Upholds l (base_of r).state = subst (λ s. Upholds l s.state) c.requires.told (c.conditions_hold.ensures.0 (search rules)) in
    let there : IsTrue c.same_values.result → BaseHolds l r = λ yes.
    let e = sym values ∙ (c.same_values.ensures.0 yes ∙ c.initial.ensures.value) in
    record {
      from_opening = λ zero. ap (λ n. snapshot_at n r.base_vars) zero ∙ opens l r.base_vars (subst (λ n. All (λ v. v.1 ≤ n) r.base_vars) zero recent) e;
      versions = recent;
      upheld = upheld;
    } in
    let back : BaseHolds l r → IsTrue c.same_values.result = λ h.
    c.same_values.ensures.1 (values ∙ (ap (λ s. s.state) (h.from_opening (omega arith)) ∙ sym c.initial.ensures.value)) in
    (there, back)
