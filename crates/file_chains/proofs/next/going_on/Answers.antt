use Rattle.std.proofs.Common.{◌≡◌, ◌∙◌, IfOk, map, ap, subst, sym}
use Rattle.txn_programs.specs.Meaning.{State}
use Rattle.txn_programs.specs.Listing.{Listing}
use Rattle.txn_programs.specs.Standing.{Upholds}
use Rattle.txn_programs.specs.Told.{told, now_of}
use Rattle.txn.specs.Values.{with_values}
use Rattle.file_chains.proofs.next.going_on.Goals as goal
use Rattle.file_chains.proofs.next.going_on.Goals.{After-deref-2}

values : (c : After-deref-2) → c.deref-2.result.now ≡ (now_of (told c.args.report.now)).state
values c = c.deref-2.ensures.value ∙ (c.in_ok-values.ensures ∙ ap (map (λ v. v.0)) c.deref.ensures.value)

pub with_upheld_values-requires-clause-upheld : goal.with_upheld_values-requires-clause-upheld
with_upheld_values-requires-clause-upheld c =
    let l = c.args.catalogue.now in
    subst (λ (m : State). Upholds l m) (sym (values c)) (c.lawful_reports_uphold.ensures l (told c.args.report.now) c.requires).1

pub returns : goal.returns
returns c =
    let l = c.args.catalogue.now in
    let state_is : c.deref-2.result.now ≡ (now_of (told c.args.report.now)).state =
    c.deref-2.ensures.value ∙ (c.in_ok-values.ensures ∙ ap (map (λ v. v.0)) c.deref.ensures.value) in
    subst (λ (m : Listing). IfOk c.with_upheld_values.result (λ d. d ≡ m)) (ap (with_values l) state_is) c.with_upheld_values.ensures
