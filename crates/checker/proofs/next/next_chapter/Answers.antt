use Rattle.std.proofs.Common.{◌≡◌, ◌∙◌, List, IfOk, ap, sym, subst, arith, length, map}
use Rattle.std.specs.List.{All}
use Rattle.std.proofs.lemmas.List.{length-map}
use Rattle.txn_programs.specs.declared.arguments.Call.{Call}
use Rattle.txn_programs.specs.Meaning.{State}
use Rattle.txn_programs.specs.Listing.{Listing}
use Rattle.txn_programs.specs.Standing.{Upholds}
use Rattle.txn_programs.specs.Told.{told, now_of}
use Rattle.txn_programs.proofs.Lawful.{few_tasks}
use Rattle.txn.specs.Values.{begun}
use Rattle.checker.specs.Chapters.{line_call, next_chapter, waiting}
use Rattle.checker.proofs.Chaptered.{Callable, own_callable}
use Rattle.checker.proofs.next.next_chapter.Goals as goal
use Rattle.checker.proofs.next.next_chapter.Goals.{After-deref-4}

values : (c : After-deref-4) → c.deref-3.result.now ≡ (now_of (told c.args.report.now)).state
values c = c.deref-3.ensures.value ∙ (c.in_ok-values.ensures ∙ ap (map (λ v. v.0)) c.deref.ensures.value)

parked : (c : After-deref-4) → c.deref-4.result.now ≡ waiting c.args.catalogue.now (told c.args.report.now)
parked c = c.deref-4.ensures.value ∙ (c.in_ok-waiting.ensures ∙ ap (map (line_call c.args.catalogue.now)) c.deref-2.ensures.value)

pub begun-requires-clause-upheld : goal.begun-requires-clause-upheld
begun-requires-clause-upheld c =
    subst (λ (m : State). Upholds c.args.catalogue.now m) (sym (values c)) (c.lawful_reports_uphold.ensures c.args.catalogue.now (told c.args.report.now) c.requires).1

pub begun-requires-clause-known : goal.begun-requires-clause-known
begun-requires-clause-known c =
    let l = c.args.catalogue.now in
    let r = told c.args.report.now in
    subst (λ (cs : List Call). All (Callable l) cs) (sym (parked c)) (own_callable l r.parked c.rules.ensures.names c.requires.parked_own)

pub begun-requires-clause-few : goal.begun-requires-clause-few
begun-requires-clause-few c =
    let r = told c.args.report.now in
    omega (arith, ap length (parked c), length-map r.parked (line_call c.args.catalogue.now), c.requires.accounted, few_tasks c.args.catalogue.now c.rules.ensures.limits)

pub returns : goal.returns
returns c =
    let l = c.args.catalogue.now in
    let r = told c.args.report.now in
    let values_are : c.deref-3.result.now ≡ (now_of r).state = c.deref-3.ensures.value ∙ (c.in_ok-values.ensures ∙ ap (map (λ v. v.0)) c.deref.ensures.value) in
    let parked_are : c.deref-4.result.now ≡ waiting l r = c.deref-4.ensures.value ∙ (c.in_ok-waiting.ensures ∙ ap (map (line_call c.args.catalogue.now)) c.deref-2.ensures.value) in
    let is : begun l c.deref-3.result.now c.deref-4.result.now ≡ next_chapter l r =
    ap (λ (m : State). begun l m c.deref-4.result.now) values_are ∙ ap (begun l (now_of r).state) parked_are in
    subst (λ (m : Listing). IfOk c.begun.result (λ d. d ≡ m)) is c.begun.ensures
