use Rattle.std.proofs.Common.{◌≡◌, ◌∙◌, get_or, subst, refl}
use Rattle.std.specs.List.{All}
use Rattle.std.proofs.lemmas.List.{take_all}
use Rattle.txn_programs.specs.declared.ast.TaskId.{TaskId}
use Rattle.txn_programs.specs.declared.ast.TxId.{TxId}
use Rattle.txn_programs.specs.declared.ast.Outcome.TheVariants.{Retries}
use Rattle.txn_programs.specs.Listing.{program_as}
use Rattle.txn_programs.specs.Meaning.{State, outcome}
use Rattle.checker.proofs.OneMore.{one_more}
use Rattle.checker.proofs.parked.all_retry.Goals as goal

pub parked-preserved : goal.parked-preserved
parked-preserved c =
    let l = c.args.catalogue.now in
    let P : TaskId × TxId → Type 0 = λ p. outcome (program_as l p.0 p.1) c.args.values.now.items ≡ Retries in
    let d : TaskId × TxId = (record { 0 = 0 }, record { 0 = 0 }) in
    let p : TaskId × TxId = get_or c.args.parked.now c.parked.task-index d in
    let here : P p = subst (λ (m : State). outcome (program_as l p.0 p.1) m ≡ Retries) c.parked.invariant.kept (c.in_ok-retries.ensures.answer.0 c.if-not-branch.false) in
    record {
      so_far = one_more P c.args.parked.now c.parked.task-index d c.parked-test.true c.parked.invariant.so_far here;
      kept = c.retries.ensures.kept ∙ c.parked.invariant.kept;
    }

pub returns-clause-answer : goal.returns-clause-answer
returns-clause-answer c =
    let l = c.args.catalogue.now in
    let P : TaskId × TxId → Type 0 = λ p. outcome (program_as l p.0 p.1) c.args.values.now.items ≡ Retries in
    (λ yes. subst (All P) (take_all c.parked.task-index c.args.parked.now c.parked-test.false) c.parked.invariant.so_far, λ all. refl)
