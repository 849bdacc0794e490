use Rattle.std.proofs.Common.{arith, refl, ◌≡◌, ◌∙◌, ◌↔◌, ◌+◌, ◌<◌, IsTrue, length, ap, sym, subst, List}
use Rattle.std.specs.List.{All}
use Rattle.std.proofs.lemmas.Result.{IfOk-weaker}
use Rattle.txn_programs.specs.declared.ast.TaskId.{TaskId}
use Rattle.txn_programs.specs.declared.ast.TxId.{TxId}
use Rattle.txn_programs.specs.Listing.{tasks}
use Rattle.txn_programs.specs.Replay.{Once}
use Rattle.txn_programs.specs.Told.{told}
use Rattle.txn_programs.specs.LawfulReport.{Ascends, HasOwn}
use Rattle.checker.specs.Parts.{named, TasksHold}
use Rattle.checker.proofs.Lists.{numbers}
use Rattle.checker.proofs.Named.{known_tasks, only_once_left}
use Rattle.checker.proofs.tasks.tasks_hold.Goals as goal

pub are_own-requires : goal.are_own-requires
are_own-requires c =
    let l = c.args.catalogue.now in
    subst (λ (ps : List (TaskId × TxId)). All (λ p. p.0.0 < length (tasks l)) ps) (sym (c.deref.ensures.value ∙ c.in_ok-lines.ensures)) (known_tasks l (told c.args.report.now) c.requires)

pub stand_once-requires : goal.stand_once-requires
stand_once-requires c =
    let l = c.args.catalogue.now in
    subst (λ n. All (λ p. p.0.0 < n) c.deref-4.result.now) (sym c.tasks-2.ensures.value)
    (subst (λ (ps : List (TaskId × TxId)). All (λ p. p.0.0 < length (tasks l)) ps) (sym (c.deref-4.ensures.value ∙ c.in_ok-lines.ensures)) (known_tasks l (told c.args.report.now) c.requires))

pub returns : goal.returns
returns c =
    let l = c.args.catalogue.now in
    let r = told c.args.report.now in
    let lines = c.deref.ensures.value ∙ c.in_ok-lines.ensures in
    let again = c.deref-4.ensures.value ∙ c.in_ok-lines.ensures in
    let own : All (λ p. HasOwn l p.0 p.1) (named r) = subst (λ ps. All (λ p. HasOwn l p.0 p.1) ps) lines (c.if-not-are_own.ensures.0 refl) in
    let parked : Ascends (numbers r.parked) = subst (λ ps. Ascends (numbers ps)) c.deref-2.ensures.value (c.if-not-ascend.ensures.0 refl) in
    let memory : Ascends (numbers r.memory) = subst (λ ps. Ascends (numbers ps)) c.deref-3.ensures.value (c.if-not-ascend-2.ensures.0 refl) in
    let sum : r.base + length (named r) ≡ length (tasks l) = omega (arith, c.if-not-are_accounted.ensures.0 refl, c.len.ensures, c.in_ok-lines.lines.ok.0, c.tasks.ensures.value, ap length c.in_ok-lines.ensures) in
    IfOk-weaker c.stand_once.result (λ b. IsTrue b ↔ Once (numbers c.deref-4.result.now)) (λ b. IsTrue b ↔ TasksHold l r)
    (λ b h. only_once_left l r b own parked memory sum (subst (λ ps. IsTrue b ↔ Once (numbers ps)) again h)) c.stand_once.ensures
