use Rattle.std.proofs.Common.{◌≡◌, ℕ, Option, Some, None, slice_get, sym, ap, ◌∙◌, arith}
use Rattle.std.proofs.lemmas.Option.{slice_get_read, slice_get_within}
use Rattle.txn_programs.specs.declared.ast.TaskId.{TaskId}
use Rattle.world.specs.declared.trial.Trial.{Trial}
use Rattle.world.proofs.Seeing.{read_is}
use Rattle.world.proofs.Finding.{only_latest, none_latest, beyond, dead_latest}
use Rattle.world.proofs.scene.running.Goals as goal

pub returns-then-task-len : goal.returns-then-task-len
returns-then-task-len c i y r =
    beyond c.args.scene.now c.requires c.args.task (omega (arith, c.args.scene.now.latest.ok.0, c.len.ensures, c.if-task-len.true)) i y r

pub index-requires-in-Some : goal.index-requires-in-Some
index-requires-in-Some c =
    let s = c.args.scene.now in
    let at : slice_get s.latest.items c.args.task.0 ≡ Some (Some c.in-Some.place) = slice_get_read s.latest.items s.latest.len c.args.task.0 c.index.result.now s.latest.ok.0 (omega (arith, c.len.ensures, c.if-task-len.false)) c.index.ensures ∙ ap (λ (o : Option ℕ). Some o) c.in-Some.is in
    let o = c.requires.latest c.args.task.0 c.in-Some.place at in
    omega (arith, s.trials.ok.0, slice_get_within s.trials.items c.in-Some.place o.0 o.1)

pub returns-in-Running : goal.returns-in-Running
returns-in-Running c =
    let s = c.args.scene.now in
    let at : slice_get s.latest.items c.args.task.0 ≡ Some (Some c.in-Some.place) = slice_get_read s.latest.items s.latest.len c.args.task.0 c.index.result.now s.latest.ok.0 (omega (arith, c.len.ensures, c.if-task-len.false)) c.index.ensures ∙ ap (λ (o : Option ℕ). Some o) c.in-Some.is in
    let o = c.requires.latest c.args.task.0 c.in-Some.place at in
    let same : c.index-in-Some.result.now ≡ o.0 = read_is s.trials.items c.in-Some.place o.0 c.index-in-Some.result.now o.1 c.index-in-Some.ensures in
    (o.0, (o.1, ap (λ (n : ℕ). let t : TaskId = record { 0 = n } in t) o.2, ap (λ (t : Trial). t.fate) (sym same) ∙ c.in-Running.is), only_latest s c.requires c.args.task c.in-Some.place at)

pub returns-in_default : goal.returns-in_default
returns-in_default c i y r =
    let s = c.args.scene.now in
    let at : slice_get s.latest.items c.args.task.0 ≡ Some (Some c.in-Some.place) = slice_get_read s.latest.items s.latest.len c.args.task.0 c.index.result.now s.latest.ok.0 (omega (arith, c.len.ensures, c.if-task-len.false)) c.index.ensures ∙ ap (λ (o : Option ℕ). Some o) c.in-Some.is in
    let o = c.requires.latest c.args.task.0 c.in-Some.place at in
    let same : c.index-in-Some.result.now ≡ o.0 = read_is s.trials.items c.in-Some.place o.0 c.index-in-Some.result.now o.1 c.index-in-Some.ensures in
    dead_latest s c.requires c.args.task c.in-Some.place o.0 at o.1 (λ e. c.in_default.not-Running (ap (λ (t : Trial). t.fate) same ∙ e)) i y r

pub returns-in-None : goal.returns-in-None
returns-in-None c i y r =
    let s = c.args.scene.now in
    let at : slice_get s.latest.items c.args.task.0 ≡ Some None = slice_get_read s.latest.items s.latest.len c.args.task.0 c.index.result.now s.latest.ok.0 (omega (arith, c.len.ensures, c.if-task-len.false)) c.index.ensures ∙ ap (λ (o : Option ℕ). Some o) c.in-None.is in
    none_latest s c.requires c.args.task at i y r
