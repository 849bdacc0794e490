use Rattle.std.proofs.Common.{◌≤◌, ◌<◌, ◌∙◌, Some, ap, sym, length, arith}
use Rattle.std.proofs.lemmas.Option.{same_Some, slice_get_within}
use Rattle.txn_programs.specs.Listing.{calls}
use Rattle.checker.proofs.Chaptered.{calls_count}
use Rattle.checker.proofs.chapter.is_task.Goals as goal

pub returns-then-number-tasks : goal.returns-then-number-tasks
returns-then-number-tasks c = (
  λ yes. c.task_call.ensures ∙ ap Some (c.same_call.ensures.0 yes),
  λ is. c.same_call.ensures.1 (same_Some _ _ (sym c.task_call.ensures ∙ is)),
)

pub returns-else-number-tasks : goal.returns-else-number-tasks
returns-else-number-tasks c =
    let l = c.args.catalogue.now in
    let count = calls_count l in
    let past : length (calls l) ≤ c.args.number = omega (arith, count, c.if-number-tasks.false, c.tasks.ensures.value) in (
      λ yes. absurd (let lt = c.if-number-tasks.false in let low : c.args.number < length (calls l) = grind (arith, yes, count, c.tasks.ensures.value) in omega (arith, low, past)),
      λ is. absurd (let lt = slice_get_within (calls l) c.args.number c.args.call is in omega (arith, lt, past)),
    )
