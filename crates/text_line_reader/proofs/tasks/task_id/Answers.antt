use Rattle.std.proofs.Common.{arith}
use Rattle.text_line_reader.proofs.Numbers.{below_gives}
use Rattle.text_line_reader.proofs.tasks.task_id.Goals as goal

pub overflow_cast-result : goal.overflow_cast-result
overflow_cast-result c =
    let lt = (below_gives _ _ c.in_ok-place.place c.in_ok-place.ensures.value).1 in
    omega (arith, lt, c.tasks.ensures.few)
