use Rattle.std.proofs.Common.{◌≡◌, ◌↔◌, length, drop, replicate, false}
use Rattle.checker.proofs.Lists.{Fresh, numbers}
use Rattle.checker.proofs.tasks.stand_once.Given as goal

abbrev pub invariant-lines : goal.invariant-lines
invariant-lines l =
    record {
      left : Fresh l.seen.items (numbers (drop l.task-index l.lines)) ↔ Fresh (replicate l.count false) (numbers l.lines);
      sized : length l.seen.items ≡ l.count;
    }
