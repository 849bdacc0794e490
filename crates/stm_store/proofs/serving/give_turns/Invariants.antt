use Rattle.std.proofs.Common.{◌-◌, ◌≡◌, ◌≤◌}
use Rattle.stm_store.specs.Shapes.{IsSameShape}
use Rattle.stm_store.specs.Turning.{TurnsGiven}
use Rattle.stm_store.proofs.serving.give_turns.Given as goal

abbrev pub invariant-loop-given : goal.invariant-loop-given
invariant-loop-given l = record {
  turns : TurnsGiven l.every l.initial.book l.given l.book;
  listing : l.book.catalogue ≡ l.initial.book.catalogue;
  bound : l.given ≤ l.most;
  shape : IsSameShape l.initial.book l.book;
}

abbrev pub decreases-loop-given : goal.decreases-loop-given
decreases-loop-given l = l.most - l.given
