use Rattle.std.proofs.Common.{◌∙◌, ◌++◌, ap}
use Rattle.attempt_writes.specs.FarWrites.{far_now}
use Rattle.attempt_writes.specs.Known.{Known}
use Rattle.attempt_writes.proofs.OwnFar.{nothing_far}
use Rattle.attempt_writes.proofs.OwnTable.{listed_nothing}
use Rattle.attempt_writes.proofs.written.Writes.clear.Goals as goal

pub returns-clause-writes : goal.returns-clause-writes
returns-clause-writes c =
    ap (λ (l : Known). l ++ far_now c.forget_far.new.far) (listed_nothing c.forget.new.table c.forget.ensures.nothing)
    ∙ nothing_far c.forget_far.new.far c.forget_far.ensures.numbers
