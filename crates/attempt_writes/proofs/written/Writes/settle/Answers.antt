use Rattle.std.proofs.Common.{◌∙◌, ◌++◌, Bool, ap, sym, append-nil, if◌then◌else◌}
use Rattle.attempt_writes.specs.Known.{Known}
use Rattle.attempt_writes.specs.Own.{Own, listed}
use Rattle.attempt_writes.proofs.OwnFar.{nothing_far}
use Rattle.attempt_writes.proofs.OwnTable.{unwritten}
use Rattle.attempt_writes.proofs.written.Writes.settle.Goals as goal

pub returns-then-not-self-clause-pairs : goal.returns-then-not-self-clause-pairs
returns-then-not-self-clause-pairs c =
    let i = c.self.inside in
    let near = listed 0 i.table in
    sym (ap (λ (o : Own). o.pairs) c.self.view_is)
    ∙ ap (λ (b : Bool). if b then i.far.pairs else i.pairs.items) c.if-not-self.true
    ∙ unwritten i.pairs.items i.table (sym c.if-is_empty.ensures) c.self.invariant.listed
    ∙ sym (append-nil near) ∙ ap (λ (l : Known). near ++ l) (sym (nothing_far i.far (c.self.invariant.narrow c.if-not-self.true)))
    ∙ ap (λ (o : Own). o.writes) c.self.view_is
