use Rattle.std.proofs.Common.{◌≤◌, ◌<◌, ◌∙◌, ap, sym, arith}
use Rattle.attempt_writes.specs.FarWrites.{far_now}
use Rattle.attempt_writes.specs.Known.{known_at}
use Rattle.attempt_writes.specs.Own.{Own, listed}
use Rattle.attempt_writes.proofs.OwnFar.{far_none, known_back, known_front, near_none}
use Rattle.attempt_writes.proofs.OwnTable.{known_listed, empty_known}
use Rattle.attempt_writes.proofs.written.Writes.find.Goals as goal

pub returns-then-x-ge-MAX_VARIABLES : goal.returns-then-x-ge-MAX_VARIABLES
returns-then-x-ge-MAX_VARIABLES c =
    let i = c.self.inside in
    let high : 256 ≤ c.args.x.0 = omega (arith, c.if-x-ge-MAX_VARIABLES.true) in
    c.find.ensures ∙ sym (known_back (listed 0 i.table) (far_now i.far) c.args.x (near_none i.table c.args.x c.self.invariant.wide high))
    ∙ ap (λ (o : Own). known_at o.writes c.args.x) c.self.view_is

pub returns-then-is_empty : goal.returns-then-is_empty
returns-then-is_empty c =
    let i = c.self.inside in
    let low : c.args.x.0 < 256 = omega (arith, c.if-x-ge-MAX_VARIABLES.false) in
    empty_known i.pairs.items i.table c.args.x (sym c.is_empty.ensures ∙ c.if-is_empty.true) c.self.invariant.listed
    ∙ sym (known_front (listed 0 i.table) (far_now i.far) c.args.x (far_none i.far.numbers i.far.table c.args.x c.self.invariant.far low))
    ∙ ap (λ (o : Own). known_at o.writes c.args.x) c.self.view_is

pub returns : goal.returns
returns c =
    let i = c.self.inside in
    let low : c.args.x.0 < 256 = omega (arith, c.if-x-ge-MAX_VARIABLES.false) in
    c.look.ensures ∙ sym (known_listed i.table c.args.x)
    ∙ sym (known_front (listed 0 i.table) (far_now i.far) c.args.x (far_none i.far.numbers i.far.table c.args.x c.self.invariant.far low))
    ∙ ap (λ (o : Own). known_at o.writes c.args.x) c.self.view_is
