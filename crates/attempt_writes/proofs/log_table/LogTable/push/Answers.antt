use Rattle.std.proofs.Common.{◌≡◌, ◌<◌, ◌+◌, length, slice_set, subst, sym, ap, ◌∙◌, arith}
use Rattle.std.proofs.Math.ListN.{length-set}
use mir.Syntax.{w64}
use mir.Val.{to_z, of_z}
use Rattle.attempt_writes.specs.Known.{Known}
use Rattle.attempt_writes.specs.Order.{AllKnown, Apart}
use Rattle.attempt_writes.specs.LogTableInside.{pairs_of}
use Rattle.attempt_writes.specs.Places.{ArePlaced, far_of}
use Rattle.attempt_writes.proofs.Pairs.{AllKnown-append, Apart-append}
use Rattle.attempt_writes.proofs.Placed.{placed_more, far_of_near}
use Rattle.attempt_writes.proofs.LogKept.{count_is, none_in, fewer_in}
use Rattle.attempt_writes.proofs.log_table.LogTable.push.Goals as goal

pub append-requires-clause-few : goal.append-requires-clause-few
append-requires-clause-few c = fewer_in c.self.inside c.args.self.now c.args.x (to_z w64 (of_z w64 c.args.v)) c.self.invariant c.self.view_is c.requires.new (omega (arith, c.requires.known))

pub overflow_add-self : goal.overflow_add-self
overflow_add-self c = omega (arith, fewer_in c.self.inside c.args.self.now c.args.x (to_z w64 (of_z w64 c.args.v)) c.self.invariant c.self.view_is c.requires.new (omega (arith, c.requires.known)))

pub overflow_cast-self : goal.overflow_cast-self
overflow_cast-self c = omega (arith, fewer_in c.self.inside c.args.self.now c.args.x (to_z w64 (of_z w64 c.args.v)) c.self.invariant c.self.view_is c.requires.new (omega (arith, c.requires.known)))

pub invariant_of-self-2 : goal.invariant_of-self-2
invariant_of-self-2 c =
    let b = c.self.inside in
    let w = pairs_of b in
    let x = c.args.x in
    let v = to_z w64 (of_z w64 c.args.v) in
    let k = c.self.invariant in
    let none = none_in b c.args.self.now x c.self.view_is c.requires.new in
    let at : b.count ≡ 0 + length w = omega (arith, count_is b k) in
    let now = sym c.in_ok-append.ensures.ok in
    let low : x.0 < 256 = omega (arith, c.if-x-ge-MAX_VARIABLES.false) in
    let lt : x.0 < length b.places = omega (arith, low, k.wide) in
    record {
      known = subst (AllKnown 1048832) now (AllKnown-append 1048832 w x v (omega (arith, low)) k.known);
      apart = subst Apart now (Apart-append w x v none k.apart);
      placed = subst (λ (l : Known). ArePlaced 0 l (slice_set b.places x.0 b.count)) now (placed_more 0 w b.places x v b.count at lt none k.placed);
      far = k.far ∙ sym (far_of_near 0 w x v low) ∙ ap (far_of 0) now;
      narrow = k.narrow;
      wide = length-set b.places x.0 b.count ∙ k.wide;
      within = omega (arith, c.in_ok-append.ensures.within);
      room = c.append.ensures.room;
      short = omega (arith, k.short, c.append.ensures.more);
    }
