use Rattle.std.proofs.Common.{rules, ◌≡◌, ◌≤◌, ◌+◌, ◌++◌, ◌∷◌, [], List, ℕ, length, take, subst, sym, ap, ◌∙◌, arith}
use Rattle.std.specs.Prelude.{IsOk}
use mir.Syntax.{w64}
use mir.Val.{to_z, of_z}
use Rattle.attempt_writes.specs.FarPlaces.{far_place}
use Rattle.attempt_writes.specs.Known.{Known}
use Rattle.attempt_writes.specs.Order.{AllKnown, Apart}
use Rattle.attempt_writes.specs.LogTableInside.{pairs_of}
use Rattle.attempt_writes.specs.Places.{ArePlaced, far_of}
use Rattle.attempt_writes.proofs.Pairs.{AllKnown-append, Apart-append}
use Rattle.attempt_writes.proofs.Placed.{placed_far, no_far, far_of_more, far_few}
use Rattle.attempt_writes.proofs.Logged.{cut_back}
use Rattle.attempt_writes.proofs.LogKept.{count_is, none_in, fewer_in}
use Rattle.attempt_writes.proofs.log_table.LogTable.push_far.Goals as goal

pub append-requires-clause-few : goal.append-requires-clause-few
append-requires-clause-few c = fewer_in c.self.inside c.args.self.now c.args.x (to_z w64 (of_z w64 c.args.v)) c.self.invariant c.self.view_is c.requires.new (omega (arith, c.requires.known))

pub push-requires-clause-place : goal.push-requires-clause-place
push-requires-clause-place c = fewer_in c.self.inside c.args.self.now c.args.x (to_z w64 (of_z w64 c.args.v)) c.self.invariant c.self.view_is c.requires.new (omega (arith, c.requires.known))

pub overflow_add-self : goal.overflow_add-self
overflow_add-self c = omega (arith, fewer_in c.self.inside c.args.self.now c.args.x (to_z w64 (of_z w64 c.args.v)) c.self.invariant c.self.view_is c.requires.new (omega (arith, c.requires.known)))

pub push-requires-clause-new : goal.push-requires-clause-new
push-requires-clause-new c =
    let b = c.self.inside in
    let none = none_in b c.args.self.now c.args.x c.self.view_is c.requires.new in
    ap (λ (ps : List (ℕ × ℕ)). far_place ps c.args.x.0) c.self.invariant.far ∙ no_far 0 (pairs_of b) c.args.x none

pub invariant_of-self-in_err-push : goal.invariant_of-self-in_err-push
invariant_of-self-in_err-push c =
    let b = c.self.inside in
    let w = pairs_of b in
    let k = c.self.invariant in
    let within : b.count ≤ length b.lines.items = omega (arith, k.within, k.room) in
    let back : take b.count c.append.new.lines.items ≡ w = cut_back b.lines.items c.append.new.lines.items b.count (c.args.x, to_z w64 (of_z w64 c.args.v)) within c.in_ok-append.ensures.ok in
    let same = sym back in
    let far : c.push.new.self ≡ b.far = c.in_err-push.ensures.refused in
    record {
      known = subst (AllKnown 1048832) same k.known;
      apart = subst Apart same k.apart;
      placed = subst (λ (l : Known). ArePlaced 0 l b.places) same k.placed;
      far = far ∙ k.far ∙ ap (far_of 0) same;
      narrow = λ e. far ∙ k.narrow e;
      wide = k.wide;
      within = omega (arith, c.in_ok-append.ensures.within);
      room = c.append.ensures.room;
      short = omega (arith, k.short, c.append.ensures.more);
    }

pub returns-in_err-push-clause-refused : goal.returns-in_err-push-clause-refused
returns-in_err-push-clause-refused c =
    let b = c.self.inside in
    let k = c.self.invariant in
    let within : b.count ≤ length b.lines.items = omega (arith, k.within, k.room) in
    let back : take b.count c.append.new.lines.items ≡ c.args.self.now =
    cut_back b.lines.items c.append.new.lines.items b.count (c.args.x, to_z w64 (of_z w64 c.args.v)) within c.in_ok-append.ensures.ok ∙ c.self.view_is in
    search rules

pub returns-in_err-push-clause-in_place : goal.returns-in_err-push-clause-in_place
returns-in_err-push-clause-in_place c = λ few.
    let b = c.self.inside in
    let k = c.self.invariant in
    let size : length (pairs_of b) ≡ length c.args.self.now = ap length c.self.view_is in
    let far : length b.far ≡ length (far_of 0 (pairs_of b)) = ap length k.far in
    let ok : IsOk c.push.result = c.push.ensures.in_place (omega (arith, few, size, far, far_few 0 (pairs_of b))) in
    absurd (cc (subst IsOk c.in_err-push.was ok))

pub invariant_of-self-2 : goal.invariant_of-self-2
invariant_of-self-2 c =
    let b = c.self.inside in
    let w = pairs_of b in
    let x = c.args.x in
    let v = to_z w64 (of_z w64 c.args.v) in
    let k = c.self.invariant in
    let none = none_in b c.args.self.now x c.self.view_is c.requires.new in
    let at : b.count ≡ 0 + length w = omega (arith, count_is b k) in
    let now = sym c.in_ok-append.ensures.ok in
    let high : 256 ≤ x.0 = omega (arith, c.requires.far) in
    record {
      known = subst (AllKnown 1048832) now (AllKnown-append 1048832 w x v (omega (arith, c.requires.known)) k.known);
      apart = subst Apart now (Apart-append w x v none k.apart);
      placed = subst (λ (l : Known). ArePlaced 0 l b.places) now (placed_far 0 w b.places x v high k.placed);
      far = c.in_ok-push.ensures.ok ∙ ap (λ (ps : List (ℕ × ℕ)). ps ++ (x.0, b.count) ∷ []) k.far ∙ sym (far_of_more 0 w x v b.count at high) ∙ ap (far_of 0) now;
      narrow = λ e. absurd (cc);
      wide = k.wide;
      within = omega (arith, c.in_ok-append.ensures.within);
      room = c.append.ensures.room;
      short = omega (arith, k.short, c.append.ensures.more);
    }
