use Rattle.std.proofs.Common.{◌≡◌, ◌∷◌, ap, ℕ, ℤ, List, Option, take, length, reverse, subst, sym, ◌∙◌}
use Rattle.attempt_writes.specs.declared.written.Branch.{Branch}
use Rattle.attempt_writes.specs.Own.{Own, AreInside, AreNested, AreOnce, LeavesInner, marks_of, with_far}
use Rattle.attempt_writes.proofs.OwnHints.{once_popped}
use Rattle.attempt_writes.proofs.OwnFar.{far_nested_more, far_popped, leaves_far}
use Rattle.attempt_writes.proofs.OwnNotes.{last_first, leaves_inner, noted_inside, outer_floors, popped_floors}
use Rattle.attempt_writes.proofs.written.Writes.keep.Goals as goal

pub merge-requires-clause-inside : goal.merge-requires-clause-inside
merge-requires-clause-inside c =
    let i = c.self.inside in
    let k = c.self.invariant in
    subst (λ n. AreInside n i.notes.items) (sym k.hints) (noted_inside 256 i.pairs.items i.notes.items k.known k.noted)

pub invariant_of-self-2 : goal.invariant_of-self-2
invariant_of-self-2 c =
    let i = c.self.inside in
    let k = c.self.invariant in
    record {
      wide = k.wide;
      hints = c.merge.ensures.hints ∙ k.hints;
      ascending = k.ascending;
      known = k.known;
      listed = k.listed;
      noted = c.merge.ensures.noted i.pairs.items k.noted;
      nested = subst (λ (bs : List Branch). AreNested (length c.merge.new.notes.items) (reverse bs)) c.as_slice.ensures.value c.merge.ensures.nested;
      few = c.merge.ensures.few;
      hinted = c.merge.ensures.hinted;
      once = subst (λ (bs : List Branch). AreOnce c.merge.new.notes.items (reverse bs)) c.as_slice.ensures.value c.merge.ensures.once;
      floors = outer_floors i.branches.items c.pop.new.self.items c.in-Some.branch i.kept.items c.take_up.new.kept.items c.in-Some.ensures.items c.take_up.ensures.kept k.floors;
      far = k.far;
      far_nested =
          let popped = far_popped (length i.far.notes) i.branches.items c.pop.new.self.items c.in-Some.branch c.in-Some.ensures.items k.far_nested in
          far_nested_more c.in-Some.branch.far (length i.far.notes) (reverse c.pop.new.self.items) popped.0 popped.1;
      narrow = k.narrow;
      some = k.some;
    }

pub merge-requires-clause-inner : goal.merge-requires-clause-inner
merge-requires-clause-inner c =
    let i = c.self.inside in
    (once_popped i.branches.items c.pop.new.self.items c.in-Some.branch i.notes.items c.in-Some.ensures.items c.self.invariant.once).0

pub merge-requires-clause-outer : goal.merge-requires-clause-outer
merge-requires-clause-outer c =
    let i = c.self.inside in
    let b = c.in-Some.branch in
    let outer = (once_popped i.branches.items c.pop.new.self.items b i.notes.items c.in-Some.ensures.items c.self.invariant.once).1 in
    subst (λ (bs : List Branch). AreOnce (take b.height i.notes.items) (reverse bs)) (sym c.as_slice.ensures.value) outer

pub take_up-requires-clause-within : goal.take_up-requires-clause-within
take_up-requires-clause-within c =
    let i = c.self.inside in
    (popped_floors (length i.kept.items) i.branches.items c.pop.new.self.items c.in-Some.branch c.in-Some.ensures.items c.self.invariant.floors).0

pub take_up-requires-clause-room : goal.take_up-requires-clause-room
take_up-requires-clause-room c =
    let i = c.self.inside in
    (popped_floors (length i.kept.items) i.branches.items c.pop.new.self.items c.in-Some.branch c.in-Some.ensures.items c.self.invariant.floors).1

pub returns-clause-left : goal.returns-clause-left
returns-clause-left c = λ e.
    let i = c.self.inside in
    let init = c.pop.new.self.items in
    let same = subst (λ (bs : List Branch). (k : List ℕ) (u : List (Option ℤ)) → marks_of (reverse bs) c.merge.new.notes.items k u ≡ marks_of (reverse bs) i.notes.items k u) c.as_slice.ensures.value c.merge.ensures.marks in
    let left = leaves_inner i.branches.items init c.in-Some.branch i.notes.items c.merge.new.notes.items i.kept.items c.take_up.new.loops.items c.take_up.new.kept.items i.table c.in-Some.ensures.items c.take_up.ensures.loops c.take_up.ensures.kept same in
    let b = c.in-Some.branch in
    let rest = marks_of (reverse init) c.merge.new.notes.items c.take_up.new.kept.items i.table in
    let ms = marks_of (reverse i.branches.items) i.notes.items i.kept.items i.table in
    let turned : reverse i.branches.items ≡ b ∷ reverse init = ap reverse c.in-Some.ensures.items ∙ last_first init b in
    let far = leaves_far i.far b (reverse init) ms rest (reverse c.take_up.new.loops.items) left in
    subst (λ (o : Own). LeavesInner o.marks (reverse c.take_up.new.loops.items) (with_far i.far (reverse init) rest)) c.self.view_is
    (subst (λ (bs : List Branch). LeavesInner (with_far i.far bs ms) (reverse c.take_up.new.loops.items) (with_far i.far (reverse init) rest)) (sym turned) far)
