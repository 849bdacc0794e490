use Rattle.std.proofs.Common.{◌≡◌, ◌<◌, ◌+◌, ◌++◌, ◌∷◌, ℕ, ap, List, arith, length, reverse, subst, sym, ◌∙◌}
use Rattle.attempt_writes.specs.declared.note.Note.{Note}
use Rattle.attempt_writes.specs.Own.{Own, AreInside, AreNested, AreOnce, GoesBack, listed, marks_of, with_far}
use Rattle.attempt_writes.specs.declared.written.Branch.{Branch}
use Rattle.attempt_writes.specs.FarWrites.{AreFar, far_now}
use Rattle.attempt_writes.proofs.OwnHints.{once_popped}
use Rattle.attempt_writes.proofs.OwnFar.{far_nested_more, far_popped, goes_back_far}
use Rattle.attempt_writes.proofs.OwnNotes.{last_first, goes_back, noted_inside, outer_floors, popped_floors, popped_inner}
use Rattle.attempt_writes.proofs.written.Writes.back.Goals as goal

pub undo-requires-clause-inside : goal.undo-requires-clause-inside
undo-requires-clause-inside c =
    let i = c.self.inside in
    subst (λ n. AreInside n i.notes.items) (sym c.self.invariant.wide) (noted_inside 256 i.pairs.items i.notes.items c.self.invariant.known c.self.invariant.noted)

pub invariant_of-self-2 : goal.invariant_of-self-2
invariant_of-self-2 c =
    let i = c.self.inside in
    let k = c.self.invariant in
    let inner = popped_inner (length i.notes.items) i.branches.items c.pop.new.self.items c.in_ok-branch.branch c.in_ok-branch.ensures.items k.nested in
    record {
      wide = c.undo.ensures.wide ∙ k.wide;
      hints = c.undo.ensures.hints ∙ k.hints;
      ascending = k.ascending;
      known = k.known;
      listed = c.undo.ensures.listed i.pairs.items k.noted k.listed;
      noted = c.undo.ensures.noted i.pairs.items k.noted;
      nested = subst (λ n. AreNested n (reverse c.pop.new.self.items)) (sym c.undo.ensures.height) inner.1;
      few = omega (arith, inner.0, k.few, c.undo.ensures.height);
      hinted = c.undo.ensures.hinted;
      once =
          subst (λ (l : List Note). AreOnce l (reverse c.pop.new.self.items)) (sym c.undo.ensures.front)
          (once_popped i.branches.items c.pop.new.self.items c.in_ok-branch.branch i.notes.items c.in_ok-branch.ensures.items k.once).1;
      floors = outer_floors i.branches.items c.pop.new.self.items c.in_ok-branch.branch i.kept.items c.take_up.new.kept.items c.in_ok-branch.ensures.items c.take_up.ensures.kept k.floors;
      far = subst AreFar (sym c.go_back_far.ensures.numbers) k.far;
      far_nested =
          let popped = far_popped (length i.far.notes) i.branches.items c.pop.new.self.items c.in_ok-branch.branch c.in_ok-branch.ensures.items k.far_nested in
          far_nested_more c.in_ok-branch.branch.far (length c.go_back_far.new.far.notes) (reverse c.pop.new.self.items) c.go_back_far.ensures.notes popped.1;
      narrow = λ e. c.go_back_far.ensures.numbers ∙ k.narrow e;
      some = λ e. subst (λ (ns : List ℕ). 0 < length ns) (sym c.go_back_far.ensures.numbers) (k.some e);
    }

pub go_back_far-requires-clause-within : goal.go_back_far-requires-clause-within
go_back_far-requires-clause-within c =
    let i = c.self.inside in
    (far_popped (length i.far.notes) i.branches.items c.pop.new.self.items c.in_ok-branch.branch c.in_ok-branch.ensures.items c.self.invariant.far_nested).0

pub returns-clause-some : goal.returns-clause-some
returns-clause-some c =
    let i = c.self.inside in
    let b = c.in_ok-branch.branch in
    let init = c.pop.new.self.items in
    let ms = c.undo.new.notes.items in
    let u = c.undo.new.table in
    let kept = c.take_up.new.kept.items in
    let loops = c.take_up.new.loops.items in
    let went = goes_back i.branches.items init b i.notes.items ms i.kept.items loops kept i.table u c.in_ok-branch.ensures.items c.self.invariant.nested c.undo.ensures.height c.take_up.ensures.loops c.take_up.ensures.kept c.undo.ensures.undone in
    let f = i.far in
    let g = c.go_back_far.new.far in
    let marks = marks_of (reverse i.branches.items) i.notes.items i.kept.items i.table in
    let rest = marks_of (reverse init) ms kept u in
    let turned : reverse i.branches.items ≡ b ∷ reverse init = ap reverse c.in_ok-branch.ensures.items ∙ last_first init b in
    let popped = far_popped (length f.notes) i.branches.items init b c.in_ok-branch.ensures.items c.self.invariant.far_nested in
    let far = goes_back_far f g b (reverse init) marks rest (b.begin + b.passed) (reverse loops) (listed 0 u) popped.1 c.go_back_far.ensures.now c.go_back_far.ensures.before went in
    subst (λ (o : Own). GoesBack o.marks (b.begin + b.passed) (reverse loops) (listed 0 u ++ far_now g) (with_far g (reverse init) rest)) c.self.view_is
    (subst (λ (bs : List Branch). GoesBack (with_far f bs marks) (b.begin + b.passed) (reverse loops) (listed 0 u ++ far_now g) (with_far g (reverse init) rest)) (sym turned) far)

pub take_up-requires-clause-within : goal.take_up-requires-clause-within
take_up-requires-clause-within c =
    let i = c.self.inside in
    (popped_floors (length i.kept.items) i.branches.items c.pop.new.self.items c.in_ok-branch.branch c.in_ok-branch.ensures.items c.self.invariant.floors).0

pub take_up-requires-clause-room : goal.take_up-requires-clause-room
take_up-requires-clause-room c =
    let i = c.self.inside in
    (popped_floors (length i.kept.items) i.branches.items c.pop.new.self.items c.in_ok-branch.branch c.in_ok-branch.ensures.items c.self.invariant.floors).1
