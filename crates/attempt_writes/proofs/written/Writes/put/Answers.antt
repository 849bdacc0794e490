use Rattle.std.proofs.Common.{◌≡◌, ◌<◌, ◌∙◌, ◌++◌, ℤ, List, Some, length, reverse, ap, subst, sym, arith, to_z-of_z}
use Rattle.std.proofs.Math.ListN.{set, length-set}
use mir.Syntax.{w64}
use mir.Val.{to_z, of_z}
use Rattle.attempt_writes.specs.declared.written.Branch.{Branch}
use Rattle.attempt_writes.specs.Known.{Known, write}
use Rattle.attempt_writes.specs.FarWrites.{far_now}
use Rattle.attempt_writes.specs.Own.{Own, AreNested, AreOnce, IsChangedInner, IsNotedInner, listed, marks_of, with_far}
use Rattle.attempt_writes.proofs.OwnTable.{listed_write, put_listed, value_or}
use Rattle.attempt_writes.proofs.OwnHints.{changed_noted}
use Rattle.attempt_writes.proofs.OwnFar.{changed_near, far_after, front_write, no_far_branch}
use Rattle.attempt_writes.proofs.OwnNotes.{noted_still}
use Rattle.attempt_writes.proofs.written.Writes.put.Goals as goal

pub returns-in_err-note_in_branch-clause-in_place : goal.returns-in_err-note_in_branch-clause-in_place
returns-in_err-note_in_branch-clause-in_place c = λ e low.
    let i = c.self.inside in
    let none = no_far_branch i.far i.branches.items i.notes.items i.kept.items i.table (ap (λ (o : Own). o.marks) c.self.view_is ∙ e) in
    absurd (cc (c.in_err-note_in_branch.ensures.in_place (c.as_slice.ensures.value ∙ none)))

pub list-requires-clause-there : goal.list-requires-clause-there
list-requires-clause-there c = λ u e. c.self.invariant.listed c.args.x u (value_or c.self.inside.table c.args.x.0 ∙ e)

pub invariant_of-self-2 : goal.invariant_of-self-2
invariant_of-self-2 c =
    let i = c.self.inside in
    let k = c.self.invariant in
    let v = to_z w64 (of_z w64 c.args.v) in
    let now = c.list.new.pairs.items in
    let ready = c.in_ok-note_in_branch.ensures.ok in
    record {
      wide = length-set i.table c.args.x.0 (Some v) ∙ k.wide;
      hints = c.note_in_branch.ensures.hints ∙ k.hints;
      ascending = c.list.ensures.ascending;
      known = c.list.ensures.known;
      listed = put_listed i.pairs.items i.table c.args.x (Some v) now k.listed c.list.ensures.here c.list.ensures.still;
      noted = ready.noted now c.list.ensures.here (noted_still i.pairs.items now i.notes.items c.list.ensures.still k.noted);
      nested = subst (λ (bs : List Branch). AreNested (length c.note_in_branch.new.notes.items) (reverse bs)) c.as_slice.ensures.value ready.nested;
      few = c.note_in_branch.ensures.few;
      hinted = c.note_in_branch.ensures.hinted;
      once = subst (λ (bs : List Branch). AreOnce c.note_in_branch.new.notes.items (reverse bs)) c.as_slice.ensures.value c.note_in_branch.ensures.once;
      floors = k.floors;
      far = k.far;
      far_nested = k.far_nested;
      narrow = k.narrow;
      some = k.some;
    }

pub returns-clause-value : goal.returns-clause-value
returns-clause-value c =
    let i = c.self.inside in
    let lt : c.args.x.0 < length i.table = omega (arith, c.if-x-ge-MAX_VARIABLES.false, c.self.invariant.wide) in
    let v = to_z w64 (of_z w64 c.args.v) in
    let low : c.args.x.0 < 256 = omega (arith, c.if-x-ge-MAX_VARIABLES.false) in
    ap (λ (l : Known). l ++ far_now i.far) (listed_write i.table c.args.x v lt)
    ∙ sym (front_write (listed 0 i.table) (far_now i.far) c.args.x v (far_after i.far.numbers i.far.table c.args.x c.self.invariant.far low))
    ∙ ap (λ (o : Own). write o.writes c.args.x (to_z w64 (of_z w64 c.args.v))) c.self.view_is
    ∙ ap (λ (v : ℤ). write c.args.self.now.writes c.args.x v) (to_z-of_z c.ranges.v)

pub returns-clause-marks : goal.returns-clause-marks
returns-clause-marks c =
    let i = c.self.inside in
    let v = to_z w64 (of_z w64 c.args.v) in
    let lt : c.args.x.0 < length i.table = omega (arith, c.if-x-ge-MAX_VARIABLES.false, c.self.invariant.wide) in
    let same = c.in_ok-note_in_branch.ensures.ok.marks i.kept.items i.table v lt (value_or i.table c.args.x.0) in
    ap (with_far i.far (reverse i.branches.items)) (subst (λ (bs : List Branch). marks_of (reverse bs) c.note_in_branch.new.notes.items i.kept.items (set i.table c.args.x.0 (Some v)) ≡ marks_of (reverse bs) i.notes.items i.kept.items i.table) c.as_slice.ensures.value same)
    ∙ ap (λ (o : Own). o.marks) c.self.view_is

pub returns-in_err-note_in_branch-clause-again : goal.returns-in_err-note_in_branch-clause-again
returns-in_err-note_in_branch-clause-again c = λ changed.
    let i = c.self.inside in
    let low : c.args.x.0 < 256 = omega (arith, c.if-x-ge-MAX_VARIABLES.false) in
    let inner = changed_near i.far (reverse i.branches.items) i.notes.items i.kept.items i.table c.args.x c.self.invariant.far low (subst (λ (o : Own). IsChangedInner o.marks o.writes c.args.x) (sym c.self.view_is) changed) in
    let has = changed_noted (reverse i.branches.items) i.notes.items i.kept.items i.table c.args.x inner in
    let again = c.in_err-note_in_branch.ensures.again (subst (λ (bs : List Branch). IsNotedInner (reverse bs) i.notes.items c.args.x) (sym c.as_slice.ensures.value) has) in
    absurd (cc again.0)
