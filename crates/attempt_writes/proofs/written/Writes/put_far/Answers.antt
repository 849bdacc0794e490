use Rattle.std.proofs.Common.{◌≡◌, ◌≢◌, ◌<◌, ◌≤◌, ◌+◌, ◌∙◌, ◌++◌, ◌∷◌, [], ℕ, ℤ, List, Some, None, drop, length, reverse, ap, sym, subst, arith, to_z-of_z}
use mir.Syntax.{w64}
use mir.Val.{to_z, of_z}
use Rattle.std.proofs.lemmas.Option.{slice_get_within}
use Rattle.attempt_writes.specs.declared.written.Branch.{Branch}
use Rattle.attempt_writes.specs.FarWrites.{AreFar, far_at, far_now}
use Rattle.attempt_writes.specs.Known.{Known, known_at, write}
use Rattle.attempt_writes.specs.Own.{Own, AreFarNested, IsChangedInner, listed, marks_of, undone}
use Rattle.attempt_writes.proofs.FarLines.{gathered_absent}
use Rattle.attempt_writes.proofs.OwnFar.{back_write, changed_far, far_nested_more, innermost_is, near_before, on_ok, put_marks, with_same}
use Rattle.attempt_writes.proofs.written.Writes.put_far.Goals as goal

pub returns-in_err-k-clause-again : goal.returns-in_err-k-clause-again
returns-in_err-k-clause-again c = λ changed.
    let i = c.self.inside in
    let f = i.far in
    let x = c.args.x in
    let bs = i.branches.items in
    let high : 256 ≤ x.0 = omega (arith, c.requires.far) in
    let inner = subst (λ (o : Own). IsChangedInner o.marks o.writes x) (sym c.self.view_is) changed in
    let d = changed_far f (reverse bs) i.notes.items i.kept.items i.table x c.self.invariant.wide high inner in
    let b = d.0 in
    let absent = c.in_err-k.ensures.again in
    absurd (d.3 (gathered_absent f.numbers f.table x absent ∙ sym (gathered_absent f.numbers (undone (drop b.far f.notes) f.table) x absent)))

pub put-requires-clause-line : goal.put-requires-clause-line
put-requires-clause-line c = slice_get_within c.line_of.new.self.numbers c.in_ok-k.k c.args.x.0 c.in_ok-k.ensures.here

pub put-requires-clause-within : goal.put-requires-clause-within
put-requires-clause-within c = λ g is.
    let i = c.self.inside in
    let f = i.far in
    let bs = i.branches.items in
    let height = c.innermost_far-height.result in
    let none : bs ≡ [] → height ≡ None = λ e. c.innermost_far-height.ensures.none (c.as_slice.ensures.value ∙ e) in
    let some : (b : Branch) (outer : List Branch) → reverse bs ≡ b ∷ outer → height ≡ Some b.far = λ b outer e. c.innermost_far-height.ensures.some b outer (ap reverse c.as_slice.ensures.value ∙ e) in
    let r = innermost_is bs height g none some is in
    let nested : AreFarNested (length f.notes) (r.0 ∷ r.1) = subst (AreFarNested (length f.notes)) r.2 c.self.invariant.far_nested in
    let low = nested.0 in
    let at = r.3 in
    let same : length c.line_of.new.self.notes ≡ length f.notes = ap length c.line_of.ensures.notes in
    omega (arith, low, at, same)

pub invariant_of-self-2 : goal.invariant_of-self-2
invariant_of-self-2 c =
    let i = c.self.inside in
    let f = i.far in
    let x = c.args.x in
    let bs = i.branches.items in
    let high : 256 ≤ x.0 = omega (arith, c.requires.far) in
    let k = c.self.invariant in
    let same : length c.line_of.new.self.notes ≡ length f.notes = ap length c.line_of.ensures.notes in
    let more : length f.notes ≤ length c.put.new.self.notes = omega (arith, same, c.put.ensures.more) in
    record {
      wide = k.wide;
      hints = k.hints;
      ascending = k.ascending;
      known = k.known;
      listed = k.listed;
      noted = k.noted;
      nested = k.nested;
      few = k.few;
      hinted = k.hinted;
      once = k.once;
      floors = k.floors;
      far = subst AreFar (sym c.put.ensures.numbers) (c.line_of.ensures.far k.far c.requires.far);
      far_nested = far_nested_more (length f.notes) (length c.put.new.self.notes) (reverse bs) more k.far_nested;
      narrow = λ e. absurd (cc);
      some = λ e. subst (λ (ns : List ℕ). 0 < length ns) (sym c.put.ensures.numbers) c.in_ok-k.ensures.some;
    }

pub returns-clause-value : goal.returns-clause-value
returns-clause-value c =
    let i = c.self.inside in
    let f = i.far in
    let x = c.args.x in
    let bs = i.branches.items in
    let high : 256 ≤ x.0 = omega (arith, c.requires.far) in
    let near = listed 0 i.table in
    let low : 0 + length i.table ≤ x.0 = omega (arith, high, c.self.invariant.wide) in
    let v = to_z w64 (of_z w64 c.args.v) in
    on_ok c.put.result _ _ c.put.ensures.now (λ now.
    ap (λ (l : Known). near ++ l) (now x c.in_ok-k.ensures.here ∙ ap (λ (l : Known). write l x v) c.line_of.ensures.now)
    ∙ sym (back_write near (far_now f) x v (near_before 0 i.table x low))
    ∙ ap (λ (o : Own). write o.writes x v) c.self.view_is
    ∙ ap (λ (u : ℤ). write c.args.self.now.writes x u) (to_z-of_z c.ranges.v))

pub returns-clause-marks : goal.returns-clause-marks
returns-clause-marks c =
    let i = c.self.inside in
    let f = i.far in
    let x = c.args.x in
    let bs = i.branches.items in
    let high : 256 ≤ x.0 = omega (arith, c.requires.far) in
    let height = c.innermost_far-height.result in
    let none : bs ≡ [] → height ≡ None = λ e. c.innermost_far-height.ensures.none (c.as_slice.ensures.value ∙ e) in
    let some : (b : Branch) (outer : List Branch) → reverse bs ≡ b ∷ outer → height ≡ Some b.far = λ b outer e. c.innermost_far-height.ensures.some b outer (ap reverse c.as_slice.ensures.value ∙ e) in
    let k = c.self.invariant in
    let mid = c.line_of.new.self in
    let ms = marks_of (reverse bs) i.notes.items i.kept.items i.table in
    let nested : AreFarNested (length mid.notes) (reverse bs) = subst (λ (n : ℕ). AreFarNested n (reverse bs)) (sym (ap length c.line_of.ensures.notes)) k.far_nested in
    put_marks c.put.result (reverse bs) mid c.put.new.self ms height nested some c.put.ensures.before c.put.ensures.refused
    ∙ with_same (length f.notes) (reverse bs) f mid ms k.far_nested (λ h le. c.line_of.ensures.before h)
    ∙ ap (λ (o : Own). o.marks) c.self.view_is

pub returns-clause-again : goal.returns-clause-again
returns-clause-again c = λ changed.
    let i = c.self.inside in
    let f = i.far in
    let x = c.args.x in
    let bs = i.branches.items in
    let high : 256 ≤ x.0 = omega (arith, c.requires.far) in
    let height = c.innermost_far-height.result in
    let none : bs ≡ [] → height ≡ None = λ e. c.innermost_far-height.ensures.none (c.as_slice.ensures.value ∙ e) in
    let some : (b : Branch) (outer : List Branch) → reverse bs ≡ b ∷ outer → height ≡ Some b.far = λ b outer e. c.innermost_far-height.ensures.some b outer (ap reverse c.as_slice.ensures.value ∙ e) in
    let inner = subst (λ (o : Own). IsChangedInner o.marks o.writes x) (sym c.self.view_is) changed in
    let d = changed_far f (reverse bs) i.notes.items i.kept.items i.table x c.self.invariant.wide high inner in
    let b = d.0 in
    let mid = c.line_of.new.self in
    let other : known_at (far_now mid) x ≢ known_at (far_at b.far mid) x =
    λ q. d.3 (ap (λ (l : Known). known_at l x) (sym c.line_of.ensures.now) ∙ q ∙ ap (λ (l : Known). known_at l x) (c.line_of.ensures.before b.far)) in
    c.put.ensures.again x b.far c.in_ok-k.ensures.here (some b d.1 d.2) other
