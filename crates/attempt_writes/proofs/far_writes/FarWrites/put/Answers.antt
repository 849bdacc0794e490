use Rattle.std.proofs.Common.{◌≡◌, ◌≢◌, ◌<◌, ◌≤◌, ◌∙◌, ℤ, Some, drop, length, subst, sym, ap, arith, slice_get, to_z-of_z}
use Rattle.std.specs.Prelude.{IsOk}
use Rattle.std.proofs.lemmas.Option.{slice_get-get_or}
use mir.Syntax.{w64}
use mir.Val.{to_z, of_z}
use Rattle.attempt_writes.specs.FarWrites.{Far, far_at, far_now, gathered}
use Rattle.attempt_writes.specs.Known.{known_at, write}
use Rattle.attempt_writes.specs.Notes.{flat, undone}
use Rattle.attempt_writes.proofs.FarLines.{changed_line, gathered_put}
use Rattle.attempt_writes.proofs.far_writes.FarWrites.put.Goals as goal

pub returns-in_err-note_line-clause-again : goal.returns-in_err-note_line-clause-again
returns-in_err-note_line-clause-again c = λ x g at is changed.
    let f = c.self.inside in
    let i = c.self.invariant in
    let k = c.args.k in
    let there : slice_get f.numbers k ≡ Some x.0 = subst (λ (v : Far). slice_get v.numbers k ≡ Some x.0) (sym c.self.view_is) at in
    let other : known_at (gathered f.numbers f.table.items) x ≢ known_at (gathered f.numbers (undone (drop g f.notes.items) f.table.items)) x =
    subst (λ (v : Far). known_at (far_now v) x ≢ known_at (far_at g v) x) (sym c.self.view_is) changed in
    let has = changed_line f.numbers f.table.items f.notes.items g k x i.distinct i.each there other in
    let ok : IsOk c.note_line.result = c.note_line.ensures.again g is has in
    absurd (cc (subst IsOk c.in_err-note_line.was ok))

pub returns-clause-now : goal.returns-clause-now
returns-clause-now c = λ x at.
    let f = c.self.inside in
    let i = c.self.invariant in
    let k = c.args.k in
    let there : slice_get f.numbers k ≡ Some x.0 = subst (λ (v : Far). slice_get v.numbers k ≡ Some x.0) (sym c.self.view_is) at in
    gathered_put f.numbers f.table.items k x (to_z w64 (of_z w64 c.args.v)) i.distinct i.each there
    ∙ ap (λ (v : Far). write (far_now v) x (to_z w64 (of_z w64 c.args.v))) c.self.view_is
    ∙ ap (λ (v : ℤ). write (far_now c.args.self.now) x v) (to_z-of_z c.ranges.v)

pub returns-clause-before : goal.returns-clause-before
returns-clause-before c = λ h g is le.
    let f = c.self.inside in
    let i = c.self.invariant in
    let k = c.args.k in
    let line : k < length f.numbers = subst (λ (v : Far). k < length v.numbers) (sym c.self.view_is) c.requires.line in
    let lt : k < length f.table.items = omega (arith, line, i.each) in
    let within : g ≤ length f.notes.items = subst (λ (v : Far). g ≤ length v.notes) (sym c.self.view_is) (c.requires.within g is) in
    ap (gathered f.numbers) (c.in_ok-note_line.ensures.ok h g is le within f.table.items (to_z w64 (of_z w64 c.args.v)) lt (ap flat (slice_get-get_or f.table.items k c.index-old.result.now lt) ∙ sym c.index-old.ensures))
    ∙ ap (far_at h) c.self.view_is
