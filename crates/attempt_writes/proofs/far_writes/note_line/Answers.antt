use Rattle.std.proofs.Common.{◌≡◌, ◌+◌, ◌∙◌, ℕ, List, Some, drop, subst, sym, ap, arith, get_or, length}
use Rattle.std.proofs.Math.ListN.{set}
use Rattle.txn_programs.specs.declared.ast.VarId.{VarId}
use Rattle.attempt_writes.specs.declared.note.Note.{Note}
use Rattle.attempt_writes.specs.Notes.{undone, AreHinted, AreInside, HasNote, IsOther}
use Rattle.attempt_writes.proofs.FarLines.{inside_more, no_note}
use Rattle.attempt_writes.proofs.OwnHints.{get_known, hinted_push}
use Rattle.attempt_writes.proofs.OwnNotes.{fresh_undone, noted_undone}
use Rattle.attempt_writes.proofs.far_writes.note_line.Goals as goal

-- what the call said of the slice and its length holds of the notes
other_there : (low len e : ℕ) (ns l : List Note) (x : VarId) → len ≡ length ns → l ≡ ns → IsOther low len l e x → IsOther low (length ns) ns e x
other_there low len e ns l x same is other = subst (λ (n : ℕ). IsOther low n ns e x) same (subst (λ (m : List Note). IsOther low len m e x) is other)

pub returns-then-has_note-clause-ok : goal.returns-then-has_note-clause-ok
returns-then-has_note-clause-ok c = λ h g is le within table v lt was.
    let ns = c.args.notes.now.items in
    let at : g ≡ c.in-Some.height = cc in
    let has = subst (λ (l : List Note). HasNote c.in-Some.height c.len-place.result l c.args.line) c.as_slice.ensures.value (c.has_note.ensures.here c.if-has_note.true) in
    let from = has.2 in
    noted_undone h ns has.0 has.1 table c.args.line.0 (Some v) (omega (arith, le, at, from)) has.4 has.5

pub returns-clause-ok : goal.returns-clause-ok
returns-clause-ok c = λ h g is le within table v lt was.
    let ns = c.args.notes.now.items in
    let n : Note = record { x = c.args.line; earlier = get_or c.args.noted.now c.args.line.0 0; old = c.args.old } in
    ap (λ (l : List Note). undone (drop h l) (set table c.args.line.0 (Some v))) c.in_ok-push.ensures.items
    ∙ fresh_undone h ns n table (Some v) (omega (arith, le, within)) lt was

pub returns-then-place-eq-MAX_NOTES-clause-again : goal.returns-then-place-eq-MAX_NOTES-clause-again
returns-then-place-eq-MAX_NOTES-clause-again c = λ g is has.
    let ns = c.args.notes.now.items in
    let t = c.args.noted.now in
    let e = get_or t c.args.line.0 0 in
    let len : c.len-place.result ≡ length ns = omega (arith, c.len-place.ensures, c.args.notes.now.ok.0) in
    let at : g ≡ c.in-Some.height = cc in
    let other = other_there c.in-Some.height c.len-place.result e ns c.as_slice.result.now c.args.line len c.as_slice.ensures.value (c.has_note.ensures.other c.if-has_note.false) in
    absurd (no_note ns t c.in-Some.height e c.args.line c.requires.hinted (get_known t c.args.line.0 0 c.requires.small) other (subst (λ (h : ℕ). HasNote h (length ns) ns c.args.line) at has))

pub returns-in_err-push-clause-again : goal.returns-in_err-push-clause-again
returns-in_err-push-clause-again c = λ g is has.
    let ns = c.args.notes.now.items in
    let t = c.args.noted.now in
    let e = get_or t c.args.line.0 0 in
    let len : c.len-place.result ≡ length ns = omega (arith, c.len-place.ensures, c.args.notes.now.ok.0) in
    let at : g ≡ c.in-Some.height = cc in
    let other = other_there c.in-Some.height c.len-place.result e ns c.as_slice.result.now c.args.line len c.as_slice.ensures.value (c.has_note.ensures.other c.if-has_note.false) in
    absurd (no_note ns t c.in-Some.height e c.args.line c.requires.hinted (get_known t c.args.line.0 0 c.requires.small) other (subst (λ (h : ℕ). HasNote h (length ns) ns c.args.line) at has))

pub returns-clause-hinted : goal.returns-clause-hinted
returns-clause-hinted c =
    let ns = c.args.notes.now.items in
    let t = c.args.noted.now in
    let x = c.args.line in
    let n : Note = record { x = x; earlier = get_or t x.0 0; old = c.args.old } in
    let p = c.len-place.result in
    let at : p ≡ 0 + length ns = omega (arith, c.len-place.ensures) in
    subst (λ (l : List Note). AreHinted 0 l (set t x.0 p)) (sym c.in_ok-push.ensures.items)
    (hinted_push 0 ns n t p at (get_known t x.0 0 c.requires.small) c.requires.hinted)

pub returns-clause-inside : goal.returns-clause-inside
returns-clause-inside c = λ inside.
    let n : Note = record { x = c.args.line; earlier = get_or c.args.noted.now c.args.line.0 0; old = c.args.old } in
    subst (AreInside (length c.args.noted.now)) (sym c.in_ok-push.ensures.items) (inside_more (length c.args.noted.now) c.args.notes.now.items n c.requires.small inside)
