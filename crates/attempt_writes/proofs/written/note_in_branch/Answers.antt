use Rattle.std.proofs.Common.{◌≡◌, ◌+◌, ℕ, List, subst, sym, arith, get_or, length, reverse}
use Rattle.std.proofs.Math.ListN.{set}
use Rattle.txn_programs.specs.declared.ast.VarId.{VarId}
use Rattle.attempt_writes.specs.declared.note.Note.{Note}
use Rattle.attempt_writes.specs.Own.{AreHinted, AreOnce, HasNote, IsNoted, IsOther}
use Rattle.attempt_writes.proofs.OwnHints.{get_known, hinted_push, inner_others, once_push, others_above}
use Rattle.attempt_writes.proofs.OwnNotes.{inner_nested, noted_keeps, noted_fresh}
use Rattle.attempt_writes.proofs.written.note_in_branch.Goals as goal

-- what the call said of the slice and its length holds of the notes
other_there : (low len e : ℕ) (ns l : List Note) (x : VarId) → len ≡ length ns → l ≡ ns → IsOther low len l e x → IsOther low (length ns) ns e x
other_there low len e ns l x same is other = subst (λ (n : ℕ). IsOther low n ns e x) same (subst (λ (m : List Note). IsOther low len m e x) is other)

pub returns-then-has_note-clause-ok : goal.returns-then-has_note-clause-ok
returns-then-has_note-clause-ok c =
    let ns = c.args.notes.now.items in
    let b = c.in-Some.branch.now in
    let has = subst (λ (l : List Note). HasNote b.height c.len-place.result l c.args.x) c.as_slice.ensures.value (c.has_note.ensures.here c.if-has_note.true) in
    noted_keeps c.args.branches.now b c.args.x c.args.old ns c.len-place.result (sym c.in-Some.ensures.value) c.requires.nested has

pub returns-clause-ok : goal.returns-clause-ok
returns-clause-ok c =
    let ns = c.args.notes.now.items in
    subst (λ (l : List Note). IsNoted c.args.branches.now c.args.x c.args.old ns l) (sym c.in_ok-push.ensures.items) (noted_fresh c.args.branches.now _ ns c.requires.nested)

pub returns-then-place-eq-MAX_NOTES-clause-again : goal.returns-then-place-eq-MAX_NOTES-clause-again
returns-then-place-eq-MAX_NOTES-clause-again c = λ inner.
    let ns = c.args.notes.now.items in
    let b = c.in-Some.branch.now in
    let t = c.args.noted.now in
    let e = get_or t c.args.x.0 0 in
    let len : c.len-place.result ≡ length ns = omega (arith, c.len-place.ensures, c.args.notes.now.ok.0) in
    let other = other_there b.height c.len-place.result e ns c.as_slice.result.now c.args.x len c.as_slice.ensures.value (c.has_note.ensures.other c.if-has_note.false) in
    absurd (inner_others c.args.branches.now b ns t e c.args.x (sym c.in-Some.ensures.value) c.requires.hinted (get_known t c.args.x.0 0 c.requires.small) other inner)

pub returns-in_err-push-clause-again : goal.returns-in_err-push-clause-again
returns-in_err-push-clause-again c = λ inner.
    let ns = c.args.notes.now.items in
    let b = c.in-Some.branch.now in
    let t = c.args.noted.now in
    let e = get_or t c.args.x.0 0 in
    let len : c.len-place.result ≡ length ns = omega (arith, c.len-place.ensures, c.args.notes.now.ok.0) in
    let other = other_there b.height c.len-place.result e ns c.as_slice.result.now c.args.x len c.as_slice.ensures.value (c.has_note.ensures.other c.if-has_note.false) in
    absurd (inner_others c.args.branches.now b ns t e c.args.x (sym c.in-Some.ensures.value) c.requires.hinted (get_known t c.args.x.0 0 c.requires.small) other inner)

pub returns-clause-again : goal.returns-clause-again
returns-clause-again c = λ inner.
    let ns = c.args.notes.now.items in
    let b = c.in-Some.branch.now in
    let t = c.args.noted.now in
    let e = get_or t c.args.x.0 0 in
    let len : c.len-place.result ≡ length ns = omega (arith, c.len-place.ensures, c.args.notes.now.ok.0) in
    let other = other_there b.height c.len-place.result e ns c.as_slice.result.now c.args.x len c.as_slice.ensures.value (c.has_note.ensures.other c.if-has_note.false) in
    absurd (inner_others c.args.branches.now b ns t e c.args.x (sym c.in-Some.ensures.value) c.requires.hinted (get_known t c.args.x.0 0 c.requires.small) other inner)

pub returns-clause-hinted : goal.returns-clause-hinted
returns-clause-hinted c =
    let ns = c.args.notes.now.items in
    let t = c.args.noted.now in
    let x = c.args.x in
    let e = get_or t x.0 0 in
    let n : Note = record { x = x; earlier = e; old = c.args.old } in
    let p = c.len-place.result in
    let at : p ≡ 0 + length ns = omega (arith, c.len-place.ensures) in
    subst (λ (l : List Note). AreHinted 0 l (set t x.0 p)) (sym c.in_ok-push.ensures.items)
    (hinted_push 0 ns n t p at (get_known t x.0 0 c.requires.small) c.requires.hinted)

pub returns-clause-once : goal.returns-clause-once
returns-clause-once c =
    let ns = c.args.notes.now.items in
    let bs = c.args.branches.now in
    let b = c.in-Some.branch.now in
    let t = c.args.noted.now in
    let x = c.args.x in
    let e = get_or t x.0 0 in
    let n : Note = record { x = x; earlier = e; old = c.args.old } in
    let last = sym c.in-Some.ensures.value in
    let len : c.len-place.result ≡ length ns = omega (arith, c.len-place.ensures, c.args.notes.now.ok.0) in
    let other = other_there b.height c.len-place.result e ns c.as_slice.result.now x len c.as_slice.ensures.value (c.has_note.ensures.other c.if-has_note.false) in
    let within = (inner_nested (length ns) bs b last c.requires.nested).0 in
    subst (λ (l : List Note). AreOnce l (reverse bs)) (sym c.in_ok-push.ensures.items)
    (once_push bs b ns n last within (others_above ns t b.height e x c.requires.hinted (get_known t x.0 0 c.requires.small) other) c.requires.once)
