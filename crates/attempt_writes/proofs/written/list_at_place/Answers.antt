use Rattle.std.proofs.Common.{◌≡◌, ◌≤◌, ◌<◌, ◌∙◌, ℤ, pos, length, insert, get_or, ap, subst, sym, arith}
use Rattle.std.proofs.lemmas.Option.{slice_get-get_or}
use mir.Syntax.{w64}
use mir.Val.{to_z, of_z}
use Rattle.txn_programs.specs.declared.ast.VarId.{VarId}
use Rattle.attempt_writes.specs.Known.{Known, known_at, write}
use Rattle.attempt_writes.specs.Order.{AllKnown, Ascending}
use Rattle.attempt_writes.proofs.Pairs.{AllKnown-write, Ascending-write}
use Rattle.attempt_writes.proofs.OwnList.{has_room}
use Rattle.attempt_writes.proofs.OwnTable.{known_write, still_listed}
use Rattle.attempt_writes.proofs.written.list_at_place.Goals as goal

pub insert-requires : goal.insert-requires
insert-requires c =
    let w = c.args.pairs.now.items in
    let x = c.args.x in
    let here : c.as_slice.result.now ≡ w = c.as_slice.ensures.value in
    let le : c.in-Err.i ≤ length w = subst (λ (l : Known). c.in-Err.i ≤ length l) here c.in-Err.ensures.free.0 in
    let e : insert w c.in-Err.i (x, pos 0) ≡ write w x (pos 0) = subst (λ (l : Known). insert l c.in-Err.i (x, pos 0) ≡ write l x (pos 0)) here (c.in-Err.ensures.free.1 (pos 0)) in
    let room = has_room 256 w c.in-Err.i x (pos 0) c.requires.ascending c.requires.known c.requires.small le e in
    (omega arith, (le, room))

pub returns-in-Err-clause-ascending : goal.returns-in-Err-clause-ascending
returns-in-Err-clause-ascending c =
    let w = c.args.pairs.now.items in
    let x = c.args.x in
    let v = to_z w64 (of_z w64 c.args.v) in
    let e : insert w c.in-Err.i (x, v) ≡ write w x v = subst (λ (l : Known). insert l c.in-Err.i (x, v) ≡ write l x v) c.as_slice.ensures.value (c.in-Err.ensures.free.1 v) in
    subst Ascending (sym (c.insert.ensures.items ∙ e)) (Ascending-write w x v c.requires.ascending)

pub returns-in-Err-clause-known : goal.returns-in-Err-clause-known
returns-in-Err-clause-known c =
    let w = c.args.pairs.now.items in
    let x = c.args.x in
    let v = to_z w64 (of_z w64 c.args.v) in
    let e : insert w c.in-Err.i (x, v) ≡ write w x v = subst (λ (l : Known). insert l c.in-Err.i (x, v) ≡ write l x v) c.as_slice.ensures.value (c.in-Err.ensures.free.1 v) in
    subst (AllKnown 256) (sym (c.insert.ensures.items ∙ e)) (AllKnown-write 256 w x v c.requires.small c.requires.known)

pub returns-in-Err-clause-here : goal.returns-in-Err-clause-here
returns-in-Err-clause-here c =
    let w = c.args.pairs.now.items in
    let x = c.args.x in
    let v = to_z w64 (of_z w64 c.args.v) in
    let e : insert w c.in-Err.i (x, v) ≡ write w x v = subst (λ (l : Known). insert l c.in-Err.i (x, v) ≡ write l x v) c.as_slice.ensures.value (c.in-Err.ensures.free.1 v) in
    (v, ap (λ (l : Known). known_at l x) (c.insert.ensures.items ∙ e) ∙ known_write w x v)

pub returns-in-Err-clause-still : goal.returns-in-Err-clause-still
returns-in-Err-clause-still c =
    let w = c.args.pairs.now.items in
    let x = c.args.x in
    let v = to_z w64 (of_z w64 c.args.v) in
    let e : insert w c.in-Err.i (x, v) ≡ write w x v = subst (λ (l : Known). insert l c.in-Err.i (x, v) ≡ write l x v) c.as_slice.ensures.value (c.in-Err.ensures.free.1 v) in
    λ y l. let r = still_listed w x v y l in (r.0, ap (λ (l : Known). known_at l y) (c.insert.ensures.items ∙ e) ∙ r.1)

pub returns-in-Ok-clause-here : goal.returns-in-Ok-clause-here
returns-in-Ok-clause-here c =
    let w = c.as_slice.result.now in
    let d : VarId × ℤ = (record { 0 = 0 }, pos 0) in
    let i = c.in-Ok.field-0 in
    let lt : i < length w = c.in-Ok.ensures.taken.0 in
    ((get_or w i d).1, ap (λ (l : Known). known_at l c.args.x) (sym c.as_slice.ensures.value) ∙ c.in-Ok.ensures.known (get_or w i d) (slice_get-get_or w i d lt))
