use Rattle.std.proofs.Common.{◌≡◌, ◌≤◌, ◌∙◌, ◌++◌, ◌∷◌, [], pos, length, ap, subst, sym, arith}
use Rattle.std.proofs.lemmas.List.Edits.{insert_end}
use mir.Syntax.{w64}
use mir.Val.{to_z, of_z}
use Rattle.attempt_writes.specs.Known.{Known, known_at, write}
use Rattle.attempt_writes.specs.Order.{AllKnown, Ascending}
use Rattle.attempt_writes.proofs.Pairs.{AllKnown-write, Ascending-write}
use Rattle.attempt_writes.proofs.OwnList.{has_room}
use Rattle.attempt_writes.proofs.OwnTable.{known_write, still_listed}
use Rattle.attempt_writes.proofs.written.list.Goals as goal

pub push-requires : goal.push-requires
push-requires c =
    let w = c.args.pairs.now.items in
    let x = c.args.x in
    let e : w ++ (x, pos 0) ∷ [] ≡ write w x (pos 0) = subst (λ (l : Known). l ++ (x, pos 0) ∷ [] ≡ write l x (pos 0)) c.as_slice.ensures.value (c.is_behind.ensures c.if-is_behind.true (pos 0)) in
    let le : length w ≤ length w = omega arith in
    let room = has_room 256 w (length w) x (pos 0) c.requires.ascending c.requires.known c.requires.small le (insert_end w (x, pos 0) ∙ e) in
    (omega arith, room)

pub returns-then-is_behind-clause-ascending : goal.returns-then-is_behind-clause-ascending
returns-then-is_behind-clause-ascending c =
    let w = c.args.pairs.now.items in
    let x = c.args.x in
    let v = to_z w64 (of_z w64 c.args.v) in
    let e : w ++ (x, v) ∷ [] ≡ write w x v = subst (λ (l : Known). l ++ (x, v) ∷ [] ≡ write l x v) c.as_slice.ensures.value (c.is_behind.ensures c.if-is_behind.true v) in
    subst Ascending (sym (c.push.ensures.items ∙ e)) (Ascending-write w x v c.requires.ascending)

pub returns-then-is_behind-clause-known : goal.returns-then-is_behind-clause-known
returns-then-is_behind-clause-known c =
    let w = c.args.pairs.now.items in
    let x = c.args.x in
    let v = to_z w64 (of_z w64 c.args.v) in
    let e : w ++ (x, v) ∷ [] ≡ write w x v = subst (λ (l : Known). l ++ (x, v) ∷ [] ≡ write l x v) c.as_slice.ensures.value (c.is_behind.ensures c.if-is_behind.true v) in
    subst (AllKnown 256) (sym (c.push.ensures.items ∙ e)) (AllKnown-write 256 w x v c.requires.small c.requires.known)

pub returns-then-is_behind-clause-here : goal.returns-then-is_behind-clause-here
returns-then-is_behind-clause-here c =
    let w = c.args.pairs.now.items in
    let x = c.args.x in
    let v = to_z w64 (of_z w64 c.args.v) in
    let e : w ++ (x, v) ∷ [] ≡ write w x v = subst (λ (l : Known). l ++ (x, v) ∷ [] ≡ write l x v) c.as_slice.ensures.value (c.is_behind.ensures c.if-is_behind.true v) in
    (v, ap (λ (l : Known). known_at l x) (c.push.ensures.items ∙ e) ∙ known_write w x v)

pub returns-then-is_behind-clause-still : goal.returns-then-is_behind-clause-still
returns-then-is_behind-clause-still c =
    let w = c.args.pairs.now.items in
    let x = c.args.x in
    let v = to_z w64 (of_z w64 c.args.v) in
    let e : w ++ (x, v) ∷ [] ≡ write w x v = subst (λ (l : Known). l ++ (x, v) ∷ [] ≡ write l x v) c.as_slice.ensures.value (c.is_behind.ensures c.if-is_behind.true v) in
    λ y l. let r = still_listed w x v y l in (r.0, ap (λ (l : Known). known_at l y) (c.push.ensures.items ∙ e) ∙ r.1)
