use Rattle.std.proofs.Common.{◌≡◌, ◌≢◌, ◌+◌, ◌<◌, ◌∙◌, ℤ, ℕ, List, length, sym, subst, ap, set, arith, w64}
use mir.Val.{to_z, of_z}
use Rattle.std.proofs.lemmas.Int.{to_z-of_z}
use Rattle.txn_words.specs.Words.{state_value}
use Rattle.txn_words.specs.Stores.{id_of, new_of}
use Rattle.book.specs.Changed.{AreAbove, AreListed}
use Rattle.book.specs.declared.since.Since.{Since}
use Rattle.book.specs.declared.stored.Stored.{Stored as Kept}
use Rattle.book.proofs.Changed.{listed_next}
use Rattle.book.proofs.Storing.{present_value, Stored, stored_first, stored_next, stored_same}
use Rattle.book.proofs.stored.store_listed.Goals.{then-index-write, else-index-write}
use Rattle.book.proofs.stored.store_listed.Goals as goal

-- what holds of both holds of what they are
moved : (both : Kept → Since → Type 0) (p q : Kept) (s t : Since) → p ≡ q → s ≡ t → both q t → both p s
moved both p q s t e f h = subst (λ (z : Kept). both z s) (sym e) (subst (λ (z : Since). both q z) (sym f) h)

pub loop-write-init : goal.loop-write-init
loop-write-init c =
    (stored_first c.args.number c.args.writes.now c.args.present.now.values.items c.args.present.now.versions.items c.requires.sizes, c.requires.since)

pub loop-write-preserved : goal.loop-write-preserved
loop-write-preserved c =
    let writes = c.args.writes.now in
    let i = c.loop-write.write-index in
    let n = c.args.number in
    let x = id_of writes i in
    let old = c.args.present.now.values.items in
    let was = c.args.present.now.versions.items in
    let base = c.args.base.now in
    let values = c.loop-write.present.values.items in
    let versions = c.loop-write.present.versions.items in
    let so_far = c.loop-write.invariant.0 in
    let both : Kept → Since → Type 0 = λ p s. Stored n writes old was (i + 1) p.values.items p.versions.items × AreListed base p.values.items p.versions.items s in
    let exact : to_z w64 (of_z w64 (new_of writes i)) ≡ new_of writes i = grind (arith, to_z-of_z) in
    let within : x < length values = omega (arith, c.requires.writes.exist i c.loop-write-test.true, so_far.size) in
    let read : state_value values x ≡ c.index.result.now = present_value values x c.index.result.now within c.index.ensures in
    elim c.if-index-write.branch [
      | then-index-write w ↦
          let changed : state_value values x ≢ new_of writes i = λ e. w.if-index-write.true (ap (of_z w64) (sym read ∙ e)) in
          let known : x < length versions = omega (arith, c.requires.writes.exist i c.loop-write-test.true, so_far.versions_size) in
          let of_base = subst (λ (vs : List ℕ). AreAbove base.number (set vs x n) w.note.new.list.items) w.deref.ensures.value (w.note.ensures.listed n c.requires.later) in
          let of_chapter = subst (λ (vs : List ℕ). AreAbove 0 (set vs x n) w.note-then-index-write.new.list.items) w.deref-then-index-write.ensures.value (w.note-then-index-write.ensures.listed n (omega (arith, c.requires.later))) in
          let now : Since = record c.loop-write.since { base = w.note.new.list; chapter = w.note-then-index-write.new.list } in
          moved both _ _ _ _ w.present-is w.since-is (
            subst (λ (v : ℤ). Stored n writes old was (i + 1) (set values x v) (set versions x n)) (sym exact) (stored_next n writes old was i values versions c.requires.writes c.loop-write-test.true changed so_far),
            listed_next base values versions c.loop-write.since now x n (to_z w64 (of_z w64 (new_of writes i))) c.loop-write.invariant.1 known (omega (arith, so_far.size, so_far.versions_size)) c.requires.later of_base of_chapter w.note.ensures.capacity w.note-then-index-write.ensures.capacity,
          )
      | else-index-write w ↦
          let agrees : c.index.result.now ≡ new_of writes i = grind (arith, to_z-of_z, w.if-index-write.false) in
          let same : state_value values x ≡ new_of writes i = read ∙ agrees in
          moved both _ _ _ _ w.present-is w.since-is (stored_same n writes old was i values versions c.loop-write-test.true same so_far, c.loop-write.invariant.1)
    ]
