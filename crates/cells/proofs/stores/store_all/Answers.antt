use Rattle.std.proofs.Common.{◌≡◌, ◌≢◌, ℕ, ◌+◌, ℤ, Bool, true, false, List, ◌<◌, take, length, get_or, w64, sym, refl, ap, ◌∙◌, subst, arith}
use mir.Val.{of_z}
use Rattle.std.proofs.lemmas.Int.{to_z-of_z}
use Rattle.std.proofs.lemmas.List.{take_all}
use Rattle.std.specs.Int.{cast_signed, cast_unsigned}
use Rattle.txn_words.specs.Words.{Commit, state_value}
use Rattle.txn_words.specs.Stores.{Change, no_change, id_of, new_of, with_changes, after_value, MayStore}
use Rattle.cells.specs.Sight.{Sight, publishing, commit_of}
use Rattle.cells.specs.Publishing.{changes_of}
use Rattle.cells.specs.Private.{CellsSeat, IsSameSeat, all_stored}
use Rattle.cells.proofs.Changes.{sets_length, none_yet}
use Rattle.cells.proofs.Writes.{differs, agrees, kept, next_stays, sets_next, count_next}
use Rattle.cells.proofs.Commits.{still_publisher}
use Rattle.cells.proofs.stores.store_all.Goals.{then-values-write, else-values-write}
use Rattle.cells.proofs.stores.store_all.Goals as goal

pub bounds-values-write : goal.bounds-values-write
bounds-values-write c = c.requires.writes.exist c.loop-write.write-index c.loop-write-test.true

pub store_value-requires-clause-own : goal.store_value-requires-clause-own
store_value-requires-clause-own c = c.loop-write.invariant.0.0 ∙ c.requires.table.0.0

pub store_value-requires-clause-publisher : goal.store_value-requires-clause-publisher
store_value-requires-clause-publisher c = still_publisher _ _ c.loop-write.invariant.1.1

pub store_value-requires-clause-exists : goal.store_value-requires-clause-exists
store_value-requires-clause-exists c = omega (arith, c.requires.writes.exist c.loop-write.write-index c.loop-write-test.true, c.requires.table.1)

pub store_value-requires-clause-may : goal.store_value-requires-clause-may
store_value-requires-clause-may c =
    let r : Commit = commit_of c.args.seat.now.me.0 in let k = c.loop-write.write-index in let m = c.args.values.now in let ws = c.args.writes.now in let x : ℕ = id_of ws k in
    let l = c.loop-write-test.true in
    let new : state_value m x ≢ new_of ws k = λ e. c.if-values-write.true (ap (of_z w64) e) in
    let t = kept m ws k l (differs m (get_or ws k no_change) new) in
    let locked : get_or r.locked x false ≡ true = subst (λ (d : Change). get_or r.locked d.0.0 false ≡ true) t.2 (c.requires.locked t.0 t.1).1 in
    let inside : x < length r.values = omega (arith, c.requires.writes.exist k l, c.requires.size) in
    let size : length (with_changes r.values (changes_of m (take k ws))) ≡ length r.values = sets_length (λ (d : Change). d.1) r.values (changes_of m (take k ws)) in
    subst (λ (d : Sight). MayStore (commit_of d) x) (sym c.loop-write.invariant.1.1) record { within = omega (arith, inside, size); locked = locked }

pub loop-write-preserved : goal.loop-write-preserved
loop-write-preserved c =
    let r : Commit = commit_of c.args.seat.now.me.0 in let k = c.loop-write.write-index in let m = c.args.values.now in let ws = c.args.writes.now in let x : ℕ = id_of ws k in
    let l = c.loop-write-test.true in
    elim c.if-values-write.branch [
      | then-values-write w ↦
          let new : state_value m x ≢ new_of ws k = λ e. w.if-values-write.true (ap (of_z w64) e) in
          let e = differs m (get_or ws k no_change) new in
          let is : cast_signed w64 (cast_unsigned w64 (new_of ws k)) ≡ new_of ws k = grind (arith, to_z-of_z) in
          let values = sym (sets_next (λ (d : Change). d.1) r.values m ws k l e) in let stores = sym (count_next m ws r.stores k l e) in
          subst (λ (s : CellsSeat). IsSameSeat c.args.seat.now s × ((b : Bool) × (s.me.0 ≡ publishing (all_stored b (changes_of m (take (k + 1) ws)) r)))) (sym w.seat-is) (
            (w.store_value.ensures.seat.0 ∙ c.loop-write.invariant.0.0, w.store_value.ensures.seat.1 ∙ c.loop-write.invariant.0.1),
            (
              true,
              w.store_value.ensures.told ∙ (ap (λ (z : ℤ). publishing (after_value x z (commit_of c.loop-write.seat.me.0))) is
                  ∙ (ap (λ (d : Sight). publishing (after_value x (new_of ws k) (commit_of d))) c.loop-write.invariant.1.1
                  ∙ λ i. publishing (record r { values = values i; storing = true; stores = stores i }))),
            ),
          )
      | else-values-write w ↦
          let old : state_value m x ≡ new_of ws k = grind (arith, to_z-of_z, w.if-values-write.false) in
          let stays = next_stays m ws k l (agrees m (get_or ws k no_change) old) in
          subst (λ (t : CellsSeat × List Change). IsSameSeat c.args.seat.now t.0 × ((b : Bool) × (t.0.me.0 ≡ publishing (all_stored b t.1 r)))) (λ i. (sym w.seat-is i, sym stays i)) c.loop-write.invariant
    ]

pub loop-write-init : goal.loop-write-init
loop-write-init c =
    let r : Commit = commit_of c.args.seat.now.me.0 in ((refl, refl), (r.storing, c.requires.table.0.1 ∙ ap (λ (n : ℕ). publishing (record r { stores = n })) (none_yet r.stores)))

pub returns-clause-stored : goal.returns-clause-stored
returns-clause-stored c =
    let b : Bool = c.loop-write.invariant.1.0 in
    (b, c.loop-write.invariant.1.1 ∙ ap (λ (z : List Change). publishing (all_stored b (changes_of c.args.values.now z) (commit_of c.args.seat.now.me.0))) (take_all c.loop-write.write-index c.args.writes.now c.loop-write-test.false))
