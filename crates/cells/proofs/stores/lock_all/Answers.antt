use Rattle.std.proofs.Common.{◌≡◌, ◌≢◌, ℕ, ◌+◌, true, false, List, ℤ, ◌<◌, take, length, get_or, w64, sym, refl, ap, ◌∙◌, subst, arith}
use mir.Val.{of_z}
use Rattle.std.proofs.lemmas.Int.{to_z-of_z}
use Rattle.std.proofs.lemmas.List.{take_all}
use Rattle.txn_words.specs.Words.{Commit, state_value}
use Rattle.txn_words.specs.Stores.{Change, no_change, id_of, new_of, after_lock, MayLock}
use Rattle.cells.specs.Sight.{Sight, publishing, commit_of}
use Rattle.cells.specs.Publishing.{changes_of}
use Rattle.cells.specs.Private.{CellsSeat, IsSameSeat, locked_by, all_locked}
use Rattle.cells.proofs.Changes.{unwritten, none_yet}
use Rattle.cells.proofs.Writes.{differs, agrees, apart, next_stays, sets_next, count_next}
use Rattle.cells.proofs.Commits.{still_publisher}
use Rattle.cells.proofs.stores.lock_all.Goals.{then-values-write, else-values-write}
use Rattle.cells.proofs.stores.lock_all.Goals as goal

pub bounds-values-write : goal.bounds-values-write
bounds-values-write c = c.requires.writes.exist c.loop-write.write-index c.loop-write-test.true

pub lock-requires-clause-own : goal.lock-requires-clause-own
lock-requires-clause-own c = c.loop-write.invariant.0.0 ∙ c.requires.table.0.0

pub lock-requires-clause-publisher : goal.lock-requires-clause-publisher
lock-requires-clause-publisher c = still_publisher _ _ c.loop-write.invariant.1

pub lock-requires-clause-exists : goal.lock-requires-clause-exists
lock-requires-clause-exists c = omega (arith, c.requires.writes.exist c.loop-write.write-index c.loop-write-test.true, c.requires.table.1)

pub lock-requires-clause-may : goal.lock-requires-clause-may
lock-requires-clause-may c =
    let r : Commit = commit_of c.args.seat.now.me.0 in let k = c.loop-write.write-index in let m = c.args.values.now in let ws = c.args.writes.now in let x : ℕ = id_of ws k in
    let l = c.loop-write-test.true in
    let inside = subst (λ (z : List ℤ). x < length z) c.requires.present (c.requires.writes.exist k l) in
    let free : get_or (locked_by true r.locked (changes_of m (take k ws))) x false ≡ false =
    unwritten (λ (_ : Change). true) r.locked (changes_of m (take k ws)) x false (apart m ws k l c.requires.writes.ascend) ∙ c.requires.free x in
    subst (λ (d : Sight). MayLock (commit_of d) x) (sym c.loop-write.invariant.1) record { within = inside; free = free; before_values = c.requires.order.0 }

pub lock-requires-clause-version : goal.lock-requires-clause-version
lock-requires-clause-version c =
    let x : ℕ = id_of c.args.writes.now c.loop-write.write-index in
    let now = ap (λ (d : Sight). get_or (commit_of d).versions x 0) c.loop-write.invariant.1 in
    let small = c.requires.versions x in omega (arith, now, small)

pub loop-write-preserved : goal.loop-write-preserved
loop-write-preserved c =
    let r : Commit = commit_of c.args.seat.now.me.0 in let k = c.loop-write.write-index in let m = c.args.values.now in let ws = c.args.writes.now in let x : ℕ = id_of ws k in
    let l = c.loop-write-test.true in
    elim c.if-values-write.branch [
      | then-values-write w ↦
          let new : state_value m x ≢ new_of ws k = λ e. w.if-values-write.true (ap (of_z w64) e) in
          let e = differs m (get_or ws k no_change) new in
          let in_order = c.requires.order.0 ∙ sym c.requires.order.1 in
          let locked = sym (sets_next (λ (_ : Change). true) r.locked m ws k l e) in let stores = sym (count_next m ws r.stores k l e) in
          subst (λ (s : CellsSeat). IsSameSeat c.args.seat.now s × (s.me.0 ≡ publishing (all_locked (changes_of m (take (k + 1) ws)) r))) (sym w.seat-is) (
            (w.lock.ensures.seat.0 ∙ c.loop-write.invariant.0.0, w.lock.ensures.seat.1 ∙ c.loop-write.invariant.0.1),
            w.lock.ensures.told ∙ (ap (λ (d : Sight). publishing (after_lock x (commit_of d))) c.loop-write.invariant.1
                ∙ λ i. publishing (record r { locked = locked i; late = in_order i; stores = stores i })),
          )
      | else-values-write w ↦
          let old : state_value m x ≡ new_of ws k = grind (arith, to_z-of_z, w.if-values-write.false) in
          let stays = next_stays m ws k l (agrees m (get_or ws k no_change) old) in
          subst (λ (t : CellsSeat × List Change). IsSameSeat c.args.seat.now t.0 × (t.0.me.0 ≡ publishing (all_locked t.1 r))) (λ i. (sym w.seat-is i, sym stays i)) c.loop-write.invariant
    ]

pub loop-write-init : goal.loop-write-init
loop-write-init c =
    let r : Commit = commit_of c.args.seat.now.me.0 in ((refl, refl), c.requires.table.0.1 ∙ ap (λ (n : ℕ). publishing (record r { stores = n })) (none_yet r.stores))

pub returns-clause-stored : goal.returns-clause-stored
returns-clause-stored c =
    c.loop-write.invariant.1 ∙ ap (λ (z : List Change). publishing (all_locked (changes_of c.args.values.now z) (commit_of c.args.seat.now.me.0))) (take_all c.loop-write.write-index c.args.writes.now c.loop-write-test.false)
