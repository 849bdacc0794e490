use Rattle.std.proofs.Common.{◌≡◌, ◌≢◌, ℕ, ◌+◌, ◌-◌, true, false, List, take, length, set, get_or, w64, sym, refl, ap, ◌∙◌, subst, arith}
use mir.Val.{of_z}
use Rattle.std.proofs.lemmas.Int.{to_z-of_z}
use Rattle.std.proofs.lemmas.List.{take_all}
use Rattle.txn_words.specs.Words.{Commit, state_value, state_of, last_state}
use Rattle.txn_words.specs.Stores.{Change, no_change, id_of, new_of, after_release, MayRelease}
use Rattle.cells.specs.Sight.{Sight, publishing, commit_of}
use Rattle.cells.specs.Publishing.{changes_of}
use Rattle.cells.specs.Private.{CellsSeat, IsSameSeat, locked_by, numbered_by, all_released}
use Rattle.cells.proofs.Changes.{unwritten, none_yet}
use Rattle.cells.proofs.Writes.{differs, agrees, kept, apart, next_stays, sets_next, count_next}
use Rattle.cells.proofs.Commits.{still_publisher}
use Rattle.cells.proofs.stores.release_all.Goals.{then-values-write, else-values-write}
use Rattle.cells.proofs.stores.release_all.Goals as goal

pub bounds-values-write : goal.bounds-values-write
bounds-values-write c = c.requires.writes.exist c.loop-write.write-index c.loop-write-test.true

pub release_version-requires-clause-own : goal.release_version-requires-clause-own
release_version-requires-clause-own c = c.loop-write.invariant.0.0 ∙ c.requires.table.0.0

pub release_version-requires-clause-publisher : goal.release_version-requires-clause-publisher
release_version-requires-clause-publisher c = still_publisher _ _ c.loop-write.invariant.1

pub release_version-requires-clause-exists : goal.release_version-requires-clause-exists
release_version-requires-clause-exists c = omega (arith, c.requires.writes.exist c.loop-write.write-index c.loop-write-test.true, c.requires.table.1)

pub release_version-requires-clause-may : goal.release_version-requires-clause-may
release_version-requires-clause-may c =
    let r : Commit = commit_of c.args.seat.now.me.0 in let k = c.loop-write.write-index in let m = c.args.values.now in let ws = c.args.writes.now in let x : ℕ = id_of ws k in
    let n : ℕ = c.args.number in let many = c.requires.number in let l = c.loop-write-test.true in
    let new : state_value m x ≢ new_of ws k = λ e. c.if-values-write.true (ap (of_z w64) e) in
    let cs : List Change = changes_of m (take k ws) in
    let t = kept m ws k l (differs m (get_or ws k no_change) new) in
    let far = apart m ws k l c.requires.writes.ascend in
    let was : get_or r.locked x false ≡ true = subst (λ (d : Change). get_or r.locked d.0.0 false ≡ true) t.2 (c.requires.locked t.0 t.1).1 in
    let lock : get_or (locked_by false r.locked cs) x false ≡ true = unwritten (λ (_ : Change). false) r.locked cs x false far ∙ was in
    let version : get_or (numbered_by n r.versions cs) x 0 ≡ get_or r.versions x 0 = unwritten (λ (_ : Change). n) r.versions cs x 0 far in
    let moved : state_value (last_state r.history) x ≢ state_value (state_of r.history (n - 1)) x =
    subst (λ (d : Change). state_value (last_state r.history) d.0.0 ≢ state_value (state_of r.history (n - 1)) d.0.0) t.2 (c.requires.changed t.0 t.1) in
    subst (λ (d : Sight). MayRelease (commit_of d) x) (sym c.loop-write.invariant.1) record {
      within = omega (arith, c.requires.writes.exist k l, c.requires.size);
      locked = lock;
      after_clock = c.requires.moved;
      older = let old = c.requires.versions x in omega arith;
      changed = subst (λ (z : ℕ). state_value (last_state r.history) x ≢ state_value (state_of r.history (z - 1)) x) (omega arith) moved;
    }

pub release_version-requires-clause-number : goal.release_version-requires-clause-number
release_version-requires-clause-number c =
    (subst (λ (d : Sight). c.args.number + 1 ≡ length (commit_of d).history) (sym c.loop-write.invariant.1) c.requires.number.0, c.requires.number.1)

pub loop-write-preserved : goal.loop-write-preserved
loop-write-preserved c =
    let r : Commit = commit_of c.args.seat.now.me.0 in let k = c.loop-write.write-index in let m = c.args.values.now in let ws = c.args.writes.now in let x : ℕ = id_of ws k in
    let n : ℕ = c.args.number in let many = c.requires.number in let l = c.loop-write-test.true in
    elim c.if-values-write.branch [
      | then-values-write w ↦
          let new : state_value m x ≢ new_of ws k = λ e. w.if-values-write.true (ap (of_z w64) e) in
          let e = differs m (get_or ws k no_change) new in
          let now : Commit = all_released n (changes_of m (take k ws)) r in
          let last : length r.history - 1 ≡ n = omega arith in
          let locked = sym (sets_next (λ (_ : Change). false) r.locked m ws k l e) in let versions = sym (sets_next (λ (_ : Change). n) r.versions m ws k l e) in
          let stores = sym (count_next m ws r.stores k l e) in
          subst (λ (s : CellsSeat). IsSameSeat c.args.seat.now s × (s.me.0 ≡ publishing (all_released n (changes_of m (take (k + 1) ws)) r))) (sym w.seat-is) (
            (w.release_version.ensures.seat.0 ∙ c.loop-write.invariant.0.0, w.release_version.ensures.seat.1 ∙ c.loop-write.invariant.0.1),
            w.release_version.ensures.told ∙ (ap (λ (d : Sight). publishing (after_release x (commit_of d))) c.loop-write.invariant.1
                ∙ (ap (λ (z : ℕ). publishing (record (after_release x now) { versions = set now.versions x z })) last ∙ λ i. publishing (record r { locked = locked i; versions = versions i; stores = stores i }))),
          )
      | else-values-write w ↦
          let old : state_value m x ≡ new_of ws k = grind (arith, to_z-of_z, w.if-values-write.false) in
          let stays = next_stays m ws k l (agrees m (get_or ws k no_change) old) in
          subst (λ (t : CellsSeat × List Change). IsSameSeat c.args.seat.now t.0 × (t.0.me.0 ≡ publishing (all_released n t.1 r))) (λ i. (sym w.seat-is i, sym stays i)) c.loop-write.invariant
    ]

pub loop-write-init : goal.loop-write-init
loop-write-init c =
    let r : Commit = commit_of c.args.seat.now.me.0 in ((refl, refl), c.requires.table.0.1 ∙ ap (λ (n : ℕ). publishing (record r { stores = n })) (none_yet r.stores))

pub returns-clause-stored : goal.returns-clause-stored
returns-clause-stored c =
    c.loop-write.invariant.1
    ∙ ap (λ (z : List Change). publishing (all_released c.args.number (changes_of c.args.values.now z) (commit_of c.args.seat.now.me.0))) (take_all c.loop-write.write-index c.args.writes.now c.loop-write-test.false)
