use Rattle.std.proofs.Common.{◌≡◌, ◌≢◌, ℕ, ◌+◌, ◌-◌, ◌*◌, ◌<◌, [], ◌∷◌, ◌++◌, Bool, true, false, List, ℤ, length, get_or, sym, ap, ◌∙◌, subst, arith}
use Rattle.txn_words.specs.Words.{Commit, state_value, state_of, last_state}
use Rattle.txn_words.specs.Stores.{Change, AreChanges, with_changes, id_of, after_clock}
use Rattle.cells.specs.Sight.{publishing, commit_of}
use Rattle.cells.specs.Cells.{CellsId}
use Rattle.cells.specs.Publishing.{stores_of, IsResting, AreWrites, changes_of}
use Rattle.cells.specs.Private.{all_locked, all_stored, all_released}
use Rattle.cells.proofs.Writes.{are_changes, changes_enough}
use Rattle.cells.proofs.Commits.{still_publisher}
use Rattle.cells.proofs.Publish.{stored, counted, released, inside, each_locked, each_differs, same_size, longer_by_one, rests_again}
use Rattle.cells.proofs.writer.Writer.publish.Goals as goal

-- the values are the last state of the history, by either of its names
present : (h h' : List (List ℤ)) (m : List ℤ) → h ≡ h' → m ≡ last_state h' → m ≡ last_state h
present h h' m e is = is ∙ ap last_state (sym e)

written : (h' : List (List ℤ)) (m : List ℤ) (ws : List Change) → m ≡ last_state h' → AreWrites (last_state h') ws → AreWrites m ws
written h' m ws is a = subst (λ (z : List ℤ). AreWrites z ws) (sym is) a

changes_there : (h h' : List (List ℤ)) (m : List ℤ) (ws : List Change) → h ≡ h' → m ≡ last_state h' → AreWrites (last_state h') ws → AreChanges (last_state h) (changes_of m ws)
changes_there h h' m ws e is a = subst (λ (z : List ℤ). AreChanges z (changes_of m ws)) (present h h' m e is) (are_changes m ws (written h' m ws is a))

pub lock_all-requires-clause-table : goal.lock_all-requires-clause-table
lock_all-requires-clause-table c =
    let c0 : Commit = commit_of c.self.inside.seat.me.0 in let n : ℕ = c.self.inside.number in let m : List ℤ = c.args.values.now in let cs : List Change = changes_of m c.args.writes.now in
    let r : IsResting c0 n = c.self.invariant.1 in let same = ap (λ v. v.history) c.self.view_is in
    let ids = ap (λ v. v.cells) c.self.view_is ∙ (c.requires.own ∙ sym c.cells.view_is) in let table = ap (λ (z : CellsId). z.table) ids in let count = ap (λ (z : CellsId). z.variables) ids in
    let size : length c0.values ≡ length m = ap length (sym (present c0.history c.args.self.now.history m same c.requires.present ∙ sym r.settled.1)) in
    ((table, c.self.invariant.0), sym count ∙ size)

pub lock_all-requires-clause-present : goal.lock_all-requires-clause-present
lock_all-requires-clause-present c =
    let c0 : Commit = commit_of c.self.inside.seat.me.0 in let n : ℕ = c.self.inside.number in let m : List ℤ = c.args.values.now in let cs : List Change = changes_of m c.args.writes.now in
    let r : IsResting c0 n = c.self.invariant.1 in let same = ap (λ v. v.history) c.self.view_is in
    present c0.history c.args.self.now.history m same c.requires.present ∙ sym r.settled.1

pub lock_all-requires-clause-writes : goal.lock_all-requires-clause-writes
lock_all-requires-clause-writes c =
    written c.args.self.now.history c.args.values.now c.args.writes.now c.requires.present c.requires.writes

pub lock_all-requires-clause-free : goal.lock_all-requires-clause-free
lock_all-requires-clause-free c =
    let c0 : Commit = commit_of c.self.inside.seat.me.0 in let n : ℕ = c.self.inside.number in let m : List ℤ = c.args.values.now in let cs : List Change = changes_of m c.args.writes.now in
    let r : IsResting c0 n = c.self.invariant.1 in let same = ap (λ v. v.history) c.self.view_is in
    r.free

pub lock_all-requires-clause-order : goal.lock_all-requires-clause-order
lock_all-requires-clause-order c =
    let c0 : Commit = commit_of c.self.inside.seat.me.0 in let n : ℕ = c.self.inside.number in let m : List ℤ = c.args.values.now in let cs : List Change = changes_of m c.args.writes.now in
    let r : IsResting c0 n = c.self.invariant.1 in let same = ap (λ v. v.history) c.self.view_is in
    (r.settled.0, r.in_order)

pub lock_all-requires-clause-versions : goal.lock_all-requires-clause-versions
lock_all-requires-clause-versions c x =
    let c0 : Commit = commit_of c.self.inside.seat.me.0 in let n : ℕ = c.self.inside.number in let m : List ℤ = c.args.values.now in let cs : List Change = changes_of m c.args.writes.now in
    let r : IsResting c0 n = c.self.invariant.1 in let same = ap (λ v. v.history) c.self.view_is in
    let many = r.counted in let room = c.requires.room in let as_long = ap (λ (z : List (List ℤ)). length z) same in let old = r.past x in omega (arith, old, many, room, as_long)

pub store_all-requires-clause-table : goal.store_all-requires-clause-table
store_all-requires-clause-table c =
    let c0 : Commit = commit_of c.self.inside.seat.me.0 in let n : ℕ = c.self.inside.number in let m : List ℤ = c.args.values.now in let cs : List Change = changes_of m c.args.writes.now in
    let r : IsResting c0 n = c.self.invariant.1 in let same = ap (λ v. v.history) c.self.view_is in
    let ids = ap (λ v. v.cells) c.self.view_is ∙ (c.requires.own ∙ sym c.cells.view_is) in let table = ap (λ (z : CellsId). z.table) ids in let count = ap (λ (z : CellsId). z.variables) ids in
    let size : length c0.values ≡ length m = ap length (sym (present c0.history c.args.self.now.history m same c.requires.present ∙ sym r.settled.1)) in
    ((c.lock_all.ensures.seat.0 ∙ table, still_publisher _ _ c.lock_all.ensures.stored), sym count ∙ size)

pub store_all-requires-clause-size : goal.store_all-requires-clause-size
store_all-requires-clause-size c =
    let c0 : Commit = commit_of c.self.inside.seat.me.0 in let n : ℕ = c.self.inside.number in let m : List ℤ = c.args.values.now in let cs : List Change = changes_of m c.args.writes.now in
    let r : IsResting c0 n = c.self.invariant.1 in let same = ap (λ v. v.history) c.self.view_is in
    let ids = ap (λ v. v.cells) c.self.view_is ∙ (c.requires.own ∙ sym c.cells.view_is) in let table = ap (λ (z : CellsId). z.table) ids in let count = ap (λ (z : CellsId). z.variables) ids in
    let size : length c0.values ≡ length m = ap length (sym (present c0.history c.args.self.now.history m same c.requires.present ∙ sym r.settled.1)) in
    let e1 : commit_of c.lock_all.new.seat.me.0 ≡ all_locked cs c0 = ap commit_of c.lock_all.ensures.stored in
    ap (λ (z : Commit). length z.values) e1 ∙ size

pub store_all-requires-clause-writes : goal.store_all-requires-clause-writes
store_all-requires-clause-writes c =
    written c.args.self.now.history c.args.values.now c.args.writes.now c.requires.present c.requires.writes

pub store_all-requires-clause-locked : goal.store_all-requires-clause-locked
store_all-requires-clause-locked c i l =
    let c0 : Commit = commit_of c.self.inside.seat.me.0 in let n : ℕ = c.self.inside.number in let m : List ℤ = c.args.values.now in let cs : List Change = changes_of m c.args.writes.now in
    let r : IsResting c0 n = c.self.invariant.1 in let same = ap (λ v. v.history) c.self.view_is in
    let a : AreChanges (last_state c0.history) cs = changes_there c0.history c.args.self.now.history m c.args.writes.now same c.requires.present c.requires.writes in
    let e1 : commit_of c.lock_all.new.seat.me.0 ≡ all_locked cs c0 = ap commit_of c.lock_all.ensures.stored in
    subst (λ (z : Commit). (id_of cs i < length z.values) × (get_or z.locked (id_of cs i) false ≡ true)) (sym e1) (inside c0 n cs r a i l, each_locked c0 n cs r a i l)

pub store_clock-requires-clause-own : goal.store_clock-requires-clause-own
store_clock-requires-clause-own c =
    let c0 : Commit = commit_of c.self.inside.seat.me.0 in let n : ℕ = c.self.inside.number in let m : List ℤ = c.args.values.now in let cs : List Change = changes_of m c.args.writes.now in
    let r : IsResting c0 n = c.self.invariant.1 in let same = ap (λ v. v.history) c.self.view_is in
    let ids = ap (λ v. v.cells) c.self.view_is ∙ (c.requires.own ∙ sym c.cells.view_is) in let table = ap (λ (z : CellsId). z.table) ids in let count = ap (λ (z : CellsId). z.variables) ids in
    let size : length c0.values ≡ length m = ap length (sym (present c0.history c.args.self.now.history m same c.requires.present ∙ sym r.settled.1)) in
    c.store_all.ensures.seat.0 ∙ (c.lock_all.ensures.seat.0 ∙ table)

pub store_clock-requires-clause-publisher : goal.store_clock-requires-clause-publisher
store_clock-requires-clause-publisher c = still_publisher _ _ c.store_all.ensures.stored.1

pub store_clock-requires-clause-number : goal.store_clock-requires-clause-number
store_clock-requires-clause-number c =
    let c0 : Commit = commit_of c.self.inside.seat.me.0 in let n : ℕ = c.self.inside.number in let m : List ℤ = c.args.values.now in let cs : List Change = changes_of m c.args.writes.now in
    let r : IsResting c0 n = c.self.invariant.1 in let same = ap (λ v. v.history) c.self.view_is in
    let e1 : commit_of c.lock_all.new.seat.me.0 ≡ all_locked cs c0 = ap commit_of c.lock_all.ensures.stored in
    let b : Bool = c.store_all.ensures.stored.0 in
    let is2 : c.store_all.new.seat.me.0 ≡ publishing (stored c0 cs b) = c.store_all.ensures.stored.1 ∙ ap (λ (z : Commit). publishing (all_stored b cs z)) e1 in
    let e2 : commit_of c.store_all.new.seat.me.0 ≡ stored c0 cs b = ap commit_of is2 in
    subst (λ (z : Commit). n + 1 ≡ length z.history) (sym e2) r.counted

pub release_all-requires-clause-table : goal.release_all-requires-clause-table
release_all-requires-clause-table c =
    let c0 : Commit = commit_of c.self.inside.seat.me.0 in let n : ℕ = c.self.inside.number in let m : List ℤ = c.args.values.now in let cs : List Change = changes_of m c.args.writes.now in
    let r : IsResting c0 n = c.self.invariant.1 in let same = ap (λ v. v.history) c.self.view_is in
    let ids = ap (λ v. v.cells) c.self.view_is ∙ (c.requires.own ∙ sym c.cells.view_is) in let table = ap (λ (z : CellsId). z.table) ids in let count = ap (λ (z : CellsId). z.variables) ids in
    let size : length c0.values ≡ length m = ap length (sym (present c0.history c.args.self.now.history m same c.requires.present ∙ sym r.settled.1)) in
    let e1 : commit_of c.lock_all.new.seat.me.0 ≡ all_locked cs c0 = ap commit_of c.lock_all.ensures.stored in
    let b : Bool = c.store_all.ensures.stored.0 in
    let is2 : c.store_all.new.seat.me.0 ≡ publishing (stored c0 cs b) = c.store_all.ensures.stored.1 ∙ ap (λ (z : Commit). publishing (all_stored b cs z)) e1 in
    let e2 : commit_of c.store_all.new.seat.me.0 ≡ stored c0 cs b = ap commit_of is2 in
    let is3 : c.store_clock.new.seat.me.0 ≡ publishing (counted c0 cs) = c.store_clock.ensures.told ∙ ap (λ (z : Commit). publishing (after_clock z)) e2 in
    let e3 : commit_of c.store_clock.new.seat.me.0 ≡ counted c0 cs = ap commit_of is3 in
    ((c.store_clock.ensures.seat.0 ∙ (c.store_all.ensures.seat.0 ∙ (c.lock_all.ensures.seat.0 ∙ table)), still_publisher _ _ is3), sym count ∙ size)

pub release_all-requires-clause-size : goal.release_all-requires-clause-size
release_all-requires-clause-size c =
    let c0 : Commit = commit_of c.self.inside.seat.me.0 in let n : ℕ = c.self.inside.number in let m : List ℤ = c.args.values.now in let cs : List Change = changes_of m c.args.writes.now in
    let r : IsResting c0 n = c.self.invariant.1 in let same = ap (λ v. v.history) c.self.view_is in
    let a : AreChanges (last_state c0.history) cs = changes_there c0.history c.args.self.now.history m c.args.writes.now same c.requires.present c.requires.writes in
    let ids = ap (λ v. v.cells) c.self.view_is ∙ (c.requires.own ∙ sym c.cells.view_is) in let table = ap (λ (z : CellsId). z.table) ids in let count = ap (λ (z : CellsId). z.variables) ids in
    let size : length c0.values ≡ length m = ap length (sym (present c0.history c.args.self.now.history m same c.requires.present ∙ sym r.settled.1)) in
    let e1 : commit_of c.lock_all.new.seat.me.0 ≡ all_locked cs c0 = ap commit_of c.lock_all.ensures.stored in
    let b : Bool = c.store_all.ensures.stored.0 in
    let is2 : c.store_all.new.seat.me.0 ≡ publishing (stored c0 cs b) = c.store_all.ensures.stored.1 ∙ ap (λ (z : Commit). publishing (all_stored b cs z)) e1 in
    let e2 : commit_of c.store_all.new.seat.me.0 ≡ stored c0 cs b = ap commit_of is2 in
    let is3 : c.store_clock.new.seat.me.0 ≡ publishing (counted c0 cs) = c.store_clock.ensures.told ∙ ap (λ (z : Commit). publishing (after_clock z)) e2 in
    let e3 : commit_of c.store_clock.new.seat.me.0 ≡ counted c0 cs = ap commit_of is3 in
    ap (λ (z : Commit). length z.values) e3 ∙ (same_size c0 n cs r a ∙ size)

pub release_all-requires-clause-writes : goal.release_all-requires-clause-writes
release_all-requires-clause-writes c =
    written c.args.self.now.history c.args.values.now c.args.writes.now c.requires.present c.requires.writes

pub release_all-requires-clause-locked : goal.release_all-requires-clause-locked
release_all-requires-clause-locked c i l =
    let c0 : Commit = commit_of c.self.inside.seat.me.0 in let n : ℕ = c.self.inside.number in let m : List ℤ = c.args.values.now in let cs : List Change = changes_of m c.args.writes.now in
    let r : IsResting c0 n = c.self.invariant.1 in let same = ap (λ v. v.history) c.self.view_is in
    let a : AreChanges (last_state c0.history) cs = changes_there c0.history c.args.self.now.history m c.args.writes.now same c.requires.present c.requires.writes in
    let e1 : commit_of c.lock_all.new.seat.me.0 ≡ all_locked cs c0 = ap commit_of c.lock_all.ensures.stored in
    let b : Bool = c.store_all.ensures.stored.0 in
    let is2 : c.store_all.new.seat.me.0 ≡ publishing (stored c0 cs b) = c.store_all.ensures.stored.1 ∙ ap (λ (z : Commit). publishing (all_stored b cs z)) e1 in
    let e2 : commit_of c.store_all.new.seat.me.0 ≡ stored c0 cs b = ap commit_of is2 in
    let is3 : c.store_clock.new.seat.me.0 ≡ publishing (counted c0 cs) = c.store_clock.ensures.told ∙ ap (λ (z : Commit). publishing (after_clock z)) e2 in
    let e3 : commit_of c.store_clock.new.seat.me.0 ≡ counted c0 cs = ap commit_of is3 in
    subst (λ (z : Commit). (id_of cs i < length z.values) × (get_or z.locked (id_of cs i) false ≡ true)) (sym e3)
    ((let many = same_size c0 n cs r a in let low = inside c0 n cs r a i l in omega arith), each_locked c0 n cs r a i l)

pub release_all-requires-clause-moved : goal.release_all-requires-clause-moved
release_all-requires-clause-moved c =
    let c0 : Commit = commit_of c.self.inside.seat.me.0 in let n : ℕ = c.self.inside.number in let m : List ℤ = c.args.values.now in let cs : List Change = changes_of m c.args.writes.now in
    let r : IsResting c0 n = c.self.invariant.1 in let same = ap (λ v. v.history) c.self.view_is in
    let e1 : commit_of c.lock_all.new.seat.me.0 ≡ all_locked cs c0 = ap commit_of c.lock_all.ensures.stored in
    let b : Bool = c.store_all.ensures.stored.0 in
    let is2 : c.store_all.new.seat.me.0 ≡ publishing (stored c0 cs b) = c.store_all.ensures.stored.1 ∙ ap (λ (z : Commit). publishing (all_stored b cs z)) e1 in
    let e2 : commit_of c.store_all.new.seat.me.0 ≡ stored c0 cs b = ap commit_of is2 in
    let is3 : c.store_clock.new.seat.me.0 ≡ publishing (counted c0 cs) = c.store_clock.ensures.told ∙ ap (λ (z : Commit). publishing (after_clock z)) e2 in
    let e3 : commit_of c.store_clock.new.seat.me.0 ≡ counted c0 cs = ap commit_of is3 in
    ap (λ (z : Commit). z.storing) e3

pub release_all-requires-clause-changed : goal.release_all-requires-clause-changed
release_all-requires-clause-changed c =
    let c0 : Commit = commit_of c.self.inside.seat.me.0 in let n : ℕ = c.self.inside.number in let m : List ℤ = c.args.values.now in let cs : List Change = changes_of m c.args.writes.now in
    let r : IsResting c0 n = c.self.invariant.1 in let same = ap (λ v. v.history) c.self.view_is in
    let a : AreChanges (last_state c0.history) cs = changes_there c0.history c.args.self.now.history m c.args.writes.now same c.requires.present c.requires.writes in
    let e1 : commit_of c.lock_all.new.seat.me.0 ≡ all_locked cs c0 = ap commit_of c.lock_all.ensures.stored in
    let b : Bool = c.store_all.ensures.stored.0 in
    let is2 : c.store_all.new.seat.me.0 ≡ publishing (stored c0 cs b) = c.store_all.ensures.stored.1 ∙ ap (λ (z : Commit). publishing (all_stored b cs z)) e1 in
    let e2 : commit_of c.store_all.new.seat.me.0 ≡ stored c0 cs b = ap commit_of is2 in
    let is3 : c.store_clock.new.seat.me.0 ≡ publishing (counted c0 cs) = c.store_clock.ensures.told ∙ ap (λ (z : Commit). publishing (after_clock z)) e2 in
    let e3 : commit_of c.store_clock.new.seat.me.0 ≡ counted c0 cs = ap commit_of is3 in
    subst (λ (z : Commit). (i : ℕ) → i < length cs → state_value (last_state z.history) (id_of cs i) ≢ state_value (state_of z.history (n + 1 - 1)) (id_of cs i)) (sym e3) (each_differs c0 n cs r a)

pub release_all-requires-clause-versions : goal.release_all-requires-clause-versions
release_all-requires-clause-versions c =
    let c0 : Commit = commit_of c.self.inside.seat.me.0 in let n : ℕ = c.self.inside.number in let m : List ℤ = c.args.values.now in let cs : List Change = changes_of m c.args.writes.now in
    let r : IsResting c0 n = c.self.invariant.1 in let same = ap (λ v. v.history) c.self.view_is in
    let e1 : commit_of c.lock_all.new.seat.me.0 ≡ all_locked cs c0 = ap commit_of c.lock_all.ensures.stored in
    let b : Bool = c.store_all.ensures.stored.0 in
    let is2 : c.store_all.new.seat.me.0 ≡ publishing (stored c0 cs b) = c.store_all.ensures.stored.1 ∙ ap (λ (z : Commit). publishing (all_stored b cs z)) e1 in
    let e2 : commit_of c.store_all.new.seat.me.0 ≡ stored c0 cs b = ap commit_of is2 in
    let is3 : c.store_clock.new.seat.me.0 ≡ publishing (counted c0 cs) = c.store_clock.ensures.told ∙ ap (λ (z : Commit). publishing (after_clock z)) e2 in
    let e3 : commit_of c.store_clock.new.seat.me.0 ≡ counted c0 cs = ap commit_of is3 in
    subst (λ (z : Commit). (x : ℕ) → get_or z.versions x 0 < n + 1) (sym e3) (λ x. let old = r.past x in omega arith)

pub release_all-requires-clause-number : goal.release_all-requires-clause-number
release_all-requires-clause-number c =
    let c0 : Commit = commit_of c.self.inside.seat.me.0 in let n : ℕ = c.self.inside.number in let m : List ℤ = c.args.values.now in let cs : List Change = changes_of m c.args.writes.now in
    let r : IsResting c0 n = c.self.invariant.1 in let same = ap (λ v. v.history) c.self.view_is in
    let a : AreChanges (last_state c0.history) cs = changes_there c0.history c.args.self.now.history m c.args.writes.now same c.requires.present c.requires.writes in
    let e1 : commit_of c.lock_all.new.seat.me.0 ≡ all_locked cs c0 = ap commit_of c.lock_all.ensures.stored in
    let b : Bool = c.store_all.ensures.stored.0 in
    let is2 : c.store_all.new.seat.me.0 ≡ publishing (stored c0 cs b) = c.store_all.ensures.stored.1 ∙ ap (λ (z : Commit). publishing (all_stored b cs z)) e1 in
    let e2 : commit_of c.store_all.new.seat.me.0 ≡ stored c0 cs b = ap commit_of is2 in
    let is3 : c.store_clock.new.seat.me.0 ≡ publishing (counted c0 cs) = c.store_clock.ensures.told ∙ ap (λ (z : Commit). publishing (after_clock z)) e2 in
    let e3 : commit_of c.store_clock.new.seat.me.0 ≡ counted c0 cs = ap commit_of is3 in
    let many = r.counted in let room = c.requires.room in let as_long = ap (λ (z : List (List ℤ)). length z) same in
    (subst (λ (z : Commit). n + 1 + 1 ≡ length z.history) (sym e3) (longer_by_one c0 n cs r a), omega arith)

pub invariant_of-self : goal.invariant_of-self
invariant_of-self c =
    let c0 : Commit = commit_of c.self.inside.seat.me.0 in let n : ℕ = c.self.inside.number in let m : List ℤ = c.args.values.now in let cs : List Change = changes_of m c.args.writes.now in
    let r : IsResting c0 n = c.self.invariant.1 in let same = ap (λ v. v.history) c.self.view_is in
    let a : AreChanges (last_state c0.history) cs = changes_there c0.history c.args.self.now.history m c.args.writes.now same c.requires.present c.requires.writes in
    let e1 : commit_of c.lock_all.new.seat.me.0 ≡ all_locked cs c0 = ap commit_of c.lock_all.ensures.stored in
    let b : Bool = c.store_all.ensures.stored.0 in
    let is2 : c.store_all.new.seat.me.0 ≡ publishing (stored c0 cs b) = c.store_all.ensures.stored.1 ∙ ap (λ (z : Commit). publishing (all_stored b cs z)) e1 in
    let e2 : commit_of c.store_all.new.seat.me.0 ≡ stored c0 cs b = ap commit_of is2 in
    let is3 : c.store_clock.new.seat.me.0 ≡ publishing (counted c0 cs) = c.store_clock.ensures.told ∙ ap (λ (z : Commit). publishing (after_clock z)) e2 in
    let e3 : commit_of c.store_clock.new.seat.me.0 ≡ counted c0 cs = ap commit_of is3 in
    let is4 : c.release_all.new.seat.me.0 ≡ publishing (released c0 cs (n + 1)) = c.release_all.ensures.stored ∙ ap (λ (z : Commit). publishing (all_released (n + 1) cs z)) e3 in
    let e4 : commit_of c.release_all.new.seat.me.0 ≡ released c0 cs (n + 1) = ap commit_of is4 in
    (is4 ∙ sym (ap publishing e4), subst (λ (z : Commit). IsResting z (n + 1)) (sym e4) (rests_again c0 n cs r a))

pub returns-clause-cells : goal.returns-clause-cells
returns-clause-cells c =
    let c0 : Commit = commit_of c.self.inside.seat.me.0 in let n : ℕ = c.self.inside.number in let m : List ℤ = c.args.values.now in let cs : List Change = changes_of m c.args.writes.now in
    let r : IsResting c0 n = c.self.invariant.1 in let same = ap (λ v. v.history) c.self.view_is in
    let a : AreChanges (last_state c0.history) cs = changes_there c0.history c.args.self.now.history m c.args.writes.now same c.requires.present c.requires.writes in
    let e1 : commit_of c.lock_all.new.seat.me.0 ≡ all_locked cs c0 = ap commit_of c.lock_all.ensures.stored in
    let b : Bool = c.store_all.ensures.stored.0 in
    let is2 : c.store_all.new.seat.me.0 ≡ publishing (stored c0 cs b) = c.store_all.ensures.stored.1 ∙ ap (λ (z : Commit). publishing (all_stored b cs z)) e1 in
    let e2 : commit_of c.store_all.new.seat.me.0 ≡ stored c0 cs b = ap commit_of is2 in
    let is3 : c.store_clock.new.seat.me.0 ≡ publishing (counted c0 cs) = c.store_clock.ensures.told ∙ ap (λ (z : Commit). publishing (after_clock z)) e2 in
    let e3 : commit_of c.store_clock.new.seat.me.0 ≡ counted c0 cs = ap commit_of is3 in
    let is4 : c.release_all.new.seat.me.0 ≡ publishing (released c0 cs (n + 1)) = c.release_all.ensures.stored ∙ ap (λ (z : Commit). publishing (all_released (n + 1) cs z)) e3 in
    let e4 : commit_of c.release_all.new.seat.me.0 ≡ released c0 cs (n + 1) = ap commit_of is4 in
    let size : length (commit_of c.release_all.new.seat.me.0).values ≡ length c0.values = ap (λ (z : Commit). length z.values) e4 ∙ same_size c0 n cs r a in
    let place = c.release_all.ensures.seat.0 ∙ (c.store_clock.ensures.seat.0 ∙ (c.store_all.ensures.seat.0 ∙ c.lock_all.ensures.seat.0)) in
    (λ i. record { table = place i; variables = size i; are_read = true }) ∙ ap (λ v. v.cells) c.self.view_is

pub returns-clause-history : goal.returns-clause-history
returns-clause-history c =
    let c0 : Commit = commit_of c.self.inside.seat.me.0 in let n : ℕ = c.self.inside.number in let m : List ℤ = c.args.values.now in let cs : List Change = changes_of m c.args.writes.now in
    let r : IsResting c0 n = c.self.invariant.1 in let same = ap (λ v. v.history) c.self.view_is in
    let e1 : commit_of c.lock_all.new.seat.me.0 ≡ all_locked cs c0 = ap commit_of c.lock_all.ensures.stored in
    let b : Bool = c.store_all.ensures.stored.0 in
    let is2 : c.store_all.new.seat.me.0 ≡ publishing (stored c0 cs b) = c.store_all.ensures.stored.1 ∙ ap (λ (z : Commit). publishing (all_stored b cs z)) e1 in
    let e2 : commit_of c.store_all.new.seat.me.0 ≡ stored c0 cs b = ap commit_of is2 in
    let is3 : c.store_clock.new.seat.me.0 ≡ publishing (counted c0 cs) = c.store_clock.ensures.told ∙ ap (λ (z : Commit). publishing (after_clock z)) e2 in
    let e3 : commit_of c.store_clock.new.seat.me.0 ≡ counted c0 cs = ap commit_of is3 in
    let is4 : c.release_all.new.seat.me.0 ≡ publishing (released c0 cs (n + 1)) = c.release_all.ensures.stored ∙ ap (λ (z : Commit). publishing (all_released (n + 1) cs z)) e3 in
    let e4 : commit_of c.release_all.new.seat.me.0 ≡ released c0 cs (n + 1) = ap commit_of is4 in
    let now : c0.values ≡ m = r.settled.1 ∙ sym (present c0.history c.args.self.now.history m same c.requires.present) in
    let all : with_changes m cs ≡ with_changes m c.args.writes.now = changes_enough m c.args.writes.now (written c.args.self.now.history m c.args.writes.now c.requires.present c.requires.writes) in
    let next : with_changes c0.values cs ≡ with_changes (last_state c.args.self.now.history) c.args.writes.now =
    ap (λ (l : List ℤ). with_changes l cs) now ∙ (all ∙ ap (λ (l : List ℤ). with_changes l c.args.writes.now) c.requires.present) in
    ap (λ (z : Commit). z.history) e4 ∙ (λ i. same i ++ next i ∷ [])

pub returns-clause-stores : goal.returns-clause-stores
returns-clause-stores c =
    let c0 : Commit = commit_of c.self.inside.seat.me.0 in let n : ℕ = c.self.inside.number in let m : List ℤ = c.args.values.now in let cs : List Change = changes_of m c.args.writes.now in
    let r : IsResting c0 n = c.self.invariant.1 in let same = ap (λ v. v.history) c.self.view_is in
    let e1 : commit_of c.lock_all.new.seat.me.0 ≡ all_locked cs c0 = ap commit_of c.lock_all.ensures.stored in
    let b : Bool = c.store_all.ensures.stored.0 in
    let is2 : c.store_all.new.seat.me.0 ≡ publishing (stored c0 cs b) = c.store_all.ensures.stored.1 ∙ ap (λ (z : Commit). publishing (all_stored b cs z)) e1 in
    let e2 : commit_of c.store_all.new.seat.me.0 ≡ stored c0 cs b = ap commit_of is2 in
    let is3 : c.store_clock.new.seat.me.0 ≡ publishing (counted c0 cs) = c.store_clock.ensures.told ∙ ap (λ (z : Commit). publishing (after_clock z)) e2 in
    let e3 : commit_of c.store_clock.new.seat.me.0 ≡ counted c0 cs = ap commit_of is3 in
    let is4 : c.release_all.new.seat.me.0 ≡ publishing (released c0 cs (n + 1)) = c.release_all.ensures.stored ∙ ap (λ (z : Commit). publishing (all_released (n + 1) cs z)) e3 in
    let e4 : commit_of c.release_all.new.seat.me.0 ≡ released c0 cs (n + 1) = ap commit_of is4 in
    let count = ap (λ (z : Commit). z.stores) e4 in let before : c0.stores ≡ c.args.self.now.stores = ap (λ v. v.stores) c.self.view_is in
    let here : length cs ≡ length (changes_of (last_state c.args.self.now.history) c.args.writes.now) = ap (λ (l : List ℤ). length (changes_of l c.args.writes.now)) c.requires.present in
    let each : stores_of c.args.self.now.cells (length (changes_of (last_state c.args.self.now.history) c.args.writes.now)) ≡ 3 * length (changes_of (last_state c.args.self.now.history) c.args.writes.now) + 1 =
    ap (λ v. stores_of v.cells (length (changes_of (last_state c.args.self.now.history) c.args.writes.now))) (sym c.self.view_is) in
    omega (arith, count, before, here, each)

pub lock_all-requires-clause-read : goal.lock_all-requires-clause-read
lock_all-requires-clause-read c =
    let ids = ap (λ v. v.cells) c.self.view_is ∙ (c.requires.own ∙ sym c.cells.view_is) in sym (ap (λ (z : CellsId). z.are_read) ids)

pub store_all-requires-clause-read : goal.store_all-requires-clause-read
store_all-requires-clause-read c =
    let ids = ap (λ v. v.cells) c.self.view_is ∙ (c.requires.own ∙ sym c.cells.view_is) in sym (ap (λ (z : CellsId). z.are_read) ids)

pub release_all-requires-clause-read : goal.release_all-requires-clause-read
release_all-requires-clause-read c =
    let ids = ap (λ v. v.cells) c.self.view_is ∙ (c.requires.own ∙ sym c.cells.view_is) in sym (ap (λ (z : CellsId). z.are_read) ids)
