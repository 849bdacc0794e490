-- Each store of a commit, from what it finds to what it leaves.
use Rattle.std.proofs.Common.{◌≡◌, ◌≢◌, ℕ, ◌+◌, ◌-◌, ◌*◌, ◌<◌, ◌≤◌, Bool, true, false, if◌then◌else◌, List, [], ◌∷◌, ◌++◌, ℤ, length, take, get_or, set, sym, refl, ap, ◌∙◌, subst, arith}
use lib.Seq.{take-length}
use Rattle.std.specs.Int.{w64, cast_signed}
use Rattle.txn_words.specs.Words.{Commit, WordsMean, state_value, state_of, last_state, version_word, value_word}
use Rattle.txn_words.specs.Stores.{Change, id_of, new_of, with_changes, AreChanges, after_lock, after_value, after_clock, after_release}
use Rattle.txn_words.proofs.Stores.{Keeps, lock_keeps, value_keeps, clock_keeps, release_keeps}
use Rattle.world_law.specs.declared.events.Store.{Store}
use Rattle.world_law.specs.declared.events.Store.TheVariants.{Lock, Put, Tick, Free}
use Rattle.world_law.specs.World.{Writes}
use Rattle.world_law.specs.Commits.{RestsAt, after_store}
use Rattle.world_law.proofs.Changes.{sets_more, sets_length, sets_else, not_yet}
use Rattle.world_law.proofs.Order.{IsStore, Locks, Puts, Ticks, Frees, variable_at}
use Rattle.world_law.proofs.Resting.{locked_by, IsLocking, IsPutting, IsFreeing, Phase, Locking, Putting, Freeing, inside, each_locked, each_differs, same_size, longer_by_one}

module _ (base : Commit) (n : ℕ) (cs : List Change) where
  as_locking : (p : ℕ) (c : Commit) → Phase base n cs p c → p < length cs → IsLocking base cs p c
  as_locking p c (Locking l e) h = e
  as_locking p c (Putting i l q e) h = absurd (omega arith)
  as_locking p c (Freeing i l q e) h = absurd (omega arith)

  as_putting : (p i : ℕ) (c : Commit) → Phase base n cs p c → i ≤ length cs → p ≡ length cs + i → IsPutting base cs i c
  as_putting p i c (Locking l e) h is =
      let none : i ≡ 0 = omega arith in let all : p ≡ length cs = omega arith in
      subst (λ (j : ℕ). IsPutting base cs j c) (sym none) record {
        history = e.history;
        values = e.values;
        versions = e.versions;
        locked = e.locked ∙ ap (λ (l : List Change). locked_by true base.locked l) (ap (λ (k : ℕ). take k cs) all ∙ take-length cs);
        in_order = e.in_order;
      }
  as_putting p i c (Putting j l q e) h is = subst (λ (k : ℕ). IsPutting base cs k c) (let same : j ≡ i = omega arith in same) e
  as_putting p i c (Freeing j l q e) h is = absurd (omega arith)

  pub as_freeing : (p i : ℕ) (c : Commit) → Phase base n cs p c → p ≡ 2 * length cs + 1 + i → IsFreeing base n cs i c
  as_freeing p i c (Locking l e) is = absurd (omega arith)
  as_freeing p i c (Putting j l q e) is = absurd (omega arith)
  as_freeing p i c (Freeing j l q e) is = subst (λ (k : ℕ). IsFreeing base n cs k c) (let same : j ≡ i = omega arith in same) e

  pub history_before : (p : ℕ) (c : Commit) → Phase base n cs p c → p ≤ 2 * length cs → c.history ≡ base.history
  history_before p c (Locking l e) h = e.history
  history_before p c (Putting i l q e) h = e.history
  history_before p c (Freeing i l q e) h = absurd (omega arith)

  -- what a store of the commit whose record was c leaves
  abbrev pub Went : List ℕ → List ℕ → ℕ → Commit → Type 0
  Went ws ws' p c' = Keeps ws ws' c' × Phase base n cs p c'

module _ (base : Commit) (n : ℕ) (cs : List Change) (r : RestsAt base n) (a : AreChanges (last_state base.history) cs) where
  locks_on : (ws : List ℕ) (p : ℕ) (c : Commit) → WordsMean ws c → Phase base n cs p c → p < length cs
      → Went base n cs ws (set ws (version_word (id_of cs p)) (get_or ws (version_word (id_of cs p)) 0 + 1)) (p + 1) (after_lock (id_of cs p) c)
  locks_on ws p c holds phase l =
      let e = as_locking base n cs p c phase l in let x : ℕ = id_of cs p in
      let size : length c.values ≡ length base.values = ap (λ (m : List ℤ). length m) e.values in
      let within : x < length c.values = omega (arith, inside base n cs r a p l) in
      let free : get_or c.locked x false ≡ false = ap (λ (b : List Bool). get_or b x false) e.locked
      ∙ (sets_else (λ (_ : Change). true) base.locked cs x false p (omega arith) (not_yet (λ (_ : Change). true) cs p l a.ascend) ∙ r.free x) in
      let stamp : get_or ws (version_word x) 0 ≡ 2 * get_or c.versions x 0 + 0 = (holds.each x within).version ∙ ap (λ (t : Bool). 2 * get_or c.versions x 0 + (if t then 1 else 0)) free in (
        lock_keeps ws c x (get_or ws (version_word x) 0 + 1) record { within = within; free = free; before_values = e.storing } (omega arith) holds,
        Locking (omega arith) record {
          history = e.history;
          values = e.values;
          versions = e.versions;
          locked = ap (λ (b : List Bool). set b x true) e.locked ∙ sym (sets_more (λ (_ : Change). true) base.locked cs p l);
          storing = e.storing;
          in_order = e.storing;
        },
      )

  puts_on : (ws : List ℕ) (p i bits : ℕ) (c : Commit) → WordsMean ws c → Phase base n cs p c → i < length cs → p ≡ length cs + i → cast_signed w64 bits ≡ new_of cs i
      → Went base n cs ws (set ws (value_word (id_of cs i)) bits) (p + 1) (after_value (id_of cs i) (new_of cs i) c)
  puts_on ws p i bits c holds phase l q fits =
      let e = as_putting base n cs p i c phase (omega arith) q in let x : ℕ = id_of cs i in
      let size : length c.values ≡ length base.values = ap (λ (m : List ℤ). length m) e.values ∙ sets_length (λ (d : Change). d.1) base.values (take i cs) in
      let lock : get_or c.locked x false ≡ true = ap (λ (b : List Bool). get_or b x false) e.locked ∙ each_locked base n cs r a i l in
      let kept : Keeps ws (set ws (value_word x) bits) (after_value x (cast_signed w64 bits) c) = value_keeps ws c x bits record { within = omega (arith, inside base n cs r a i l); locked = lock } holds in (
        subst (λ (z : ℤ). Keeps ws (set ws (value_word x) bits) (after_value x z c)) fits kept,
        Putting (i + 1) (omega arith) (omega arith) record {
          history = e.history;
          values = ap (λ (m : List ℤ). set m x (new_of cs i)) e.values ∙ sym (sets_more (λ (d : Change). d.1) base.values cs i l);
          versions = e.versions;
          locked = e.locked;
          in_order = e.in_order;
        },
      )

  ticks_on : (ws : List ℕ) (p number : ℕ) (c : Commit) → WordsMean ws c → Phase base n cs p c → p ≡ 2 * length cs → number ≡ n + 1
      → Went base n cs ws (set ws 0 number) (p + 1) (after_clock c)
  ticks_on ws p number c holds phase q is =
      let e = as_putting base n cs p (length cs) c phase (omega arith) (omega arith) in
      let values : c.values ≡ with_changes base.values cs = e.values ∙ ap (λ (l : List Change). with_changes base.values l) (take-length cs) in
      let many = r.counted in let same = ap (λ (h : List (List ℤ)). length h) e.history in (
        clock_keeps ws c number (omega arith) holds,
        Freeing 0 (omega arith) (omega arith) record {
          history = λ j. e.history j ++ values j ∷ [];
          values = values;
          versions = e.versions;
          locked = e.locked;
          storing = refl;
          in_order = e.in_order;
        },
      )

  frees_on : (ws : List ℕ) (p i number : ℕ) (c : Commit) → WordsMean ws c → Phase base n cs p c → i < length cs → p ≡ 2 * length cs + 1 + i → number ≡ n + 1
      → Went base n cs ws (set ws (version_word (id_of cs i)) (2 * number)) (p + 1) (after_release (id_of cs i) c)
  frees_on ws p i number c holds phase l q is =
      let e = as_freeing base n cs p i c phase q in let x : ℕ = id_of cs i in
      let size : length c.values ≡ length base.values = ap (λ (m : List ℤ). length m) e.values ∙ same_size base n cs r a in
      let apart = not_yet (λ (_ : Change). true) cs i l a.ascend in let more = longer_by_one base n cs r a in
      let lock : get_or c.locked x false ≡ true = ap (λ (b : List Bool). get_or b x false) e.locked
      ∙ (sets_else (λ (_ : Change). false) (locked_by true base.locked cs) cs x false i (omega arith) apart ∙ each_locked base n cs r a i l) in
      let version : get_or c.versions x 0 ≡ get_or base.versions x 0 = ap (λ (b : List ℕ). get_or b x 0) e.versions ∙ sets_else (λ (_ : Change). n + 1) base.versions cs x 0 i (omega arith) apart in
      let old = r.past x in let long = ap (λ (h : List (List ℤ)). length h) e.history in let last : length c.history - 1 ≡ n + 1 = omega arith in
      let differ : state_value (last_state c.history) x ≢ state_value (state_of c.history (length c.history - 1 - 1)) x =
      subst (λ (z : List (List ℤ) × ℕ). state_value (last_state z.0) x ≢ state_value (state_of z.0 (z.1 - 1)) x) (λ j. (sym e.history j, sym last j)) (each_differs base n cs r a i l) in (
        release_keeps ws c x (2 * number) record { within = omega (arith, inside base n cs r a i l); locked = lock; after_clock = e.storing; older = omega arith; changed = differ } (omega arith) holds,
        Freeing (i + 1) (omega arith) (omega arith) record {
          history = e.history;
          values = e.values;
          versions = (λ j. set (e.versions j) x (last j)) ∙ sym (sets_more (λ (_ : Change). n + 1) base.versions cs i l);
          locked = ap (λ (b : List Bool). set b x false) e.locked ∙ sym (sets_more (λ (_ : Change). false) (locked_by true base.locked cs) cs i l);
          storing = e.storing;
          in_order = e.in_order;
        },
      )

  -- the next store of a commit
  pub goes_on : (ws ws' : List ℕ) (p number : ℕ) (c : Commit) (s : Store) → WordsMean ws c → Phase base n cs p c → number ≡ n + 1 → IsStore cs p s → Writes s number ws ws'
      → Went base n cs ws ws' (p + 1) (after_store s c)
  goes_on ws ws' p number c s holds phase is (Locks l e) w =
      let w' : Writes (Lock (variable_at cs p)) number ws ws' = subst (λ (t : Store). Writes t number ws ws') e w in
      subst (λ (t : List ℕ × Store). Went base n cs ws t.0 (p + 1) (after_store t.1 c)) (λ j. (sym w' j, sym e j)) (locks_on ws p c holds phase l)
  goes_on ws ws' p number c s holds phase is (Puts i l q e) w =
      let w' : Writes (Put (variable_at cs i) (new_of cs i)) number ws ws' = subst (λ (t : Store). Writes t number ws ws') e w in
      subst (λ (t : List ℕ × Store). Went base n cs ws t.0 (p + 1) (after_store t.1 c)) (λ j. (sym w'.2 j, sym e j)) (puts_on ws p i w'.0 c holds phase l q w'.1.1)
  goes_on ws ws' p number c s holds phase is (Ticks q e) w =
      let w' : Writes Tick number ws ws' = subst (λ (t : Store). Writes t number ws ws') e w in
      subst (λ (t : List ℕ × Store). Went base n cs ws t.0 (p + 1) (after_store t.1 c)) (λ j. (sym w' j, sym e j)) (ticks_on ws p number c holds phase q is)
  goes_on ws ws' p number c s holds phase is (Frees i l q e) w =
      let w' : Writes (Free (variable_at cs i)) number ws ws' = subst (λ (t : Store). Writes t number ws ws') e w in
      subst (λ (t : List ℕ × Store). Went base n cs ws t.0 (p + 1) (after_store t.1 c)) (λ j. (sym w' j, sym e j)) (frees_on ws p i number c holds phase l q is)
