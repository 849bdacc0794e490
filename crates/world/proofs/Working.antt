-- The committer's next store.
use Rattle.std.proofs.Common.{◌≡◌, ◌≢◌, ◌⊎◌, ℕ, zero, suc, ◌+◌, ◌-◌, ◌*◌, ◌^◌, ◌<◌, ◌≤◌, Bool, true, false, if◌then◌else◌, List, [], ◌∷◌, ◌++◌, length, map, set, take, slice_index, slice_index_or, ℤ, refl, sym, ap, ◌∙◌, subst, inl, inr, ⊎_elim, arith, Option, Some, None, slice_get}
use Rattle.std.specs.declared.alloc.Global.{Global}
use Rattle.std.specs.declared.vec.Vec.{Vec}
use Rattle.std.proofs.lemmas.List.{length-set}
use Rattle.txn_words.specs.Words.{Commit, last_state, version_word, value_word}
use Rattle.txn_words.specs.Stores.{Change, id_of, with_changes}
use Rattle.world_law.specs.declared.events.Fate.TheVariants as fate
use Rattle.world_law.specs.declared.events.Event.TheVariants.{Word}
use Rattle.world_law.specs.declared.events.Seen.TheVariants as seen
use Rattle.world_law.specs.declared.events.Store.{Store}
use Rattle.world_law.specs.declared.events.Store.TheVariants.{Lock, Put, Tick, Free}
use Rattle.world_law.specs.World.{World, Started, Committer, stores, Writes, history_after, stored, finished, is_live}
use Rattle.world_law.specs.Next.{Reachable}
use Rattle.world_law.proofs.Framed.{IsSound}
use Rattle.world_law.proofs.Order.{IsStore, Locks, Puts, Ticks, Frees, store_at, many_stores}
use Rattle.world_law.proofs.Resting.{Phase, Locking, Putting, Freeing}
use Rattle.world_law.proofs.Kept.{Pending, Holds}
use Rattle.world_law.proofs.Wrote.{under_way}
use Rattle.world_law.proofs.Reached.{reached_holds}
use Rattle.world.specs.declared.trial.Trial.{Trial}
use Rattle.world.specs.declared.scene.Publishing.{Publishing}
use Rattle.world.specs.declared.scene.Scene.{Scene}
use Rattle.world.specs.Trials.{started_of}
use Rattle.world.specs.Inside.{listing, world_of, all_states, committer_of, with_trial, IsReady, PublishingKept, CommitterKept, Kept, Leads}
use Rattle.world.specs.Steps.{count_after, MayWrite, with_committer}
use Rattle.world.proofs.Seeing.{seen_at, seen_set}
use Rattle.world.proofs.Standing.{runs_on, other_kept}
use Rattle.world.proofs.Putting.{kept_put}

bit : (b : Bool) → (if b then 1 else 0) ≤ 1
bit true = omega arith
bit false = omega arith

pub wide_still : (s : Store) (n : ℕ) (ws ws' : List ℕ) → Writes s n ws ws' → length ws' ≡ length ws
wide_still (Lock x) n ws ws' h = ap length h ∙ length-set ws (version_word x.0) _
wide_still (Put x v) n ws ws' h = ap length h.2 ∙ length-set ws (value_word x.0) h.0
wide_still Tick n ws ws' h = ap length h ∙ length-set ws 0 n
wide_still (Free x) n ws ws' h = ap length h ∙ length-set ws (version_word x.0) _

module _ {X : Type 0} where
  take_suc : (l : List X) (n : ℕ) (x : X) → slice_get l n ≡ Some x → take (suc n) l ≡ take n l ++ x ∷ []
  take_suc [] n x e = absurd (cc)
  take_suc (y ∷ l) zero x e = let s : y ≡ x = cc in ap (λ (z : X). z ∷ []) s
  take_suc (y ∷ l) (suc n) x e = ap (λ (r : List X). y ∷ r) (take_suc l n x e)

  pub take_more : (l : List X) (n : ℕ) (x : X) → slice_get l n ≡ Some x → take (n + 1) l ≡ take n l ++ x ∷ []
  take_more l n x e = let one : n + 1 ≡ suc n = omega arith in ap (λ (m : ℕ). take m l) one ∙ take_suc l n x e

same_world : (ws : List ℕ) (h h' : List (List ℤ)) (l l' : List Started) (q q' : Option Committer) → h ≡ h' → l ≡ l' → q ≡ q'
    → (let u : World = record { words = ws; history = h; attempts = l; committer = q } in u) ≡ record { words = ws; history = h'; attempts = l'; committer = q' }
same_world ws h h' l l' q q' a b d = cc

same_some : (s t : Store) → Some s ≡ Some t → s ≡ t
same_some s t e = cc

-- what keeps of the scene whose committer is p
module _ (c : Scene) (p : Publishing) (s : Store) (k : Kept (with_committer c p)) (at : slice_get (stores p.changes.items) p.stored ≡ Some s) where
  abbrev cs : List Change
  cs = p.changes.items

  k_p : PublishingKept (with_committer c p) p
  k_p = k.committer

  is : IsStore cs p.stored s
  is = store_at cs p.stored s at

  -- a version word that gets its lock bit has room for it
  lock_fits : IsSound (listing c) → Reachable (listing c) (world_of (with_committer c p)) → p.stored < length cs → (x : ℕ) → x < length (listing c).initial
      → slice_index c.words.items (version_word x) + 1 < 2 ^ 64
  lock_fits sound reach low x in_range =
      let h : Holds (listing c) (world_of (with_committer c p)) = reached_holds (listing c) sound (world_of (with_committer c p)) reach in
      let u : Pending (listing c) (map started_of c.trials.items) (committer_of p) h.commit = under_way (listing c) (world_of (with_committer c p)) (committer_of p) h refl in
      let b : Bool = slice_index_or h.commit.locked x false in
      let stamp : slice_index c.words.items (version_word x) ≡ 2 * slice_index h.commit.versions x + (if b then 1 else 0) = (h.words.each x (omega (arith, h.words.wide, k.wide))).version in
      let old : slice_index h.commit.versions x ≡ slice_index u.base.versions x = ap (λ (l : List ℕ). slice_index l x) (locking u.base u.before h.commit u.phase) in
      omega (arith, bit b, stamp, old, u.rest.past x, u.number, k_p.small, c.states.ok.0, c.states.ok.1, c.states.small)
    where
      locking : (base : Commit) (n : ℕ) (commit : Commit) → Phase base n cs p.stored commit → commit.versions ≡ base.versions
      locking base n commit (Locking a l) = l.versions
      locking base n commit (Putting i a e l) = absurd (omega (arith, low, e))
      locking base n commit (Freeing i a e l) = absurd (omega (arith, low, e))

  pub may_write : IsSound (listing c) → Reachable (listing c) (world_of (with_committer c p)) → MayWrite s p.number c.words.items
  may_write sound reach = by is
    where
      by : IsStore cs p.stored s → MayWrite s p.number c.words.items
      by (Locks l e) = subst (λ (t : Store). MayWrite t p.number c.words.items) (sym e) ((omega (arith, k.wide, k_p.exist p.stored l)), lock_fits sound reach l (id_of cs p.stored) (k_p.exist p.stored l))
      by (Puts i l q e) = subst (λ (t : Store). MayWrite t p.number c.words.items) (sym e) (omega (arith, k.wide, k_p.exist i l))
      by (Ticks q e) = subst (λ (t : Store). MayWrite t p.number c.words.items) (sym e) (omega (arith, k.wide))
      by (Frees i l q e) = subst (λ (t : Store). MayWrite t p.number c.words.items) (sym e) ((omega (arith, k.wide, k_p.exist i l)), (omega (arith, k_p.small, c.states.ok.0, c.states.ok.1, c.states.small)))

  module _ (v : Vec ℕ Global) (n : ℕ) (w : Writes s p.number c.words.items v.items) (count : n ≡ count_after s c.count) where
    -- the history grows at the store of the clock, and at no other
    counts : ((p.stored ≡ 2 * length cs) × (s ≡ Tick) × (n ≡ c.count + 1)) ⊎ ((p.stored ≢ 2 * length cs) × (n ≡ c.count) × (history_after s cs (take c.count (all_states c)) ≡ take c.count (all_states c)))
    counts = by is
      where
        by : IsStore cs p.stored s → ((p.stored ≡ 2 * length cs) × (s ≡ Tick) × (n ≡ c.count + 1)) ⊎ ((p.stored ≢ 2 * length cs) × (n ≡ c.count) × (history_after s cs (take c.count (all_states c)) ≡ take c.count (all_states c)))
        by (Locks l e) = inr (omega arith, count ∙ ap (λ (t : Store). count_after t c.count) e, ap (λ (t : Store). history_after t cs (take c.count (all_states c))) e)
        by (Puts i l q e) = inr (omega arith, count ∙ ap (λ (t : Store). count_after t c.count) e, ap (λ (t : Store). history_after t cs (take c.count (all_states c))) e)
        by (Ticks q e) = inl (q, e, count ∙ ap (λ (t : Store). count_after t c.count) e)
        by (Frees i l q e) = inr (omega arith, count ∙ ap (λ (t : Store). count_after t c.count) e, ap (λ (t : Store). history_after t cs (take c.count (all_states c))) e)

    grows : take n (all_states c) ≡ history_after s cs (take c.count (all_states c))
    grows = ⊎_elim
        (λ (h : (p.stored ≡ 2 * length cs) × (s ≡ Tick) × (n ≡ c.count + 1)). let r : IsReady (with_committer c p) p = k_p.ready (omega (arith, h.0)) in
        ap (λ (m : ℕ). take m (all_states c)) h.2 ∙ (take_more (all_states c) c.count _ r.2 ∙ ap (λ (t : Store). history_after t cs (take c.count (all_states c))) (sym h.1)))
        (λ (h : (p.stored ≢ 2 * length cs) × (n ≡ c.count) × (history_after s cs (take c.count (all_states c)) ≡ take c.count (all_states c))). ap (λ (m : ℕ). take m (all_states c)) h.1 ∙ sym h.2)
        counts

    within : (0 < n) × (n ≤ length c.states.items)
    within = ⊎_elim
        (λ (h : (p.stored ≡ 2 * length cs) × (s ≡ Tick) × (n ≡ c.count + 1)). let r : IsReady (with_committer c p) p = k_p.ready (omega (arith, h.0)) in ((omega (arith, h.2)), (omega (arith, h.2, r.1))))
        (λ (h : (p.stored ≢ 2 * length cs) × (n ≡ c.count) × (history_after s cs (take c.count (all_states c)) ≡ take c.count (all_states c))). ((omega (arith, h.1, k.count.0)), (omega (arith, h.1, k.count.1))))
        counts

    -- past the clock the history has all states
    all_past : 2 * length cs ≤ p.stored → n ≡ length c.states.items
    all_past past = ⊎_elim
        (λ (h : (p.stored ≡ 2 * length cs) × (s ≡ Tick) × (n ≡ c.count + 1)). let r : IsReady (with_committer c p) p = k_p.ready (omega (arith, h.0)) in omega (arith, h.2, r.1))
        (λ (h : (p.stored ≢ 2 * length cs) × (n ≡ c.count) × (history_after s cs (take c.count (all_states c)) ≡ take c.count (all_states c))). h.1 ∙ k_p.past (omega (arith, h.0, past)))
        counts

    same_before : p.stored < 2 * length cs → n ≡ c.count
    same_before low = ⊎_elim
        (λ (h : (p.stored ≡ 2 * length cs) × (s ≡ Tick) × (n ≡ c.count + 1)). absurd (omega (arith, h.0, low)))
        (λ (h : (p.stored ≢ 2 * length cs) × (n ≡ c.count) × (history_after s cs (take c.count (all_states c)) ≡ take c.count (all_states c))). h.1)
        counts

    abbrev more : Publishing
    more = record p { stored = p.stored + 1 }

    abbrev after : Option Publishing → Scene
    after o = record c { words = v; count = n; committer = o }

    kept_after : (o : Option Publishing) → CommitterKept (after o) o → Kept (after o)
    kept_after o h = record {
      wide = wide_still s p.number c.words.items v.items w ∙ k.wide;
      states = k.states;
      count = within;
      trials = k.trials;
      tasks = k.tasks;
      live = k.live;
      latest = k.latest;
      last = k.last;
      whole = k.whole;
      committer = h;
    }

    more_kept : p.stored ≢ 3 * length cs → PublishingKept (after (Some more)) more
    more_kept other = record {
      runs = k_p.runs;
      under = omega (arith, k_p.under, other);
      few = k_p.few;
      small = k_p.small;
      exist = k_p.exist;
      ready = λ low. let r : IsReady (with_committer c p) p = k_p.ready (omega (arith, low)) in
          subst (λ (m : ℕ). (p.number ≡ m) × (length c.states.items ≡ m + 1) × (slice_get (all_states c) m ≡ Some (with_changes (last_state (take m (all_states c))) cs))) (sym (same_before (omega (arith, low)))) r;
      past = λ high. all_past (omega (arith, high));
    }

    pub stored_leads : p.stored ≢ 3 * length cs → Leads (with_committer c p) Word seen.Stored (after (Some more))
    stored_leads other = record {
      catalogue = refl;
      kept = kept_after (Some more) (more_kept other);
      next = (
        committer_of p,
        s,
        v.items,
        (refl, at, w),
        omega (arith, many_stores cs, k_p.under, other),
        ap (λ (h : List (List ℤ)). let u : World = record { words = v.items; history = h; attempts = map started_of c.trials.items; committer = Some (committer_of more) } in u) grows,
      );
    }

    module _ (y : Trial) (o : Option Publishing) (empty : o ≡ None) (here : slice_get c.trials.items p.place ≡ Some y) (runs : y.fate ≡ fate.Running) where
      abbrev over : Trial
      over = record y { fate = fate.Committed p.number }

      none_kept : p.stored ≡ 3 * length cs → CommitterKept (after o) o
      none_kept last = subst (λ (q : Option Publishing). CommitterKept (after o) q) (sym empty) (all_past (omega (arith, last)))

      pub finished_leads : p.stored ≡ 3 * length cs → Leads (with_committer c p) Word (seen.Committed p.number) (with_trial (after o) p.place over)
      finished_leads last = record {
        catalogue = refl;
        kept = kept_put (after o) p.place y over (kept_after o (none_kept last)) (record {
          was = here;
          task = refl;
          live = λ e. k.live p.place y here (ap is_live runs);
          kept = other_kept (listing c) y y.rv y.loads (fate.Committed p.number) y.movable y.check (k.trials p.place y here) (runs_on (listing c) y (k.trials p.place y here) runs);
          own = λ q is place. let bad : Some q ≡ None = sym is ∙ empty in cc;
          whole = λ there can. runs_on (listing c) y (k.trials p.place y here) runs;
        });
        next = (committer_of p, s, v.items, started_of y, (refl, at, w), omega (arith, many_stores cs, last), refl, seen_at c.trials.items p.place y here, ended last);
      }
        where
          ended : p.stored ≡ 3 * length cs → world_of (with_trial (after o) p.place over) ≡ finished (stored (world_of (with_committer c p)) (committer_of p) s v.items) (committer_of p) (started_of y)
          ended last = same_world v.items _ _ _ _ _ _ grows (seen_set c.trials.items p.place over) (ap (λ (q : Option Publishing). Rattle.std.proofs.Common.option_map committer_of q) empty)
