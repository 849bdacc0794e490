-- How the stores of the committer keep what holds.
use Rattle.std.proofs.Common.{◌≡◌, ◌≢◌, ◌⊎◌, ℕ, ◌+◌, ◌-◌, ◌*◌, ◌<◌, List, [], ◌∷◌, ◌++◌, length, sym, refl, ap, ◌∙◌, subst, ⊎_elim, inl, inr, arith, Option, Some, slice_get}
use mathlib.Core.Logic.{dite}
use native.Mathlib.Decide.{ℕ_discrete, dec_lt}
use Rattle.txn_programs.specs.Listing.{Listing}
use Rattle.txn_programs.specs.Meaning.{State}
use Rattle.txn_words.specs.Words.{Commit, state_value, state_of, last_state}
use Rattle.txn_words.specs.Stores.{Change, with_changes}
use Rattle.txn_words.specs.Loads.{SamplingHolds}
use Rattle.txn_words.proofs.Words.{longer, state_before, state_new}
use Rattle.attempt.specs.Frame.{Agrees}
use Rattle.world_law.specs.declared.events.Fate.TheVariants as fate
use Rattle.world_law.specs.World.{Started, World, Committer, bound, version_now, value_now, with_fate, stores, history_after, stored, finished, words_loaded}
use Rattle.world_law.specs.declared.events.Store.{Store}
use Rattle.world_law.specs.declared.events.Store.TheVariants.{Tick}
use Rattle.world_law.specs.Next.{IsNextStore}
use Rattle.world_law.specs.Commits.{after_store}
use Rattle.world_law.specs.Opacity.{Explains, IsPast, Makes, Made}
use Rattle.world_law.proofs.Readers.{sampling_stays}
use Rattle.world_law.proofs.Places.{get_set_same, get_set_other, get_set, same_some}
use Rattle.world_law.proofs.Order.{IsStore, Locks, Puts, Ticks, Frees, store_at, after_next, many_stores}
use Rattle.world_law.proofs.Resting.{Phase, rests_again, same_size}
use Rattle.world_law.proofs.Storing.{Went, goes_on, as_freeing, history_before}
use Rattle.world_law.proofs.Kept.{Pending, Under, LoadsHold, ReadsHold, Holds, bound_within, check_grows, alone_changed, running_not, same_number}

pub under_way : (k : Listing) (w : World) (c : Committer) (h : Holds k w) → w.committer ≡ Some c → Pending k w.attempts c h.commit
under_way k w c h is = subst (λ (q : Option Committer). Under k w.attempts q h.commit) is h.under

pending_more : (k : Listing) (l : List Started) (c : Committer) (commit : Commit) (s : Store) (p : Pending k l c commit) → slice_get (stores c.changes) c.stored ≡ Some s → Phase p.base p.before c.changes (c.stored + 1) (after_store s commit)
    → Pending k l (record c { stored = c.stored + 1 }) (after_store s commit)
pending_more k l c commit s p next phase = record {
  base = p.base;
  before = p.before;
  number = p.number;
  rest = p.rest;
  are = p.are;
  phase = phase;
  done = ap (after_store s) p.done ∙ sym (after_next c.changes c.stored s p.base next);
  owner = p.owner;
  was = p.was;
  running = p.running;
  explained = p.explained;
}

-- whether a store is that of the clock, which the history's growth hangs on
quiet_or_tick : (cs : List Change) (p : ℕ) (s : Store) (h : List State) (c : Commit) → IsStore cs p s
    → ((p ≢ 2 * length cs) × (history_after s cs h ≡ h) × ((after_store s c).history ≡ c.history))
    ⊎ ((p ≡ 2 * length cs) × (s ≡ Tick))
quiet_or_tick cs p s h c (Locks l e) = inl (omega arith, ap (λ (t : Store). history_after t cs h) e, ap (λ (t : Store). (after_store t c).history) e)
quiet_or_tick cs p s h c (Puts i l q e) = inl (omega arith, ap (λ (t : Store). history_after t cs h) e, ap (λ (t : Store). (after_store t c).history) e)
quiet_or_tick cs p s h c (Ticks q e) = inr (q, e)
quiet_or_tick cs p s h c (Frees i l q e) = inl (omega arith, ap (λ (t : Store). history_after t cs h) e, ap (λ (t : Store). (after_store t c).history) e)

module _ (k : Listing) (w : World) (c : Committer) (s : Store) (ws : List ℕ) (h : Holds k w) (next : IsNextStore w c s ws) where
  p : Pending k w.attempts c h.commit
  p = under_way k w c h next.0

  is : IsStore c.changes c.stored s
  is = store_at c.changes c.stored s next.1

  went : Went p.base p.before c.changes w.words ws (c.stored + 1) (after_store s h.commit)
  went = goes_on p.base p.before c.changes p.rest p.are w.words ws c.stored c.number h.commit s h.words p.phase p.number is next.2

  abbrev after_it : List State → World
  after_it history = record { words = ws; history = history; attempts = w.attempts; committer = Some (record c { stored = c.stored + 1 }) }

  -- a store at which the history stays
  quiet_kept : (after_store s h.commit).history ≡ w.history → c.stored ≢ 2 * length c.changes → Holds k (after_it w.history)
  quiet_kept same quiet = record {
    commit = after_store s h.commit;
    history = same;
    words = went.0.0;
    under = pending_more k w.attempts c h.commit s p next.1 went.1;
    states = h.states;
    begins = h.begins;
    reads = h.reads;
    loads = λ i y at x needs. (sampling_stays _ _ _ _ (bound y) _ (went.0.1 x.0) (words_loaded y.loads) (h.loads i y at x needs).0, (h.loads i y at x needs).1);
    alone = h.alone;
    numbered = λ i n y m. h.numbered i n y (old i n y m);
    made = λ n low high. let v = h.made n low high in (v.0, v.1, new v.0 n v.1 v.2, v.3, λ j z m. v.4 j z (old j n z m));
  }
    where
      old : (i n : ℕ) (y : Started) → Makes (after_it w.history) n i y → Makes w n i y
      old i n y m = (
        m.0,
        ⊎_elim (λ (e : y.fate ≡ fate.Committed n). inl e)
            (λ (q : (c.place ≡ i) × (c.number ≡ n) × (2 * length c.changes < c.stored + 1)). inr (subst (λ (o : Option Committer). IsPast o i n) (sym next.0) (q.0, q.1, (let l = q.2 in omega arith)))) m.1,
      )

      new : (i n : ℕ) (y : Started) → Makes w n i y → Makes (after_it w.history) n i y
      new i n y m = (
        m.0,
        ⊎_elim (λ (e : y.fate ≡ fate.Committed n). inl e)
            (λ (q : IsPast w.committer i n). let q' = subst (λ (o : Option Committer). IsPast o i n) next.0 q in inr (q'.0, q'.1, (let l = q'.2 in omega arith))) m.1,
      )

  -- the store of the clock
  tick_kept : p.base.history ≡ w.history → (after_store s h.commit).history ≡ w.history ++ with_changes p.base.values c.changes ∷ [] → c.stored ≡ 2 * length c.changes → Holds k (after_it (w.history ++ with_changes p.base.values c.changes ∷ []))
  tick_kept first same tick = record {
    commit = after_store s h.commit;
    history = same;
    words = went.0.0;
    under = pending_more k w.attempts c h.commit s p next.1 went.1;
    states = λ n l. dite (dec_lt n number)
        (λ early. ap (λ (u : State). length u) (state_before w.history new n early) ∙ h.states n early)
        (λ late. ap (λ (u : State). length u) (state_new w.history new n (omega (arith, more)))
        ∙ (same_size p.base p.before c.changes p.rest p.are ∙ (ap (λ (u : State). length u) (p.rest.settled.1 ∙ ap last_state first) ∙ h.states (number - 1) (omega (arith, some)))));
    begins = state_before w.history new 0 some ∙ h.begins;
    reads = λ i y at. let r = h.reads i y at in (
      (let l = r.0 in omega (arith, more)),
      subst (Agrees y.log) (sym (state_before w.history new y.rv r.0)) r.1,
      check_grows w.history (w.history ++ new ∷ []) y.log y.check (λ n low. ((let l = low in omega (arith, more)), state_before w.history new n low)) r.2,
    );
    loads = λ i y at x needs. (
      sampling_stays _ _ _ _ (bound y) _ (went.0.1 x.0) (words_loaded y.loads)
          (subst (λ (u : State). SamplingHolds (version_now w x) (value_now w x) (bound y) (state_value u x.0) (words_loaded y.loads))
          (sym (state_before w.history new (bound y) (let r = h.reads i y at in bound_within w.history y.log y.rv y.check r.0 r.2))) (h.loads i y at x needs).0),
      (h.loads i y at x needs).1,
    );
    alone = h.alone;
    numbered = λ i n y m. ⊎_elim
        (λ (e : y.fate ≡ fate.Committed n). let l = h.numbered i n y (m.0, inl e) in omega (arith, more))
        (λ (q : (c.place ≡ i) × (c.number ≡ n) × (2 * length c.changes < c.stored + 1)). let l = q.1 in omega (arith, more, numbers)) m.1;
    made = λ n low high. dite (dec_lt n number)
        (λ early. let v = h.made n low early in (
          v.0,
          v.1,
          (
            v.2.0,
            ⊎_elim (λ (e : v.1.fate ≡ fate.Committed n). inl e)
                (λ (q : IsPast w.committer v.0 n). let q' = subst (λ (o : Option Committer). IsPast o v.0 n) next.0 q in let l = q'.2 in absurd (omega arith)) v.2.1,
          ),
          subst (λ (u : State × State). Explains k u.0 u.1 v.1) (λ j. (sym (state_before w.history new (n - 1) (omega arith)) j, sym (state_before w.history new n early) j)) v.3,
          λ j z m. ⊎_elim
              (λ (e : z.fate ≡ fate.Committed n). v.4 j z (m.0, inl e))
              (λ (q : (c.place ≡ j) × (c.number ≡ n) × (2 * length c.changes < c.stored + 1)). let l = q.1 in absurd (omega (arith, numbers))) m.1,
        ))
        (λ late. let e : n ≡ number = omega (arith, more) in subst (Made k (after_it (w.history ++ new ∷ []))) (sym e) newest);
  }
    where
      new : State
      new = with_changes p.base.values c.changes

      number : ℕ
      number = length w.history

      more : length (w.history ++ new ∷ []) ≡ number + 1
      more = longer w.history new

      numbers : c.number ≡ number
      numbers = let many = p.rest.counted in let e = p.number in let l = ap (λ (l : List State). length l) first in omega arith

      some : 0 < number
      some = let many = p.rest.counted in let l = ap (λ (l : List State). length l) first in omega arith

      newest : Made k (after_it (w.history ++ new ∷ [])) number
      newest = (
        c.place,
        p.owner,
        (p.was, inr (refl, numbers, (let l = tick in omega arith))),
        subst (λ (u : State × State). Explains k u.0 u.1 p.owner) (λ j. ((ap last_state first ∙ sym (state_before w.history new (number - 1) (omega (arith, some)))) j, sym (state_new w.history new number refl) j)) p.explained,
        λ j z m. ⊎_elim
            (λ (e : z.fate ≡ fate.Committed number). let l = h.numbered j number z (m.0, inl e) in absurd (omega arith))
            (λ (q : (c.place ≡ j) × (c.number ≡ number) × (2 * length c.changes < c.stored + 1)). sym q.0) m.1,
      )

  pub stored_kept : Holds k (stored w c s ws)
  stored_kept = ⊎_elim
      (λ (t : (c.stored ≢ 2 * length c.changes) × (history_after s c.changes w.history ≡ w.history) × ((after_store s h.commit).history ≡ h.commit.history)).
      subst (λ (l : List State). Holds k (after_it l)) (sym t.1) (quiet_kept (t.2 ∙ h.history) t.0))
      (λ (t : (c.stored ≡ 2 * length c.changes) × (s ≡ Tick)).
      let tick = t.0 in
      let first : p.base.history ≡ w.history = sym (history_before p.base p.before c.changes c.stored h.commit p.phase (omega arith)) ∙ h.history in
      let values : p.base.values ≡ last_state w.history = p.rest.settled.1 ∙ ap last_state first in
      let then : (after_store s h.commit).history ≡ p.base.history ++ with_changes p.base.values c.changes ∷ [] = (as_freeing p.base p.before c.changes (c.stored + 1) 0 (after_store s h.commit) went.1 (omega arith)).history in
      let grown : history_after s c.changes w.history ≡ w.history ++ with_changes p.base.values c.changes ∷ [] =
      ap (λ (u : Store). history_after u c.changes w.history) t.1 ∙ ap (λ (m : State). w.history ++ with_changes m c.changes ∷ []) (sym values) in
      subst (λ (l : List State). Holds k (after_it l)) (sym grown) (tick_kept first (then ∙ ap (λ (l : List State). l ++ with_changes p.base.values c.changes ∷ []) first) tick))
      (quiet_or_tick c.changes c.stored s w.history h.commit is)

pub finished_kept : (k : Listing) (w : World) (c : Committer) (y : Started) → Holds k w → w.committer ≡ Some c → c.stored ≡ length (stores c.changes) → slice_get w.attempts c.place ≡ Some y → Holds k (finished w c y)
finished_kept k w c y h is all at = record {
  commit = h.commit;
  history = h.history;
  words = h.words;
  under = (p.before + 1, rests_again p.base p.before c.changes p.rest p.are h.commit (as_freeing p.base p.before c.changes c.stored (length c.changes) h.commit p.phase (omega (arith, total))));
  states = h.states;
  begins = h.begins;
  reads = λ j z g. ⊎_elim
      (λ (t : (j ≢ c.place) × (slice_get w.attempts j ≡ Some z)). h.reads j z t.1)
      (λ (t : (j ≡ c.place) × (y' ≡ z)). subst (ReadsHold w.history) t.1 (h.reads c.place y at))
      (get_set w.attempts c.place j y' y z at g);
  loads = λ j z g. ⊎_elim
      (λ (t : (j ≢ c.place) × (slice_get w.attempts j ≡ Some z)). h.loads j z t.1)
      (λ (t : (j ≡ c.place) × (y' ≡ z)). subst (LoadsHold k w) t.1 (h.loads c.place y at))
      (get_set w.attempts c.place j y' y z at g);
  alone = alone_changed k w c.place y y' h at running refl;
  numbered = λ j n z m. let o = old j n z m in h.numbered j n o.0 o.1;
  made = λ n low high. let v = h.made n low high in dite (ℕ_discrete v.0 c.place)
      (λ e. let mine : y ≡ v.1 = same_some y v.1 (sym at ∙ (ap (slice_get w.attempts) (sym e) ∙ v.2.0)) in
      let number : c.number ≡ n = ⊎_elim
      (λ (f : v.1.fate ≡ fate.Committed n). absurd (running_not n (sym running ∙ (ap (λ (u : Started). u.fate) mine ∙ f))))
      (λ (q : IsPast w.committer v.0 n). (subst (λ (o : Option Committer). IsPast o v.0 n) is q).1) v.2.1 in (
        c.place,
        y',
        (get_set_same w.attempts c.place y' y at, inl (ap (λ (l : ℕ). fate.Committed l) number)),
        explains y v.1 n mine v.3,
        λ j z m. let o = old j n z m in v.4 j o.0 o.1 ∙ e,
      ))
      (λ other. let f : v.1.fate ≡ fate.Committed n = ⊎_elim (λ (f : v.1.fate ≡ fate.Committed n). f)
      (λ (q : IsPast w.committer v.0 n). absurd (other (sym (subst (λ (o : Option Committer). IsPast o v.0 n) is q).0))) v.2.1 in
      (v.0, v.1, (get_set_other w.attempts c.place v.0 y' other ∙ v.2.0, inl f), v.3, λ j z m. let o = old j n z m in v.4 j o.0 o.1));
}
  where
    p : Pending k w.attempts c h.commit
    p = under_way k w c h is

    y' : Started
    y' = with_fate y (fate.Committed c.number)

    total : c.stored ≡ 3 * length c.changes + 1
    total = all ∙ many_stores c.changes

    running : y.fate ≡ fate.Running
    running = ap (λ (u : Started). u.fate) (same_some y p.owner (sym at ∙ p.was)) ∙ p.running

    explains : (y z : Started) (n : ℕ) → y ≡ z → Explains k (state_of w.history (n - 1)) (state_of w.history n) z → Explains k (state_of w.history (n - 1)) (state_of w.history n) (with_fate y (fate.Committed c.number))
    explains y z n e x = let x' = subst (Explains k (state_of w.history (n - 1)) (state_of w.history n)) (sym e) x in record { agrees = x'.agrees; ended = x'.ended; goes_on = x'.goes_on; leads = x'.leads }

    old : (j n : ℕ) (z : Started) → Makes (finished w c y) n j z → (z0 : Started) × Makes w n j z0
    old j n z m = ⊎_elim
        (λ (f : z.fate ≡ fate.Committed n). ⊎_elim
        (λ (t : (j ≢ c.place) × (slice_get w.attempts j ≡ Some z)). (z, (t.1, inl f)))
        (λ (t : (j ≡ c.place) × (y' ≡ z)). (
          y,
          (
            ap (slice_get w.attempts) t.0 ∙ at,
            inr (subst (λ (o : Option Committer). IsPast o j n) (sym is)
                (sym t.0, same_number c.number n (ap (λ (u : Started). u.fate) t.1 ∙ f), (let l = total in omega arith))),
          ),
        ))
        (get_set w.attempts c.place j y' y z at m.0))
        (λ (q : ⊥). absurd q)
        m.1
