-- An attempt becomes the committer.
use Rattle.std.proofs.Common.{◌≡◌, ◌≢◌, ℕ, zero, suc, ◌+◌, ◌-◌, ◌<◌, ◌≤◌, Bool, true, false, if◌then◌else◌, List, [], ◌∷◌, ◌++◌, length, map, take, ℤ, refl, sym, ap, ◌∙◌, subst, ⊎_elim, arith, Option, Some, None, slice_get, length-append}
use Rattle.std.specs.declared.alloc.Global.{Global}
use Rattle.std.specs.declared.vec.Vec.{Vec}
use Rattle.std.specs.Ordering.{int_eq}
use Rattle.txn_programs.specs.Meaning.{State}
use Rattle.txn_words.specs.Words.{last_state}
use Rattle.txn_words.specs.Stores.{Change, id_of, with_changes}
use Rattle.txn_programs.specs.declared.ast.VarId.{VarId}
use Rattle.txn_programs.specs.declared.ast.Outcome.{Outcome}
use Rattle.txn_programs.specs.declared.ast.Outcome.TheVariants.{Returned, Thrown, Retries}
use Rattle.attempt.specs.Asking.{Known}
use Rattle.attempt.specs.Frame.{store}
use Rattle.attempt.specs.View.{next_of}
use Rattle.attempt.specs.declared.next.Next.TheVariants as next
use Rattle.world_law.specs.World.{World, Started, Committer, differences, committing}
use Rattle.world_law.proofs.Places.{get_push}
use Rattle.world_law.proofs.Framed.{length-store}
use Rattle.world_law.proofs.Differ.{changes_lead, are_changes}
use Rattle.world.specs.declared.scene.Publishing.{Publishing}
use Rattle.world.specs.declared.scene.Scene.{Scene}
use Rattle.world.specs.Trials.{started_of}
use Rattle.world.specs.Inside.{listing, world_of, all_states, state_items, IsReady, PublishingKept, CommitterKept, Kept, Stays}
use Rattle.world.specs.Asks.{CanCommit}
use Rattle.world.proofs.Seeing.{get_push_new}
use Rattle.world.proofs.Lasting.{items_at, items_length, history_length, last_is}

few_by : (t : Bool) (x : Change) (rest : List Change) (n : ℕ) → length rest ≤ n → length (if t then rest else x ∷ rest) ≤ suc n
few_by true x rest n h = omega (arith, h)
few_by false x rest n h = omega (arith, h)

-- at most each variable changes
pub few_differences : (n : ℕ) (m m' : State) → length (differences n m m') ≤ length m
few_differences n [] m' = omega arith
few_differences n (a ∷ m) [] = omega arith
few_differences n (a ∷ m) (b ∷ m') = few_by (int_eq a b) (record { 0 = n }, b) (differences (n + 1) m m') (length m) (few_differences (n + 1) m m')

need_no_end : (o : Outcome) (x : VarId) → next_of o ≢ next.Need x
need_no_end (Returned v) x e = absurd (cc)
need_no_end (Thrown f) x e = absurd (cc)
need_no_end Retries x e = absurd (cc)

take_push : (l : List State) (n : ℕ) (x : State) → n ≤ length l → take n (l ++ x ∷ []) ≡ take n l
take_push l zero x h = refl
take_push [] (suc n) x h = absurd (omega arith)
take_push (y ∷ l) (suc n) x h = ap (λ (r : List State). y ∷ r) (take_push l n x (omega arith))

items_push : (l : List (Vec ℤ Global)) (m : Vec ℤ Global) → map state_items (l ++ m ∷ []) ≡ map state_items l ++ m.items ∷ []
items_push [] m = refl
items_push (x ∷ l) m = ap (λ (r : List State). x.items ∷ r) (items_push l m)

same_committer : (i i' n n' : ℕ) (cs cs' : List Change) → i ≡ i' → n ≡ n' → cs ≡ cs' → (let c : Committer = record { place = i; number = n; changes = cs; stored = 0 } in c) ≡ record { place = i'; number = n'; changes = cs'; stored = 0 }
same_committer i i' n n' cs cs' a b d = cc

same_world : (ws : List ℕ) (h h' : List State) (l : List Started) (q q' : Option Committer) → h ≡ h' → q ≡ q'
    → (let u : World = record { words = ws; history = h; attempts = l; committer = q } in u) ≡ record { words = ws; history = h'; attempts = l; committer = q' }
same_world ws h h' l q q' a b = cc

-- the scene with its states in another vector
pub states_stay : (c : Scene) (v : Vec (Vec ℤ Global) Global) → Kept c → v.items ≡ c.states.items → Stays c (record c { states = v })
states_stay c v k e = record {
  catalogue = refl;
  kept = record {
    wide = k.wide;
    states = λ n m at. k.states n m (ap (λ (l : List (Vec ℤ Global)). slice_get l n) (sym e) ∙ at);
    count = (k.count.0, subst (λ (l : List (Vec ℤ Global)). c.count ≤ length l) (sym e) k.count.1);
    trials = k.trials;
    tasks = k.tasks;
    live = k.live;
    latest = k.latest;
    last = k.last;
    whole = k.whole;
    committer = owned c.committer k.committer;
  };
  world = ap (λ (l : List (Vec ℤ Global)). record (world_of c) { history = take c.count (map state_items l) }) e;
}
  where
    owned : (o : Option Publishing) → CommitterKept c o → CommitterKept (record c { states = v }) o
    owned None h = h ∙ ap length (sym e)
    owned (Some p) h = record {
      runs = h.runs;
      under = h.under;
      few = h.few;
      small = subst (λ (l : List (Vec ℤ Global)). p.number < length l) (sym e) h.small;
      exist = h.exist;
      ready = λ low. subst (λ (l : List (Vec ℤ Global)). (p.number ≡ c.count) × (length l ≡ c.count + 1) × (slice_get (map state_items l) c.count ≡ Some (with_changes (last_state (take c.count (map state_items l))) p.changes.items))) (sym e) (h.ready low);
      past = λ high. h.past high ∙ ap length (sym e);
    }

module _ (c : Scene) (i : ℕ) (v : Vec (Vec ℤ Global) Global) (following : Vec ℤ Global) (last : Vec ℤ Global) (ch : Vec (VarId × ℤ) Global) (ws : Known) (k : Kept c) (can : CanCommit c i)
    (here : slice_get c.states.items (c.count - 1) ≡ Some last) (is : v.items ≡ c.states.items ++ following ∷ []) (stores : following.items ≡ store ws last.items)
    (changes : ch.items ≡ differences 0 last.items following.items) where
  p : Publishing
  p = record { place = i; number = c.count; changes = ch; stored = 0 }

  abbrev c' : Scene
  c' = record c { states = v; committer = Some (record { place = i; number = c.count; changes = ch; stored = 0 }) }

  all : c.count ≡ length c.states.items
  all = subst (CommitterKept c) can.0 k.committer

  m : State
  m = last_state (take c.count (all_states c))

  m_is : last_state (take c.count (all_states c)) ≡ last.items
  m_is = last_is c last k here

  size : length last.items ≡ length (listing c).initial
  size = k.states (c.count - 1) last here

  following_size : length following.items ≡ length last.items
  following_size = ap length stores ∙ length-store ws last.items

  one_more : length v.items ≡ c.count + 1
  one_more = ap length is ∙ (length-append c.states.items (following ∷ []) ∙ ap (λ (n : ℕ). n + 1) (sym all))

  history : take c.count (map state_items v.items) ≡ take c.count (all_states c)
  history = ap (λ (l : List (Vec ℤ Global)). take c.count (map state_items l)) is
      ∙ (ap (take c.count) (items_push c.states.items following) ∙ take_push (all_states c) c.count following.items (omega (arith, items_length c.states.items, k.count.1)))

  following_at : slice_get (map state_items v.items) c.count ≡ Some following.items
  following_at = items_at v.items c.count following (ap (λ (l : List (Vec ℤ Global)). slice_get l c.count) is ∙ (ap (slice_get (c.states.items ++ following ∷ [])) all ∙ get_push_new c.states.items following))

  leads_to : with_changes (last_state (take c.count (map state_items v.items))) ch.items ≡ following.items
  leads_to = ap (λ (h : List State). with_changes (last_state h) ch.items) history ∙ (ap (λ (s : State). with_changes s ch.items) m_is
      ∙ (ap (with_changes last.items) changes ∙ changes_lead last.items following.items following_size))

  is_ready : IsReady c' (record { place = i; number = c.count; changes = ch; stored = 0 })
  is_ready = (refl, one_more, following_at ∙ ap (λ (s : State). Some s) (sym leads_to))

  publishing : PublishingKept c' (record { place = i; number = c.count; changes = ch; stored = 0 })
  publishing = record {
    runs = (can.1.0, can.1.2, can.1.3, λ x e. need_no_end can.1.1 x (sym can.1.4 ∙ e));
    under = omega arith;
    few = omega (arith, ap length changes, few_differences 0 last.items following.items, size);
    small = omega (arith, one_more);
    exist = λ j l. let e = (are_changes last.items following.items).exist j (omega (arith, l, ap length changes)) in omega (arith, e, size, ap (λ (q : List Change). id_of q j) changes);
    ready = λ low. is_ready;
    past = λ high. absurd (omega (arith, high));
  }

  pub commit_kept : Kept c'
  commit_kept = record {
    wide = k.wide;
    states = λ n s e. ⊎_elim (λ h. k.states n s h) (λ h. ap (λ (u : Vec ℤ Global). length u.items) (sym h.1) ∙ (following_size ∙ size))
        (get_push c.states.items following n s (ap (λ (l : List (Vec ℤ Global)). slice_get l n) (sym is) ∙ e));
    count = (k.count.0, omega (arith, one_more));
    trials = k.trials;
    tasks = k.tasks;
    live = k.live;
    latest = k.latest;
    last = k.last;
    whole = k.whole;
    committer = publishing;
  }

  pub commit_world : world_of c' ≡ record (world_of c) { committer = Some (committing (world_of c) i ws) }
  commit_world = same_world c.words.items _ _ (map started_of c.trials.items) _ _ history (ap (λ (q : Committer). Some q)
      (same_committer i i c.count (length (take c.count (all_states c))) ch.items (differences 0 (last_state (take c.count (all_states c))) (store ws (last_state (take c.count (all_states c))))) refl (sym (history_length c k))
      (changes ∙ (ap (differences 0 last.items) stores ∙ ap (λ (s : State). differences 0 s (store ws s)) (sym m_is)))))
