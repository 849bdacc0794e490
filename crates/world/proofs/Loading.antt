-- The loads of an attempt are the events of the world.
use Rattle.std.proofs.Common.{◌≡◌, ◌≢◌, ℕ, Bool, true, [], ◌∷◌, Option, sym, refl, ap, ◌∙◌, subst, Some, slice_get}
use Rattle.txn_programs.specs.declared.ast.TaskId.{TaskId}
use Rattle.txn_programs.specs.declared.ast.VarId.{VarId}
use Rattle.attempt.specs.declared.next.Next.TheVariants as next
use Rattle.world_law.specs.declared.events.Fate.TheVariants as fate
use Rattle.world_law.specs.declared.events.Event.TheVariants.{First, Value}
use Rattle.world_law.specs.declared.events.Seen.{Seen}
use Rattle.world_law.specs.declared.events.Seen.TheVariants as seen
use Rattle.world_law.specs.World.{Reading, is_live, changed, version_now, value_now}
use Rattle.world_law.specs.Next.{Next}
use Rattle.world_law.proofs.Places.{same_some}
use Rattle.world_law.specs.declared.events.Fate.{Fate}
use Rattle.world.specs.declared.trial.Checking.{Checking}
use Rattle.world_law.specs.declared.events.Loads.{Loads}
use Rattle.world_law.specs.declared.events.Loads.TheVariants as loads
use Rattle.world.specs.declared.trial.Trial.{Trial}
use Rattle.world.specs.declared.scene.Scene.{Scene}
use Rattle.world.specs.Trials.{started_of, wants, TrialKept, LoadsFirst, LoadsValue}
use Rattle.world.specs.Inside.{listing, world_of, with_trial, Kept, IsTheRunning, IsOnly, IsOwner, Leads}
use Rattle.world.proofs.Putting.{Replaces, world_put, world_same, put_leads}
use Rattle.world.proofs.Owning.{owner_of, needs_apart}
use Rattle.world.proofs.Standing.{reading_to, reading_from, the_one, runs_on, other_kept}

-- the world after the attempt became t'
module _ (c : Scene) (i : ℕ) (t t' : Trial) where
  pub became : t' ≡ t → slice_get c.trials.items i ≡ Some t → world_of (with_trial c i t') ≡ world_of c
  became e at = ap (λ (u : Trial). world_of (with_trial c i u)) e ∙ world_same c i t at

  pub becomes : (z : Trial) → t' ≡ z → world_of (with_trial c i t') ≡ changed (world_of c) i (started_of z)
  becomes z e = ap (λ (u : Trial). world_of (with_trial c i u)) e ∙ world_put c i z

pub first_next : (c : Scene) (a : TaskId) (x : VarId) (i : ℕ) (t t' : Trial) (s : Seen) → Kept c → IsTheRunning c a i t → IsOnly c a i → wants t ≡ Some x
    → LoadsFirst t (version_now (world_of c) x) s t' → Next (listing c) (world_of c) (First a x) s (world_of (with_trial c i t'))
first_next c a x i t t' seen.Idle k r only at h = (
  λ j y q. let u = reading_from c a j y x loads.Nothing k q in
      h.0 (ap (λ (z : Trial). z.loads) (the_one c a i j t u.0 r only u.1) ∙ u.3),
  became c i t t' h.1 r.0,
)
first_next c a x i t t' seen.Stale k r only at h =
    (i, started_of t, subst (λ (ls : Loads). Reading (listing c) (world_of c) a i (started_of t) x ls) h.0 (reading_to c a i t x k r at), h.1, becomes c i t t' _ h.2)
first_next c a x i t t' seen.Loaded k r only at h =
    (i, started_of t, subst (λ (ls : Loads). Reading (listing c) (world_of c) a i (started_of t) x ls) h.0 (reading_to c a i t x k r at), h.1, h.2, becomes c i t t' _ h.3)
first_next c a x i t t' s k r only at h = absurd h

pub value_next : (c : Scene) (a : TaskId) (x : VarId) (i : ℕ) (t t' : Trial) (s : Seen) → Kept c → IsTheRunning c a i t → IsOnly c a i → wants t ≡ Some x
    → LoadsValue t (value_now (world_of c) x) s t' → Next (listing c) (world_of c) (Value a) s (world_of (with_trial c i t'))
value_next c a x i t t' seen.Idle k r only at h = (
  λ j first y z q. let u = reading_from c a j y z (loads.Version first) k q in
      h.0 first (ap (λ (z : Trial). z.loads) (the_one c a i j t u.0 r only u.1) ∙ u.3),
  became c i t t' h.1 r.0,
)
value_next c a x i t t' seen.Loaded k r only at h =
    (i, h.0, started_of t, x, subst (λ (ls : Loads). Reading (listing c) (world_of c) a i (started_of t) x ls) h.1 (reading_to c a i t x k r at), becomes c i t t' _ h.2)
value_next c a x i t t' s k r only at h = absurd h

-- what a load leaves in the attempt's place
module _ (c : Scene) (a : TaskId) (i : ℕ) (t t' : Trial) (k : Kept c) (r : IsTheRunning c a i t) (own : IsOwner c.committer i → ⊥) where
  pub replaces : (z : Trial) → t' ≡ z → z.task ≡ t.task → z.at ≡ t.at → TrialKept (listing c) z → Replaces c i t t'
  replaces z e task stays good = subst (λ (u : Trial). Replaces c i t u) (sym e) (record {
    was = r.0;
    task = task;
    live = λ l. k.live i t r.0 (ap is_live r.2);
    kept = good;
    own = λ p is place. own (owner_of c.committer p i is place);
    whole = λ there can m. runs_on (listing c) t (k.trials i t r.0) r.2 (sym stays ∙ m);
  })

  pub good : (n : ℕ) (o : Loads) (f : Fate) (b : Bool) (q : Option Checking) → TrialKept (listing c) (record t { rv = n; loads = o; fate = f; movable = b; check = q })
  good n o f b q = other_kept (listing c) t n o f b q (k.trials i t r.0) (runs_on (listing c) t (k.trials i t r.0) r.2)

  pub stale_replaces : t' ≡ record t { fate = fate.Stale; movable = true } → Replaces c i t t'
  stale_replaces e = replaces (record t { fate = fate.Stale; movable = true }) e refl refl (good t.rv t.loads fate.Stale true t.check)

  pub first_replaces : (version : ℕ) (s : Seen) → LoadsFirst t version s t' → Replaces c i t t'
  first_replaces version seen.Idle h = replaces t h.1 refl refl (k.trials i t r.0)
  first_replaces version seen.Stale h = stale_replaces h.2
  first_replaces version seen.Loaded h = replaces (record t { loads = loads.Version version }) h.3 refl refl (good t.rv (loads.Version version) t.fate t.movable t.check)
  first_replaces version s h = absurd h

  pub value_replaces : (bits : ℕ) (s : Seen) → LoadsValue t bits s t' → Replaces c i t t'
  value_replaces bits seen.Idle h = replaces t h.1 refl refl (k.trials i t r.0)
  value_replaces bits seen.Loaded h = replaces (record t { loads = loads.Value h.0 bits }) h.2 refl refl (good t.rv (loads.Value h.0 bits) t.fate t.movable t.check)
  value_replaces bits s h = absurd h

pub first_leads : (c : Scene) (a : TaskId) (x : VarId) (i : ℕ) (t t' : Trial) (s : Seen) → Kept c → IsTheRunning c a i t → IsOnly c a i → wants t ≡ Some x
    → LoadsFirst t (version_now (world_of c) x) s t' → Leads c (First a x) s (with_trial c i t')
first_leads c a x i t t' s k r only at h = put_leads c i t t' (First a x) s k
    (first_replaces c a i t t' k r (needs_apart c i t x k r.0 at) (version_now (world_of c) x) s h) (first_next c a x i t t' s k r only at h)

pub value_leads : (c : Scene) (a : TaskId) (x : VarId) (i : ℕ) (t t' : Trial) (s : Seen) → Kept c → IsTheRunning c a i t → IsOnly c a i → wants t ≡ Some x
    → LoadsValue t (value_now (world_of c) x) s t' → Leads c (Value a) s (with_trial c i t')
value_leads c a x i t t' s k r only at h = put_leads c i t t' (Value a) s k
    (value_replaces c a i t t' k r (needs_apart c i t x k r.0 at) (value_now (world_of c) x) s h) (value_next c a x i t t' s k r only at h)

-- the attempt needs one variable
pub first_idle : (c : Scene) (a : TaskId) (x z : VarId) (i : ℕ) (t : Trial) → Kept c → IsTheRunning c a i t → IsOnly c a i → wants t ≡ Some z → z ≢ x
    → Next (listing c) (world_of c) (First a x) seen.Idle (world_of c)
first_idle c a x z i t k r only at other = (
  λ j y q. let u = reading_from c a j y x loads.Nothing k q in
      other (same_some z x (sym at ∙ (ap wants (the_one c a i j t u.0 r only u.1) ∙ u.2))),
  refl,
)
