-- Another attempt at a place.
use Rattle.std.proofs.Common.{◌≡◌, ◌≢◌, ℕ, List, map, set, ⊎_elim, sym, refl, ap, ◌∙◌, subst, true, arith, Option, Some, None, slice_get}
use Rattle.std.specs.declared.alloc.Global.{Global}
use Rattle.std.specs.declared.vec.Vec.{Vec}
use Rattle.std.specs.Vec.{with_item}
use mathlib.Core.Logic.{dite}
use native.Mathlib.Decide.{ℕ_discrete}
use Rattle.world_law.specs.declared.events.Event.{Event}
use Rattle.world_law.specs.declared.events.Seen.{Seen}
use Rattle.world_law.specs.declared.events.Seen.TheVariants as seen
use Rattle.world_law.specs.World.{Started, is_live, changed}
use Rattle.world_law.specs.Next.{Next}
use Rattle.world_law.proofs.Places.{get_set, get_set_same, get_set_other}
use Rattle.world.specs.declared.trial.Trial.{Trial}
use Rattle.world.specs.declared.scene.Publishing.{Publishing}
use Rattle.world.specs.declared.scene.Scene.{Scene}
use Rattle.attempt.specs.declared.next.Next.TheVariants as next
use Rattle.world.specs.Trials.{started_of, CanMove, TrialKept}
use Rattle.world.specs.Inside.{listing, world_of, with_trial, CommitterKept, Kept, Leads, Stays}
use Rattle.world.proofs.Seeing.{seen_set, set_same}

-- what may stand in the place of the attempt t
pub record Replaces (c : Scene) (i : ℕ) (t t' : Trial) : Type 0 where
  pub was : slice_get c.trials.items i ≡ Some t
  pub task : t'.task ≡ t.task
  pub live : is_live t'.fate ≡ true → slice_get c.latest.items t.task.0 ≡ Some (Some i)
  pub kept : TrialKept (listing c) t'
  pub own : (p : Publishing) → c.committer ≡ Some p → p.place ≡ i → ⊥
  pub whole : slice_get c.latest.items t.task.0 ≡ Some (Some i) → CanMove t' → t'.at ≢ next.Memory

committer_put : (c : Scene) (i : ℕ) (t t' : Trial) (o : Option Publishing) → Replaces c i t t' → c.committer ≡ o → CommitterKept c o → CommitterKept (with_trial c i t') o
committer_put c i t t' None r is k = k
committer_put c i t t' (Some p) r is k = record {
  runs = dite (ℕ_discrete p.place i)
      (λ same. absurd (r.own p is same))
      (λ other. (k.runs.0, get_set_other c.trials.items i p.place t' other ∙ k.runs.1, k.runs.2, k.runs.3));
  under = k.under;
  few = k.few;
  small = k.small;
  exist = k.exist;
  ready = k.ready;
  past = k.past;
}

pub kept_put : (c : Scene) (i : ℕ) (t t' : Trial) → Kept c → Replaces c i t t' → Kept (with_trial c i t')
kept_put c i t t' k r = record {
  wide = k.wide;
  states = k.states;
  count = k.count;
  trials = λ j y e. ⊎_elim (λ h. k.trials j y h.1) (λ h. subst (TrialKept (listing c)) h.1 r.kept) (get_set c.trials.items i j t' t y r.was e);
  tasks = k.tasks;
  live = λ j y e l. ⊎_elim (λ h. k.live j y h.1 l)
      (λ h. let old = r.live (ap (λ (u : Trial). is_live u.fate) h.1 ∙ l) in
      let task : y.task ≡ t.task = ap (λ (u : Trial). u.task) (sym h.1) ∙ r.task in
      let place : j ≡ i = h.0 in
      ap (λ (a : ℕ). slice_get c.latest.items a) (ap (λ (v : Rattle.txn_programs.specs.declared.ast.TaskId.TaskId). v.0) task) ∙ (old ∙ ap (λ (n : ℕ). Some (Some n)) (sym place)))
      (get_set c.trials.items i j t' t y r.was e);
  latest = λ a j e. let o = k.latest a j e in dite (ℕ_discrete j i)
      (λ same. (
        t',
        ap (slice_get (set c.trials.items i t')) same ∙ get_set_same c.trials.items i t' t r.was,
        ap (λ (v : Rattle.txn_programs.specs.declared.ast.TaskId.TaskId). v.0) r.task ∙ (ap (λ (u : Trial). u.task.0) (same_at j same o.0 o.1) ∙ o.2),
      ))
      (λ other. (o.0, get_set_other c.trials.items i j t' other ∙ o.1, o.2));
  last = λ j y e. ⊎_elim (λ h. k.last j y h.1)
      (λ h. let o = k.last i t r.was in
      let task : t.task ≡ y.task = sym r.task ∙ ap (λ (u : Trial). u.task) h.1 in
      (o.0, ap (λ (v : Rattle.txn_programs.specs.declared.ast.TaskId.TaskId). slice_get c.latest.items v.0) (sym task) ∙ o.1, (let at = h.0 in omega (arith, o.2))))
      (get_set c.trials.items i j t' t y r.was e);
  whole = λ a j y l e can. ⊎_elim (λ h. k.whole a j y l h.1 can)
      (λ h. let o = k.latest a j l in
      let place : j ≡ i = h.0 in
      let there = ap (λ (n : ℕ). slice_get c.latest.items n) (ap (λ (u : Trial). u.task.0) (same_at j place o.0 o.1) ∙ o.2) ∙ (l ∙ ap (λ (n : ℕ). Some (Some n)) place) in
      subst (λ (u : Trial). CanMove u → u.at ≢ next.Memory) h.1 (r.whole there) can)
      (get_set c.trials.items i j t' t y r.was e);
  committer = committer_put c i t t' c.committer r refl k.committer;
}
  where
    same_at : (j : ℕ) → j ≡ i → (u : Trial) → slice_get c.trials.items j ≡ Some u → t ≡ u
    same_at j same u at = let s : Some t ≡ Some u = sym r.was ∙ (ap (slice_get c.trials.items) (sym same) ∙ at) in cc

-- with the same attempts in another vector
pub kept_items : (c : Scene) (v : Vec Trial Global) → Kept c → v.items ≡ c.trials.items → Kept (record c { trials = v })
kept_items c v k e = record {
  wide = k.wide;
  states = k.states;
  count = k.count;
  trials = λ i y at. k.trials i y (ap (λ (l : List Trial). slice_get l i) (sym e) ∙ at);
  tasks = k.tasks;
  live = λ i y at. k.live i y (ap (λ (l : List Trial). slice_get l i) (sym e) ∙ at);
  latest = λ a i at. let o = k.latest a i at in (o.0, ap (λ (l : List Trial). slice_get l i) e ∙ o.1, o.2);
  last = λ i y at. k.last i y (ap (λ (l : List Trial). slice_get l i) (sym e) ∙ at);
  whole = λ a i y l at. k.whole a i y l (ap (λ (l : List Trial). slice_get l i) (sym e) ∙ at);
  committer = owned c.committer k.committer;
}
  where
    owned : (o : Option Publishing) → CommitterKept c o → CommitterKept (record c { trials = v }) o
    owned None h = h
    owned (Some p) h = record { runs = (h.runs.0, ap (λ (l : List Trial). slice_get l p.place) e ∙ h.runs.1, h.runs.2, h.runs.3); under = h.under; few = h.few; small = h.small; exist = h.exist; ready = h.ready; past = h.past }

pub items_stay : (c : Scene) (v : Vec Trial Global) → Kept c → v.items ≡ c.trials.items → Stays c (record c { trials = v })
items_stay c v k e = record { catalogue = refl; kept = kept_items c v k e; world = ap (λ (l : List Trial). record (world_of c) { attempts = map started_of l }) e }

pub world_put : (c : Scene) (i : ℕ) (t' : Trial) → world_of (with_trial c i t') ≡ changed (world_of c) i (started_of t')
world_put c i t' = ap (λ (l : List Started). record (world_of c) { attempts = l }) (seen_set c.trials.items i t')

-- the world with the attempt that was there
pub world_same : (c : Scene) (i : ℕ) (t : Trial) → slice_get c.trials.items i ≡ Some t → world_of (with_trial c i t) ≡ world_of c
world_same c i t at = ap (λ (l : List Trial). record (world_of c) { attempts = map started_of l }) (set_same c.trials.items i t at)

pub put_leads : (c : Scene) (i : ℕ) (t t' : Trial) (e : Event) (s : Seen) → Kept c → Replaces c i t t' → Next (listing c) (world_of c) e s (world_of (with_trial c i t')) → Leads c e s (with_trial c i t')
put_leads c i t t' e s k r n = record { catalogue = refl; kept = kept_put c i t t' k r; next = n }

pub idle_leads : (c : Scene) (e : Event) → Kept c → Next (listing c) (world_of c) e seen.Idle (world_of c) → Leads c e seen.Idle c
idle_leads c e k n = record { catalogue = refl; kept = k; next = n }

-- the attempt that was there, put back
pub put_stays : (c : Scene) (i : ℕ) (t : Trial) → Kept c → slice_get c.trials.items i ≡ Some t → Stays c (with_trial c i t)
put_stays c i t k at = record {
  catalogue = refl;
  kept = kept_items c (with_item c.trials i t) k (set_same c.trials.items i t at);
  world = world_same c i t at;
}
