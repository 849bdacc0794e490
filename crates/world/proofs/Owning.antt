-- The committer's attempt, and the others.
use Rattle.std.proofs.Common.{◌≡◌, ◌≢◌, ℕ, sym, refl, ap, ◌∙◌, Option, Some, None, option_map, slice_get}
use Rattle.txn_programs.specs.declared.ast.TaskId.{TaskId}
use Rattle.txn_programs.specs.declared.ast.VarId.{VarId}
use Rattle.attempt.specs.declared.next.Next.TheVariants as next
use Rattle.world_law.specs.declared.events.Fate.TheVariants as fate
use Rattle.world_law.specs.declared.events.Event.TheVariants.{Drop}
use Rattle.world_law.specs.declared.events.Seen.TheVariants as seen
use Rattle.world_law.specs.World.{Started, Committer, Apart}
use Rattle.world_law.specs.Next.{Next as Steps}
use Rattle.world.specs.declared.trial.Trial.{Trial}
use Rattle.world.specs.declared.scene.Publishing.{Publishing}
use Rattle.world.specs.declared.scene.Scene.{Scene}
use Rattle.world.specs.Trials.{started_of, wants}
use Rattle.world.specs.Inside.{listing, world_of, with_trial, committer_of, CommitterKept, Kept, IsTheRunning, IsOnly, IsOwner, Leads}
use Rattle.world.proofs.Seeing.{same_place}
use Rattle.world.proofs.Putting.{Replaces, world_put, put_leads}
use Rattle.world.proofs.Standing.{running_from, running_to, runs_on, other_kept, wants_needs}

pub owner_from : (o : Option Publishing) (c : Committer) (i : ℕ) → option_map committer_of o ≡ Some c → c.place ≡ i → IsOwner o i
owner_from None c i e is = absurd (cc)
owner_from (Some p) c i e is = let same : committer_of p ≡ c = cc in ap (λ (d : Committer). d.place) same ∙ is

pub owner_apart : (o : Option Publishing) (i : ℕ) → Apart (option_map committer_of o) i → IsOwner o i → ⊥
owner_apart None i f own = own
owner_apart (Some p) i f own = f (committer_of p) refl own

pub owner_of : (o : Option Publishing) (p : Publishing) (i : ℕ) → o ≡ Some p → p.place ≡ i → IsOwner o i
owner_of None p i e is = absurd (cc)
owner_of (Some q) p i e is = let same : q ≡ p = cc in ap (λ (d : Publishing). d.place) same ∙ is

-- an attempt that stops
pub stops : (c : Scene) (i : ℕ) (t t' : Trial) → Kept c → slice_get c.trials.items i ≡ Some t → (IsOwner c.committer i → ⊥) → (f : Rattle.world_law.specs.declared.events.Fate.Fate) → t.fate ≡ fate.Running
    → Rattle.world_law.specs.World.is_live f ≡ Rattle.std.proofs.Common.false → t' ≡ record t { fate = f } → Replaces c i t t'
stops c i t t' k at own f run dead e = Rattle.std.proofs.Common.subst (λ (u : Trial). Replaces c i t u) (sym e) (record {
  was = at;
  task = refl;
  live = λ l. absurd (Rattle.std.proofs.Common.true≢false (sym l ∙ dead));
  kept = other_kept (listing c) t t.rv t.loads f t.movable t.check (k.trials i t at) (runs_on (listing c) t (k.trials i t at) run);
  own = λ p is place. own (owner_of c.committer p i is place);
  whole = λ there can. runs_on (listing c) t (k.trials i t at) run;
})

pub drop_leads : (c : Scene) (a : TaskId) (i : ℕ) (t : Trial) → Kept c → IsTheRunning c a i t → (IsOwner c.committer i → ⊥) → Leads c (Drop a) seen.Dropped (with_trial c i (record t { fate = fate.Dropped }))
drop_leads c a i t k r own = put_leads c i t (record t { fate = fate.Dropped }) (Drop a) seen.Dropped k (stops c i t (record t { fate = fate.Dropped }) k r.0 own fate.Dropped r.2 refl refl)
    (i, started_of t, (running_to c a i t r, λ d e is. own (owner_from c.committer d i e is)), world_put c i (record t { fate = fate.Dropped }))

pub drop_idle : (c : Scene) (a : TaskId) (i : ℕ) → IsOnly c a i → IsOwner c.committer i → Steps (listing c) (world_of c) (Drop a) seen.Idle (world_of c)
drop_idle c a i only own = (
  λ j y can. let u = running_from c a j y can.0 in
      owner_apart c.committer j can.1 (Rattle.std.proofs.Common.subst (IsOwner c.committer) (sym (only j u.0 u.1)) own),
  refl,
)

-- an attempt that reads is not the committer's
pub needs_apart : (c : Scene) (i : ℕ) (t : Trial) (x : VarId) → Kept c → slice_get c.trials.items i ≡ Some t → wants t ≡ Some x → IsOwner c.committer i → ⊥
needs_apart c i t x k at reads own = owned c.committer k.committer own
  where
    needs : (z : VarId) × (t.at ≡ next.Need z)
    needs = wants_needs t.at t.attempt.log t.check x reads

    owned : (o : Option Publishing) → CommitterKept c o → IsOwner o i → ⊥
    owned None h w = w
    owned (Some p) h w = h.runs.3 needs.0 (ap (λ (u : Trial). u.at) (same_place c.trials.items p.place i h.runs.0 t h.runs.1 at (sym w)) ∙ needs.1)
