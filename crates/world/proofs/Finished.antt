-- An attempt that is finished keeps its log alone.
use Rattle.std.proofs.Common.{◌≡◌, ◌≢◌, ℕ, ◌<◌, length, Option, Some, None, refl, sym, ap, ◌∙◌, subst, slice_get}
use Rattle.txn_programs.specs.declared.ast.VarId.{VarId}
use Rattle.attempt.specs.declared.next.Next.TheVariants as next
use Rattle.world_law.specs.declared.events.Event.{Event}
use Rattle.world_law.specs.declared.events.Seen.{Seen}
use Rattle.world_law.specs.declared.events.Fate.TheVariants as fate
use Rattle.world_law.specs.World.{World, is_live}
use Rattle.world_law.specs.Next.{Next}
use Rattle.world.specs.declared.trial.Trial.{Trial}
use Rattle.world.specs.declared.scene.Scene.{Scene}
use Rattle.world.specs.declared.scene.Publishing.{Publishing}
use Rattle.world.specs.Trials.{started_of, shortened_trial, CanMove}
use Rattle.world.specs.Inside.{listing, world_of, with_trial, CommitterKept, Kept, IsOwner, IsFinished, Leads, Stays}
use Rattle.world.proofs.Owning.{owner_of}
use Rattle.world.proofs.Putting.{Replaces, kept_put, world_put, world_same}
use Rattle.world.proofs.Seeing.{same_place}

-- the committer's attempt is not finished
finished_apart : (c : Scene) (i : ℕ) (y : Trial) → Kept c → slice_get c.trials.items i ≡ Some y → y.fate ≢ fate.Running → IsOwner c.committer i → ⊥
finished_apart c i y k at over own = owned c.committer k.committer own
  where
    owned : (o : Option Publishing) → CommitterKept c o → IsOwner o i → ⊥
    owned None h w = w
    owned (Some p) h w = over (ap (λ (u : Trial). u.fate) (same_place c.trials.items i p.place y h.runs.0 at h.runs.1 w) ∙ h.runs.2)

-- one that can't go on needs nothing
no_need : (n : ℕ) (x : VarId) → next.Memory ≡ next.Need x → x.0 < n
no_need n x e = absurd (cc)

pub shortened_stays : (c : Scene) (i : ℕ) → Kept c → (f : IsFinished c i) → Stays c (with_trial c i (shortened_trial f.0))
shortened_stays c i k f =
    let y = f.0 in record {
      catalogue = refl;
      kept = kept_put c i y (shortened_trial y) k (record {
        was = f.1;
        task = refl;
        live = λ e. k.live i y f.1 e;
        kept = record { program = (k.trials i y f.1).program; variables = (k.trials i y f.1).variables; answers = refl; needs = λ x e. no_need (length (listing c).initial) x e; over = λ e. f.2 };
        own = λ p is place. finished_apart c i y k f.1 f.2 (owner_of c.committer p i is place);
        whole = λ at can e. f.3 can at;
      });
      world = world_put c i (shortened_trial y) ∙ (sym (world_put c i y) ∙ world_same c i y f.1);
    }

-- an event, and then what changes nothing that is seen
pub leads_on : (c d d' : Scene) (e : Event) (s : Seen) → Leads c e s d → Stays d d' → Leads c e s d'
leads_on c d d' e s l t = record {
  catalogue = t.catalogue ∙ l.catalogue;
  kept = t.kept;
  next = subst (λ (w : World). Next (listing c) (world_of c) e s w) (sym t.world) l.next;
}
