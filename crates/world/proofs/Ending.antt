-- An attempt that has ended, and what becomes of it when it asks.
use Rattle.std.proofs.Common.{◌≡◌, ◌≢◌, ℕ, Bool, true, false, is_some, refl, sym, ap, ◌∙◌, subst, Option, Some, None, slice_get, take, length}
use Rattle.txn_words.specs.Words.{last_state}
use Rattle.txn_programs.specs.declared.ast.TaskId.{TaskId}
use Rattle.txn_programs.specs.declared.ast.Outcome.{Outcome}
use Rattle.txn_programs.specs.declared.ast.Outcome.TheVariants.{Returned, Thrown, Retries}
use Rattle.attempt.specs.Asking.{Known, Needs, Ends, ask}
use Rattle.attempt.specs.Frame.{Agrees}
use Rattle.attempt.specs.View.{Answers, AttemptView, next_of}
use Rattle.attempt.specs.declared.next.Next.{Next}
use Rattle.attempt.specs.declared.next.Next.TheVariants as next
use Rattle.world_law.specs.declared.events.Fate.TheVariants as fate
use Rattle.world_law.specs.declared.events.Seen.{Seen}
use Rattle.world_law.specs.declared.events.Seen.TheVariants as seen
use Rattle.world_law.specs.declared.events.Event.TheVariants.{Ask}
use Rattle.world_law.specs.World.{stand}
use Rattle.world_law.specs.Next.{CanAsk, Next as Steps}
use Rattle.world.specs.declared.trial.Trial.{Trial}
use Rattle.world.specs.declared.scene.Publishing.{Publishing}
use Rattle.world.specs.declared.scene.Scene.{Scene}
use Rattle.world.specs.Trials.{started_of}
use Rattle.world.specs.Inside.{listing, world_of, all_states, with_trial, committer_of, Kept, IsTheRunning, IsOwner, Leads}
use Rattle.world.specs.Asks.{FindsEnded, BecomesCommitter}
use Rattle.world.proofs.Putting.{world_put, put_leads}
use Rattle.world.proofs.Owning.{stops}
use Rattle.world.proofs.Standing.{asks, running_from, running_to, runs_on}
use Rattle.world.proofs.Lasting.{history_length}

ends_so : (o : Outcome) (v : AttemptView) → Answers (next_of o) v → ask v.program v.log ≡ Ends o v.writes
ends_so (Returned x) v a = a.0
ends_so (Thrown f) v a = a.0
ends_so Retries v a = a.0

at_end : (v : AttemptView) (o : Outcome) (ws : Known) (n : Next) → n ≢ next.Memory → Answers n v → ask v.program v.log ≡ Ends o ws → n ≡ next_of o
at_end v o ws (next.Need z) m a e = absurd (let s : Needs z ≡ Ends o ws = sym a.0 ∙ e in cc)
at_end v o ws (next.Returned x) m a e = let s : Ends (Returned x) v.writes ≡ Ends o ws = sym a.0 ∙ e in let t : Returned x ≡ o = cc in ap next_of t
at_end v o ws (next.Thrown f) m a e = let s : Ends (Thrown f) v.writes ≡ Ends o ws = sym a.0 ∙ e in let t : Thrown f ≡ o = cc in ap next_of t
at_end v o ws next.Retry m a e = let s : Ends Retries v.writes ≡ Ends o ws = sym a.0 ∙ e in let t : Retries ≡ o = cc in ap next_of t
at_end v o ws next.Memory m a e = absurd (m refl)

no_committer : (c : Scene) → c.committer ≡ None → (world_of c).committer ≡ None
no_committer c e = ap (λ (q : Option Publishing). Rattle.std.proofs.Common.option_map committer_of q) e

not_owner : (o : Option Publishing) (i : ℕ) → o ≡ None → IsOwner o i → ⊥
not_owner None i e own = own
not_owner (Some p) i e own = absurd (cc)

pub none_by : (o : Option Publishing) → is_some o ≡ false → o ≡ None
none_by None e = refl
none_by (Some p) e = absurd (cc)

module _ (c : Scene) (a : TaskId) (k : Kept c) where
  -- no attempt of the task has ended
  pub ask_idle : FindsEnded c a None → Steps (listing c) (world_of c) (Ask a) seen.Idle (world_of c)
  ask_idle f = (
    λ i y o ws can. let u = running_from c a i y can.0.0 in let g = k.trials i u.0 u.1.0 in
        f i u.0 o u.1 (at_end u.0.attempt o ws u.0.at (runs_on (listing c) u.0 g u.1.2) g.answers (sym (asks (listing c) u.0 g) ∙ (ap (stand (listing c)) u.2 ∙ can.0.1))),
    refl,
  )

  module _ (i : ℕ) (y : Trial) (o : Outcome) (empty : c.committer ≡ None) (r : IsTheRunning c a i y) (at : y.at ≡ next_of o) where
    pub can_ask : CanAsk (listing c) (world_of c) a i (started_of y) o y.attempt.writes
    can_ask = ((running_to c a i y r, asks (listing c) y (k.trials i y r.0) ∙ ends_so o y.attempt (subst (λ (n : Next). Answers n y.attempt) at (k.trials i y r.0).answers)), no_committer c empty)

    pub stale_leads : (Agrees y.attempt.log (last_state (take c.count (all_states c))) → ⊥) → Leads c (Ask a) seen.Stale (with_trial c i (record y { fate = fate.Stale }))
    stale_leads apart = put_leads c i y (record y { fate = fate.Stale }) (Ask a) seen.Stale k
        (stops c i y (record y { fate = fate.Stale }) k r.0 (not_owner c.committer i empty) fate.Stale r.2 refl refl)
        (i, started_of y, o, y.attempt.writes, can_ask, apart, world_put c i (record y { fate = fate.Stale }))

    pub parked_leads : Agrees y.attempt.log (last_state (take c.count (all_states c))) → o ≡ Retries → Leads c (Ask a) seen.Parked (with_trial c i (record y { fate = fate.Parked }))
    parked_leads agree retries = put_leads c i y (record y { fate = fate.Parked }) (Ask a) seen.Parked k
        (stops c i y (record y { fate = fate.Parked }) k r.0 (not_owner c.committer i empty) fate.Parked r.2 refl refl)
        (i, started_of y, y.attempt.writes, subst (λ (q : Outcome). CanAsk (listing c) (world_of c) a i (started_of y) q y.attempt.writes) retries can_ask, agree, world_put c i (record y { fate = fate.Parked }))

    pub commits_leads : Agrees y.attempt.log (last_state (take c.count (all_states c))) → (o ≢ Retries) → (s : Seen) (c' : Scene) → BecomesCommitter c i s c' → Leads c (Ask a) s c'
    commits_leads agree goes s c' h = record {
      catalogue = h.0;
      kept = h.1;
      next = subst (λ (q : Seen). Steps (listing c) (world_of c) (Ask a) q (world_of c')) (sym h.2)
          (i, started_of y, o, y.attempt.writes, can_ask, goes, agree, sym (history_length c k), h.3 y r.0);
    }
