-- An attempt that checks what it read, and one that runs again.
use Rattle.std.proofs.Common.{◌≡◌, ◌≢◌, ◌⊎◌, ℕ, zero, suc, ◌+◌, ◌<◌, ◌≤◌, length, Bool, true, false, if◌then◌else◌, [], ◌∷◌, ℤ, inl, inr, slice_index, refl, sym, ap, ◌∙◌, subst, arith, Option, Some, None, option_map, slice_get}
use Rattle.std.specs.Int.{w64, cast_signed}
use Rattle.std.specs.Ordering.{int_eq}
use Rattle.std.proofs.lemmas.Bool.Decides.{Decides-int_eq}
use Rattle.txn_words.specs.Stores.{new_of}
use Rattle.txn_programs.specs.declared.ast.TaskId.{TaskId}
use Rattle.txn_programs.specs.declared.ast.VarId.{VarId}
use Rattle.attempt.specs.Asking.{Known, Needs}
use Rattle.attempt.specs.View.{Answers}
use Rattle.attempt.specs.declared.next.Stand.TheVariants as stand
use Rattle.world.specs.Runs.{IsChecking}
use Rattle.attempt.specs.declared.next.Next.{Next}
use Rattle.attempt.specs.declared.next.Next.TheVariants as next
use Rattle.world_law.specs.declared.events.Fate.{Fate}
use Rattle.world_law.specs.declared.events.Fate.TheVariants as fate
use Rattle.world_law.specs.declared.events.Seen.{Seen}
use Rattle.world_law.specs.declared.events.Seen.TheVariants as seen
use Rattle.world_law.specs.declared.events.Event.TheVariants.{Second, Again}
use Rattle.world_law.specs.World.{Check, Started, World, CanBegin, IsLatest, Reading, changed, stand as stand_of, is_live, version_now}
use Rattle.world_law.specs.Next.{Next as Steps, told, checks_on, reads_on, goes_again, CanGoAgain}
use Rattle.world_law.specs.declared.events.Loads.{Loads}
use Rattle.world_law.specs.declared.events.Loads.TheVariants as loads
use Rattle.world.specs.declared.trial.Checking.{Checking}
use Rattle.world.specs.declared.trial.Trial.{Trial}
use Rattle.world.specs.declared.scene.Publishing.{Publishing}
use Rattle.world.specs.declared.scene.Scene.{Scene}
use Rattle.world.specs.Trials.{check_of, started_of, wanted_at, wants, TrialKept, CanEndRead, ChecksOnWith, Compares, ReadsOn, LoadsSecond, MayGoAgain, GoesAgain, answer_seen}
use Rattle.world.specs.Inside.{listing, world_of, with_trial, CommitterKept, Kept, IsTheRunning, IsOnly, IsTheLatest, IsOwner, Leads}
use Rattle.world.proofs.Seeing.{same_place, seen_at, seen_from}
use Rattle.world.proofs.Putting.{Replaces, world_put, put_leads}
use Rattle.world.proofs.Owning.{owner_of, needs_apart}
use Rattle.world.proofs.Standing.{running_to, reading_to, reading_from, the_one, stands_at, needs_at, runs_on, other_kept, wants_needs}
use Rattle.world.proofs.Loading.{became, becomes, replaces, good, stale_replaces}
use Rattle.world.proofs.Going.{second_goes}
use Rattle.world.proofs.Starting.{can_some, cannot_some}
use Rattle.world.proofs.Finding.{live_latest}

-- where it needs x, what is seen of an attempt that goes on with a check is what the world sees
pub seen_on : (c : Scene) (t : Trial) (z : VarId) (n checked : ℕ) (o : Option (VarId × ℤ)) (s : Seen) (t' : Trial) → TrialKept (listing c) t → t.at ≡ next.Need z → ChecksOnWith t n checked o s t' → s ≡ (checks_on (listing c) (started_of t) n checked o).0
seen_on c t z n checked (Some p) s t' k at h = h.0
seen_on c t z n checked None s t' k at h = h.0 ∙ (ap answer_seen at ∙ ap told (sym (stands_at (listing c) t z k at)))

-- and so is what it is then
pub then_on : (c : Scene) (t : Trial) (n checked : ℕ) (o : Option (VarId × ℤ)) (s : Seen) (t' : Trial) → ChecksOnWith t n checked o s t' → started_of t' ≡ (checks_on (listing c) (started_of t) n checked o).1
then_on c t n checked (Some p) s t' h = ap started_of h.1
then_on c t n checked None s t' h = ap started_of h.1

-- what is seen is that it checks a variable, or needs one
pub told_on : (t : Trial) (z : VarId) (n checked : ℕ) (o : Option (VarId × ℤ)) (s : Seen) (t' : Trial) → t.at ≡ next.Need z → ChecksOnWith t n checked o s t' → ((x : VarId) × (s ≡ seen.Checks x)) ⊎ (s ≡ seen.Needs z)
told_on t z n checked (Some p) s t' at h = inl (p.0, h.0)
told_on t z n checked None s t' at h = inr (h.0 ∙ ap answer_seen at)

pub on_task : (t : Trial) (n checked : ℕ) (o : Option (VarId × ℤ)) (s : Seen) (t' : Trial) → ChecksOnWith t n checked o s t' → t'.task ≡ t.task
on_task t n checked (Some p) s t' h = ap (λ (u : Trial). u.task) h.1
on_task t n checked None s t' h = ap (λ (u : Trial). u.task) h.1

-- it stands where it stood
on_at : (t : Trial) (n checked : ℕ) (o : Option (VarId × ℤ)) (s : Seen) (t' : Trial) → ChecksOnWith t n checked o s t' → t'.at ≡ t.at
on_at t n checked (Some p) s t' h = ap (λ (u : Trial). u.at) h.1
on_at t n checked None s t' h = ap (λ (u : Trial). u.at) h.1

pub on_kept : (c : Scene) (t : Trial) (n checked : ℕ) (o : Option (VarId × ℤ)) (s : Seen) (t' : Trial) → TrialKept (listing c) t → t.at ≢ next.Memory → ChecksOnWith t n checked o s t' → TrialKept (listing c) t'
on_kept c t n checked (Some p) s t' k m h = subst (TrialKept (listing c)) (sym h.1) (other_kept (listing c) t t.rv loads.Nothing t.fate t.movable (Some record { candidate = n; checked = checked }) k m)
on_kept c t n checked None s t' k m h = subst (TrialKept (listing c)) (sym h.1) (other_kept (listing c) t n loads.Nothing t.fate t.movable None k m)

-- ---- a check

within_at : (log : Known) (n : ℕ) (x : VarId) → option_map (λ (p : VarId × ℤ). p.0) (slice_get log n) ≡ Some x → n < length log
within_at [] n x e = absurd (cc)
within_at (p ∷ log) zero x e = omega arith
within_at (p ∷ log) (suc n) x e = let low = within_at log n x e in omega arith

-- an attempt that reads x may end that read
can_end_by : (t : Trial) (x : VarId) (n : Next) (o : Option Checking) → Answers n t.attempt → wanted_at n t.attempt.log o ≡ Some x → CanEndRead t x o
can_end_by t x (next.Need z) None a e = let same : z ≡ x = cc in a.1 ∙ ap (λ (v : VarId). stand.Needs v) same
can_end_by t x (next.Need z) (Some d) a e = within_at t.attempt.log d.checked x e
can_end_by t x (next.Returned v) o a e = absurd (cc)
can_end_by t x (next.Thrown f) o a e = absurd (cc)
can_end_by t x next.Retry o a e = absurd (cc)
can_end_by t x next.Memory o a e = absurd (cc)

pub can_end : (c : Scene) (i : ℕ) (t : Trial) (x : VarId) → Kept c → slice_get c.trials.items i ≡ Some t → wants t ≡ Some x → CanEndRead t x t.check
can_end c i t x k at reads = can_end_by t x t.at t.check (k.trials i t at).answers reads

-- the running attempt of a task that checks
pub checks_now : (c : Scene) (a : TaskId) (i : ℕ) (t : Trial) → IsTheRunning c a i t → IsChecking (world_of c) a → t.check ≢ None
checks_now c a i t r h e = h i (started_of t) (running_to c a i t r) (ap (λ (o : Option Checking). option_map check_of o) e)

module _ (c : Scene) (a : TaskId) (x : VarId) (i : ℕ) (t t' : Trial) (s : Seen) (k : Kept c) (r : IsTheRunning c a i t) (at : wants t ≡ Some x)
    (first bits : ℕ) (ls : t.loads ≡ loads.Value first bits) (same : version_now (world_of c) x ≡ first) where
  read : Reading (listing c) (world_of c) a i (started_of t) x (loads.Value first bits)
  read = subst (λ (o : Loads). Reading (listing c) (world_of c) a i (started_of t) x o) ls (reading_to c a i t x k r at)

  abbrev on : Seen × Started
  on = reads_on (listing c) (started_of t) x bits (started_of t).check

  needs : (z : VarId) × (t.at ≡ next.Need z)
  needs = wants_needs t.at t.attempt.log t.check x at

  mine : IsOwner c.committer i → ⊥
  mine = needs_apart c i t x k r.0 at

  -- what is seen, and what it is then, are those of the world
  by_check : (z : Seen) → s ≡ z → ((z ≡ seen.Changed) ⊎ (((x : VarId) × (z ≡ seen.Checks x)) ⊎ (z ≡ seen.Needs needs.0))) → s ≡ on.0 → started_of t' ≡ on.1 → Steps (listing c) (world_of c) (Second a) s (world_of (with_trial c i t'))
  by_check z e (inl is) tells after = subst (λ (q : Seen). Steps (listing c) (world_of c) (Second a) q (world_of (with_trial c i t'))) (sym (e ∙ is))
      (i, first, bits, started_of t, x, read, same, sym (e ∙ is) ∙ tells, world_put c i t' ∙ ap (changed (world_of c) i) after)
  by_check z e (inr (inl is)) tells after = subst (λ (q : Seen). Steps (listing c) (world_of c) (Second a) q (world_of (with_trial c i t'))) (sym (e ∙ is.1))
      (i, first, bits, started_of t, x, read, same, sym (e ∙ is.1) ∙ tells, world_put c i t' ∙ ap (changed (world_of c) i) after)
  by_check z e (inr (inr is)) tells after = subst (λ (q : Seen). Steps (listing c) (world_of c) (Second a) q (world_of (with_trial c i t'))) (sym (e ∙ is))
      (i, first, bits, started_of t, x, read, same, sym (e ∙ is) ∙ tells, world_put c i t' ∙ ap (changed (world_of c) i) after)

  -- the comparison
  abbrev by_test : Checking → Bool → Seen × Started
  by_test d b =
      if b then checks_on (listing c) (started_of t) d.candidate (d.checked + 1) (slice_get t.attempt.log (d.checked + 1)) else (seen.Changed, record (started_of t) { fate = fate.Stale })

  turn : (d : Checking) (b : Bool) → t.check ≡ Some d → int_eq (cast_signed w64 bits) (new_of t.attempt.log d.checked) ≡ b → by_test d b ≡ on
  turn d b is e = ap (by_test d) (sym e) ∙ ap (λ (o : Option Checking). reads_on (listing c) (started_of t) x bits (option_map check_of o)) (sym is)

  compared : (d : Checking) → t.check ≡ Some d → Compares t d (cast_signed w64 bits) s t' → Leads c (Second a) s (with_trial c i t')
  compared d is (inl h) =
      let o : Option (VarId × ℤ) = slice_get t.attempt.log (d.checked + 1) in
      let g = k.trials i t r.0 in
      let m = runs_on (listing c) t g r.2 in
      let equal = turn d true is ((Decides-int_eq (cast_signed w64 bits) (new_of t.attempt.log d.checked)).1 h.0) in
      put_leads c i t t' (Second a) s k
      (record {
        was = r.0;
        task = on_task t d.candidate (d.checked + 1) o s t' h.1;
        live = λ e. k.live i t r.0 (ap is_live r.2);
        kept = on_kept c t d.candidate (d.checked + 1) o s t' g m h.1;
        own = λ p is place. mine (owner_of c.committer p i is place);
        whole = λ there can e. m (sym (on_at t d.candidate (d.checked + 1) o s t' h.1) ∙ e);
      })
      (by_check s refl (inr (told_on t needs.0 d.candidate (d.checked + 1) o s t' needs.1 h.1))
      (seen_on c t needs.0 d.candidate (d.checked + 1) o s t' g needs.1 h.1 ∙ ap (λ (q : Seen × Started). q.0) equal)
      (then_on c t d.candidate (d.checked + 1) o s t' h.1 ∙ ap (λ (q : Seen × Started). q.1) equal))
  compared d is (inr h) =
      let differ = turn d false is (unequal (cast_signed w64 bits) (new_of t.attempt.log d.checked) h.0) in
      put_leads c i t t' (Second a) s k
      (replaces c a i t t' k r mine (record t { fate = fate.Stale }) h.2 refl refl (good c a i t t' k r mine t.rv t.loads fate.Stale t.movable t.check))
      (by_check s refl (inl h.1) (h.1 ∙ ap (λ (q : Seen × Started). q.0) differ) (ap started_of h.2 ∙ ap (λ (q : Seen × Started). q.1) differ))
    where
      unequal : (p q : ℤ) → p ≢ q → int_eq p q ≡ false
      unequal p q n = by (int_eq p q) refl
        where
          by : (b : Bool) → int_eq p q ≡ b → int_eq p q ≡ false
          by true e = absurd (n ((Decides-int_eq p q).0 e))
          by false e = e

  pub read_leads : (o : Option Checking) → t.check ≡ o → ReadsOn t x bits o s t' → Leads c (Second a) s (with_trial c i t')
  read_leads None is h = second_goes c a x i t t' s k r at is first bits ls same h
  read_leads (Some d) is h = compared d is h

pub second_leads : (c : Scene) (a : TaskId) (x : VarId) (i : ℕ) (t t' : Trial) (s : Seen) → Kept c → IsTheRunning c a i t → IsOnly c a i → wants t ≡ Some x
    → LoadsSecond t x (version_now (world_of c) x) s t' → Leads c (Second a) s (with_trial c i t')
second_leads c a x i t t' s k r only at (inl h) =
    subst (λ (q : Seen). Leads c (Second a) q (with_trial c i t')) (sym h.1)
    (put_leads c i t t' (Second a) seen.Idle k (replaces c a i t t' k r (needs_apart c i t x k r.0 at) t h.2 refl refl (k.trials i t r.0)) (
      λ j first bits y z q. let u = reading_from c a j y z (loads.Value first bits) k q in
          h.0 first bits (ap (λ (v : Trial). v.loads) (the_one c a i j t u.0 r only u.1) ∙ u.3),
      became c i t t' h.2 r.0,
    ))
second_leads c a x i t t' s k r only at (inr (first, bits, ls, inl h)) =
    subst (λ (q : Seen). Leads c (Second a) q (with_trial c i t')) (sym h.1)
    (put_leads c i t t' (Second a) seen.Stale k (stale_replaces c a i t t' k r (needs_apart c i t x k r.0 at) h.2)
    (i, first, bits, started_of t, x, subst (λ (o : Loads). Reading (listing c) (world_of c) a i (started_of t) x o) ls (reading_to c a i t x k r at), h.0, becomes c i t t' _ h.2))
second_leads c a x i t t' s k r only at (inr (first, bits, ls, inr h)) = read_leads c a x i t t' s k r at first bits ls h.0 t.check refl h.1

-- ---- running again

-- the world's latest attempt is the latest
pub latest_to : (c : Scene) (a : TaskId) (i : ℕ) (t : Trial) → Kept c → IsTheLatest c a i t → t.task ≡ a → IsLatest (world_of c) a i (started_of t)
latest_to c a i t k is task = (
  seen_at c.trials.items i t is.0,
  task,
  λ j y at mine. let u = seen_from c.trials.items j y at in
      let o = k.last j u.0 u.1 in
      let own : u.0.task ≡ a = ap (λ (v : Started). v.task) u.2 ∙ mine in
      let both : Some (Some o.0) ≡ Some (Some i) = sym o.1 ∙ (ap (λ (b : TaskId). slice_get c.latest.items b.0) own ∙ is.1) in
      let place : o.0 ≡ i = cc in omega (arith, o.2, place),
)

pub latest_from : (c : Scene) (a : TaskId) (i : ℕ) (y : Started) → Kept c → IsLatest (world_of c) a i y → (t : Trial) × IsTheLatest c a i t × (started_of t ≡ y)
latest_from c a i y k is =
    let u = seen_from c.trials.items i y is.0 in
    let own : u.0.task ≡ a = ap (λ (v : Started). v.task) u.2 ∙ is.1 in
    let o = k.last i u.0 u.1 in
    let there = sym (ap (λ (b : TaskId). slice_get c.latest.items b.0) own) ∙ o.1 in
    let later = k.latest a.0 o.0 there in
    let low = is.2 o.0 (started_of later.0) (seen_at c.trials.items o.0 later.0 later.1) (ap (λ (n : ℕ). let v : TaskId = record { 0 = n } in v) later.2) in
    let place : o.0 ≡ i = omega (arith, o.2, low) in
    (u.0, (u.1, there ∙ ap (λ (n : ℕ). Some (Some n)) place), u.2)

-- the committer's attempt runs
stale_apart : (c : Scene) (i : ℕ) (t : Trial) → Kept c → slice_get c.trials.items i ≡ Some t → t.fate ≡ fate.Stale → IsOwner c.committer i → ⊥
stale_apart c i t k at stale own = owned c.committer k.committer own
  where
    owned : (o : Option Publishing) → CommitterKept c o → IsOwner o i → ⊥
    owned None h w = w
    owned (Some p) h w = let both : fate.Running ≡ fate.Stale = sym h.runs.2 ∙ (ap (λ (u : Trial). u.fate) (same_place c.trials.items p.place i h.runs.0 t h.runs.1 at (sym w)) ∙ stale) in cc

module _ (c : Scene) (a : TaskId) (k : Kept c) where
  -- the attempt that may run again does
  pub again_leads : (i : ℕ) (t t' : Trial) (s : Seen) → IsTheLatest c a i t → t.task ≡ a → MayGoAgain t → GoesAgain t (slice_index c.words.items 0) s t' → Leads c (Again a) s (with_trial c i t')
  again_leads i t t' s is task may h =
      let clock : ℕ = slice_index c.words.items 0 in
      let z : Trial = record t { fate = fate.Running; movable = false } in
      let o : Option (VarId × ℤ) = slice_get t.attempt.log 0 in
      let x = may.2 in
      let g = k.trials i t is.0 in
      let m : t.at ≢ next.Memory = λ e. let both : next.Need x.0 ≡ next.Memory = sym x.1 ∙ e in cc in
      let kept = other_kept (listing c) t t.rv t.loads fate.Running false t.check g m in
      let dead : is_live t.fate ≡ false = ap is_live may.0 in
      let can : CanGoAgain (listing c) (world_of c) a i (started_of t) x.0 =
      (can_some c k a i t is.1 is.0 dead, latest_to c a i t k is task, may.0, may.1, stands_at (listing c) t x.0 g x.1) in
      put_leads c i t t' (Again a) s k
      (record {
        was = is.0;
        task = on_task z clock 0 o s t' h;
        live = λ e. ap (λ (b : TaskId). slice_get c.latest.items b.0) task ∙ is.1;
        kept = on_kept c z clock 0 o s t' kept m h;
        own = λ p e place. stale_apart c i t k is.0 may.0 (owner_of c.committer p i e place);
        whole = λ there can e. m (sym (on_at z clock 0 o s t' h) ∙ e);
      })
      (by_again i t t' s (told_on z x.0 clock 0 o s t' x.1 h) x.0 can (seen_on c z x.0 clock 0 o s t' kept x.1 h)
      (world_put c i t' ∙ ap (changed (world_of c) i) (then_on c z clock 0 o s t' h)))
    where
      by_again : (i : ℕ) (t t' : Trial) (s : Seen) {z : VarId} → ((x : VarId) × (s ≡ seen.Checks x)) ⊎ (s ≡ seen.Needs z) → (x : VarId) → CanGoAgain (listing c) (world_of c) a i (started_of t) x → s ≡ (goes_again (listing c) (world_of c) (started_of t)).0
          → world_of (with_trial c i t') ≡ changed (world_of c) i (goes_again (listing c) (world_of c) (started_of t)).1 → Steps (listing c) (world_of c) (Again a) s (world_of (with_trial c i t'))
      by_again i t t' s (inl is) x can tells after = subst (λ (q : Seen). Steps (listing c) (world_of c) (Again a) q (world_of (with_trial c i t'))) (sym is.1) (i, started_of t, x, can, sym is.1 ∙ tells, after)
      by_again i t t' s (inr is) x can tells after = subst (λ (q : Seen). Steps (listing c) (world_of c) (Again a) q (world_of (with_trial c i t'))) (sym is) (i, started_of t, x, can, sym is ∙ tells, after)

  -- no attempt may run again
  pub again_idle : ((i : ℕ) (t : Trial) → IsTheLatest c a i t → MayGoAgain t → ⊥) → Steps (listing c) (world_of c) (Again a) seen.Idle (world_of c)
  again_idle none = (
    λ i y x can. let u = latest_from c a i y k can.1 in
        let g = k.trials i u.0 u.1.0 in
        let stale : u.0.fate ≡ fate.Stale = ap (λ (v : Started). v.fate) u.2 ∙ can.2 in
        let movable : u.0.movable ≡ true = ap (λ (v : Started). v.movable) u.2 ∙ can.3 in
        let needs = needs_at (listing c) u.0 x g (k.whole a.0 i u.0 u.1.1 u.1.0 (stale, movable)) (ap (stand_of (listing c)) u.2 ∙ can.4) in
        none i u.0 u.1 (stale, movable, (x, needs)),
    refl,
  )
