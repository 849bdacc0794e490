-- An attempt that ends its read, and one that begins, go on as the world says.
use Rattle.std.proofs.Common.{◌≡◌, ◌≢◌, ℕ, ◌<◌, Bool, List, [], ◌∷◌, length, Option, Some, None, option_map, sym, refl, ap, ◌∙◌, subst}
use Rattle.txn_programs.specs.Listing.{Listing, task_program}
use Rattle.txn_programs.specs.Tree.{Program}
use Rattle.txn_programs.specs.declared.ast.TaskId.{TaskId}
use Rattle.txn_programs.specs.declared.ast.VarId.{VarId}
use Rattle.attempt.specs.Asking.{Known, ask}
use Rattle.attempt.specs.View.{Answers, AttemptView}
use Rattle.attempt.specs.declared.next.Next.{Next}
use Rattle.attempt.specs.declared.next.Next.TheVariants as next
use Rattle.world_law.specs.declared.events.Fate.{Fate}
use Rattle.world_law.specs.declared.events.Fate.TheVariants as fate
use Rattle.world_law.specs.declared.events.Seen.{Seen}
use Rattle.world_law.specs.declared.events.Seen.TheVariants as seen
use Rattle.world_law.specs.declared.events.Event.TheVariants.{Second}
use Rattle.world_law.specs.World.{Check, Started, World, Reading, changed, stand, is_live, version_now, with_read, with_fate}
use Rattle.world_law.specs.Next.{Next as Steps, told, reads_on}
use Rattle.world_law.specs.declared.events.Loads.{Loads}
use Rattle.world_law.specs.declared.events.Loads.TheVariants as loads
use Rattle.world.specs.declared.trial.Checking.{Checking}
use Rattle.world.specs.declared.trial.Trial.{Trial}
use Rattle.world.specs.declared.scene.Scene.{Scene}
use Rattle.world.specs.Trials.{check_of, started_of, wants, TrialKept, GoesOn, told_value, answer_seen, answer_fate}
use Rattle.world.specs.Inside.{listing, world_of, with_trial, Kept, IsTheRunning, Leads}
use Rattle.world.proofs.Putting.{world_put, put_leads}
use Rattle.world.proofs.Owning.{owner_of, needs_apart}
use Rattle.world.proofs.Standing.{reading_to}

pub same_started : (a b : TaskId) (n m : ℕ) (g h : Known) (p q : Loads) (f e : Fate) (c d : Bool) (r s : Option Check) → a ≡ b → n ≡ m → g ≡ h → p ≡ q → f ≡ e → c ≡ d → r ≡ s
    → (let y : Started = record { task = a; rv = n; log = g; loads = p; fate = f; movable = c; check = r } in y) ≡ record { task = b; rv = m; log = h; loads = q; fate = e; movable = d; check = s }
same_started a b n m g h p q f e c d r s i j k l o u v = λ t. record { task = i t; rv = j t; log = k t; loads = l t; fate = o t; movable = u t; check = v t }

-- what is seen is what its program answers
pub tells : (n : Next) (v : AttemptView) → n ≢ next.Memory → Answers n v → answer_seen n ≡ told (ask v.program v.log)
tells (next.Need x) v m a = ap told (sym a.0)
tells (next.Returned x) v m a = ap told (sym a.0)
tells (next.Thrown f) v m a = ap told (sym a.0)
tells next.Retry v m a = ap told (sym a.0)
tells next.Memory v m a = absurd (m refl)

-- it keeps running, unless it ran out of memory
pub fates : (n : Next) (f : Fate) → n ≢ next.Memory → answer_fate n f ≡ f
fates (next.Need x) f m = refl
fates (next.Returned x) f m = refl
fates (next.Thrown x) f m = refl
fates next.Retry f m = refl
fates next.Memory f m = absurd (m refl)

-- an attempt that went on, from y
module _ (l : Listing) (y : Trial) (s : Seen) (y' : Trial) (p : y.attempt.program ≡ task_program l y.task) (v : y.attempt.variables ≡ length l.initial) (g : GoesOn y s y') where
  pub gone_kept : TrialKept l y'
  gone_kept = record {
    program = g.program ∙ (p ∙ ap (task_program l) (sym g.task));
    variables = g.variables ∙ v;
    answers = g.answers;
    needs = λ x e. subst (λ (n : ℕ). x.0 < n) (g.variables ∙ v) (g.needs x e);
    over = λ m run. let both : fate.Spent ≡ fate.Running = sym (g.fate ∙ ap (λ (n : Next). answer_fate n y.fate) m) ∙ run in cc;
  }

-- an attempt that ended its read of x, without a check
module _ (c : Scene) (a : TaskId) (x : VarId) (i : ℕ) (t t' : Trial) (s : Seen) (k : Kept c) (r : IsTheRunning c a i t) (at : wants t ≡ Some x) (plain : t.check ≡ None)
    (first bits : ℕ) (ls : t.loads ≡ loads.Value first bits) (same : version_now (world_of c) x ≡ first) (g : GoesOn (told_value t x bits) s t') where
  abbrev w : World
  w = world_of c

  abbrev w' : World
  w' = world_of (with_trial c i t')

  reads : Reading (listing c) w a i (started_of t) x (loads.Value first bits)
  reads = subst (λ (o : Loads). Reading (listing c) w a i (started_of t) x o) ls (reading_to c a i t x k r at)

  no_check : (started_of t).check ≡ None
  no_check = ap (λ (o : Option Checking). option_map check_of o) plain

  asked : ask t'.attempt.program t'.attempt.log ≡ stand (listing c) (with_read (started_of t) x bits)
  asked = ap (λ (p : Program). ask p t'.attempt.log) (g.program ∙ (k.trials i t r.0).program) ∙ ap (ask (task_program (listing c) t.task)) g.log

  ended : (f : Fate) → t'.fate ≡ f → w' ≡ changed w i (with_fate (with_read (started_of t) x bits) f)
  ended f e = world_put c i t' ∙ ap (changed w i)
      (same_started t'.task t.task t'.rv t.rv t'.attempt.log _ t'.loads loads.Nothing t'.fate f t'.movable t.movable (option_map check_of t'.check) (option_map check_of t.check) g.task g.rv g.log g.loads e g.movable (ap (λ (o : Option Checking). option_map check_of o) g.check))

  -- what it read without a check it knows
  known : reads_on (listing c) (started_of t) x bits None ≡ reads_on (listing c) (started_of t) x bits (started_of t).check
  known = ap (reads_on (listing c) (started_of t) x bits) (sym no_check)

  running : (n : Next) → t'.at ≡ n → n ≢ next.Memory → w' ≡ changed w i (reads_on (listing c) (started_of t) x bits (started_of t).check).1
  running n e m = ended t.fate (g.fate ∙ (ap (λ (q : Next). answer_fate q t.fate) e ∙ fates n t.fate m)) ∙ ap (λ (q : Seen × Started). changed w i q.1) known

  tells_it : (n : Next) → t'.at ≡ n → n ≢ next.Memory → answer_seen n ≡ (reads_on (listing c) (started_of t) x bits (started_of t).check).0
  tells_it n e m = tells n t'.attempt m (subst (λ (q : Next). Answers q t'.attempt) e g.answers) ∙ (ap told asked ∙ ap (λ (q : Seen × Started). q.0) known)

  by_answer : (n : Next) → t'.at ≡ n → Steps (listing c) w (Second a) (answer_seen n) w'
  by_answer (next.Need z) e = (i, first, bits, started_of t, x, reads, same, tells_it (next.Need z) e (λ b. cc), running (next.Need z) e (λ b. cc))
  by_answer (next.Returned z) e = (i, first, bits, started_of t, x, reads, same, tells_it (next.Returned z) e (λ b. cc), running (next.Returned z) e (λ b. cc))
  by_answer (next.Thrown z) e = (i, first, bits, started_of t, x, reads, same, tells_it (next.Thrown z) e (λ b. cc), running (next.Thrown z) e (λ b. cc))
  by_answer next.Retry e = (i, first, bits, started_of t, x, reads, same, tells_it next.Retry e (λ b. cc), running next.Retry e (λ b. cc))
  by_answer next.Memory e = (i, first, bits, started_of t, x, reads, same, no_check, ended fate.Spent (g.fate ∙ ap (λ (q : Next). answer_fate q t.fate) e))

  pub second_goes : Leads c (Second a) s (with_trial c i t')
  second_goes = put_leads c i t t' (Second a) s k (record {
    was = r.0;
    task = g.task;
    live = λ e. k.live i t r.0 (ap is_live r.2);
    kept = gone_kept (listing c) (told_value t x bits) s t' (k.trials i t r.0).program (k.trials i t r.0).variables g;
    own = λ p is place. needs_apart c i t x k r.0 at (owner_of c.committer p i is place);
    whole = λ there can m. let both : fate.Spent ≡ fate.Stale = sym (g.fate ∙ ap (λ (n : Next). answer_fate n t.fate) m) ∙ can.0 in cc;
  }) (subst (λ (q : Seen). Steps (listing c) w (Second a) q w') (sym g.seen) (by_answer t'.at refl))
