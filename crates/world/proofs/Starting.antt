-- An attempt that begins.
use Rattle.std.proofs.Common.{◌≡◌, ◌≢◌, ◌⊎◌, ℕ, ◌<◌, ◌≤◌, get_or, List, [], ◌∷◌, ◌++◌, length, map, set, slice_index, ⊎_elim, Bool, true, false, Option, Some, None, option_map, slice_get, refl, sym, ap, ◌∙◌, subst, arith, true≢false}
use mathlib.Core.Logic.{dite}
use native.Mathlib.Decide.{ℕ_discrete}
use Rattle.std.specs.declared.alloc.Global.{Global}
use Rattle.std.specs.declared.vec.Vec.{Vec}
use Rattle.std.specs.Vec.{with_item}
use Rattle.std.proofs.lemmas.Option.{slice_get_within, slice_get-get_or}
use Rattle.std.proofs.lemmas.List.{length-set}
use Rattle.txn_programs.specs.Listing.{Listing, tasks, task_program}
use Rattle.txn_programs.specs.Tree.{Program}
use Rattle.txn_programs.specs.declared.ast.TaskId.{TaskId}
use Rattle.attempt.specs.Asking.{ask}
use Rattle.attempt.specs.View.{Answers}
use Rattle.attempt.specs.declared.next.Next.{Next}
use Rattle.attempt.specs.declared.next.Next.TheVariants as next
use Rattle.world_law.specs.declared.events.Fate.{Fate}
use Rattle.world_law.specs.declared.events.Fate.TheVariants as fate
use Rattle.world_law.specs.declared.events.Seen.{Seen}
use Rattle.world_law.specs.declared.events.Event.TheVariants.{Begin}
use Rattle.world_law.specs.declared.events.Loads.TheVariants as loads
use Rattle.world_law.specs.World.{Started, CanBegin, is_live, with_attempt}
use Rattle.world_law.specs.Next.{Next as Steps, told}
use Rattle.world_law.proofs.Places.{get_set_same, get_set_other, get_push, get_push_old}
use Rattle.world.specs.declared.trial.Checking.{Checking}
use Rattle.world.specs.declared.trial.Trial.{Trial}
use Rattle.world.specs.declared.scene.Publishing.{Publishing}
use Rattle.world.specs.declared.scene.Scene.{Scene}
use Rattle.world.specs.Trials.{started_of, check_of, TrialKept, Begins, answer_seen, answer_fate}
use Rattle.world.specs.Inside.{listing, world_of, CommitterKept, Kept, Leads}
use Rattle.world.proofs.Seeing.{seen_at, seen_from, seen_push, same_place, get_push_new}
use Rattle.world.proofs.Going.{same_started, tells, fates}
use Rattle.world.proofs.Finding.{live_latest}

-- with the same clock
pub begins_at : (l : Listing) (a : TaskId) (n m : ℕ) (y : Trial) (s : Seen) → n ≡ m → Begins l a n y s → Begins l a m y s
begins_at l a n m y s e b = subst (λ (k : ℕ). Begins l a k y s) e b

live_or : (b : Bool) → (b ≡ true → ⊥) → b ≡ false
live_or true n = absurd (n refl)
live_or false n = refl

module _ (c : Scene) (k : Kept c) (a : TaskId) where
  within : (o : Option ℕ) → slice_get c.latest.items a.0 ≡ Some o → a.0 < length (tasks (listing c))
  within o at = omega (arith, k.tasks, slice_get_within c.latest.items a.0 o at)

  pub can_none : slice_get c.latest.items a.0 ≡ Some None → CanBegin (listing c) (world_of c) a
  can_none at = (
    within None at,
    λ i y is task. let u = seen_from c.trials.items i y is in
        live_or (is_live y.fate) (λ e. let s : Some (Some i) ≡ Some None = sym (live_latest c k a i u.0 u.1 (ap (λ (v : Started). v.task) u.2 ∙ task) (ap (λ (v : Started). is_live v.fate) u.2 ∙ e)) ∙ at in cc),
  )

  pub can_some : (j : ℕ) (t : Trial) → slice_get c.latest.items a.0 ≡ Some (Some j) → slice_get c.trials.items j ≡ Some t → is_live t.fate ≡ false → CanBegin (listing c) (world_of c) a
  can_some j t at is dead = (
    within (Some j) at,
    λ i y e task. let u = seen_from c.trials.items i y e in
        live_or (is_live y.fate) (λ l.
        let s : Some (Some i) ≡ Some (Some j) = sym (live_latest c k a i u.0 u.1 (ap (λ (v : Started). v.task) u.2 ∙ task) (ap (λ (v : Started). is_live v.fate) u.2 ∙ l)) ∙ at in
        let place : i ≡ j = cc in
        let same : t ≡ u.0 = same_place c.trials.items j i t u.0 is u.1 place in
        true≢false (sym l ∙ (ap (λ (v : Started). is_live v.fate) (sym u.2) ∙ (ap (λ (v : Trial). is_live v.fate) (sym same) ∙ dead)))),
  )

  pub cannot_some : (j : ℕ) (t : Trial) → slice_get c.trials.items j ≡ Some t → t.task.0 ≡ a.0 → CanBegin (listing c) (world_of c) a → is_live t.fate ≡ false
  cannot_some j t is task can = can.1 j (started_of t) (seen_at c.trials.items j t is) (ap (λ (n : ℕ). let v : TaskId = record { 0 = n } in v) task)

module _ (c : Scene) (v : Vec Trial Global) (a : TaskId) (t : Trial) (s : Seen) (n : ℕ) (k : Kept c) (can : CanBegin (listing c) (world_of c) a) (is : v.items ≡ c.trials.items ++ t ∷ [])
    (b : Begins (listing c) a (slice_index c.words.items 0) t s) (place : n ≡ length c.trials.items) where
  abbrev c' : Scene
  c' = record c { trials = v; latest = with_item c.latest a.0 (Some n) }

  get_v : (j : ℕ) (y : Trial) → slice_get v.items j ≡ Some y → (slice_get c.trials.items j ≡ Some y) ⊎ ((j ≡ length c.trials.items) × (t ≡ y))
  get_v j y e = get_push c.trials.items t j y (ap (λ (l : List Trial). slice_get l j) (sym is) ∙ e)

  old_v : (j : ℕ) (y : Trial) → slice_get c.trials.items j ≡ Some y → slice_get v.items j ≡ Some y
  old_v j y e = ap (λ (l : List Trial). slice_get l j) is ∙ get_push_old c.trials.items t j y e

  new_v : slice_get v.items n ≡ Some t
  new_v = ap (λ (l : List Trial). slice_get l n) is ∙ (ap (slice_get (c.trials.items ++ t ∷ [])) place ∙ get_push_new c.trials.items t)

  there : slice_get (set c.latest.items a.0 (Some n)) a.0 ≡ Some (Some n)
  there = get_set_same c.latest.items a.0 (Some n) (get_or c.latest.items a.0 None) (slice_get-get_or c.latest.items a.0 None (omega (arith, k.tasks, can.0)))

  same_task : (p : TaskId) → p.0 ≡ a.0 → p ≡ a
  same_task p e = ap (λ (m : ℕ). let u : TaskId = record { 0 = m } in u) e

  apart : (j : ℕ) (y : Trial) → slice_get c.trials.items j ≡ Some y → is_live y.fate ≡ true → y.task.0 ≢ a.0
  apart j y e l same = true≢false (sym l ∙ can.1 j (started_of y) (seen_at c.trials.items j y e) (same_task y.task same))

  owned : (o : Option Publishing) → CommitterKept c o → CommitterKept c' o
  owned None h = h
  owned (Some p) h = record { runs = (h.runs.0, old_v p.place h.runs.0 h.runs.1, h.runs.2, h.runs.3); under = h.under; few = h.few; small = h.small; exist = h.exist; ready = h.ready; past = h.past }

  began_kept : Kept c'
  began_kept = record {
    wide = k.wide;
    states = k.states;
    count = k.count;
    trials = λ j y e. ⊎_elim (λ h. k.trials j y h) (λ h. subst (TrialKept (listing c)) h.1 b.kept) (get_v j y e);
    tasks = length-set c.latest.items a.0 (Some n) ∙ k.tasks;
    live = λ j y e l. ⊎_elim
        (λ h. get_set_other c.latest.items a.0 y.task.0 (Some n) (apart j y h l) ∙ k.live j y h l)
        (λ h. let task : y.task ≡ a = ap (λ (u : Trial). u.task) (sym h.1) ∙ b.task in
        ap (λ (u : TaskId). slice_get (set c.latest.items a.0 (Some n)) u.0) task ∙ (there ∙ ap (λ (m : ℕ). Some (Some m)) (place ∙ sym h.0)))
        (get_v j y e);
    latest = λ p i e. dite (ℕ_discrete p a.0)
        (λ same. let f : Some (Some n) ≡ Some (Some i) = sym there ∙ (ap (slice_get (set c.latest.items a.0 (Some n))) (sym same) ∙ e) in
        let at : n ≡ i = cc in
        (t, ap (slice_get v.items) (sym at) ∙ new_v, ap (λ (u : TaskId). u.0) b.task ∙ sym same))
        (λ other. let o = k.latest p i (sym (get_set_other c.latest.items a.0 p (Some n) other) ∙ e) in (o.0, old_v i o.0 o.1, o.2));
    last = λ j y e. ⊎_elim
        (λ h. dite (ℕ_discrete y.task.0 a.0)
        (λ same. (n, ap (slice_get (set c.latest.items a.0 (Some n))) same ∙ there, (let low = slice_get_within c.trials.items j y h in omega (arith, place))))
        (λ other. let o = k.last j y h in (o.0, get_set_other c.latest.items a.0 y.task.0 (Some n) other ∙ o.1, o.2)))
        (λ h. let task : y.task ≡ a = ap (λ (u : Trial). u.task) (sym h.1) ∙ b.task in
        (n, ap (λ (u : TaskId). slice_get (set c.latest.items a.0 (Some n)) u.0) task ∙ there, (let at = h.0 in omega (arith, place))))
        (get_v j y e);
    whole = λ p i y l e can. ⊎_elim
        (λ h. dite (ℕ_discrete p a.0)
        (λ same. let f : Some (Some n) ≡ Some (Some i) = sym there ∙ (ap (slice_get (set c.latest.items a.0 (Some n))) (sym same) ∙ l) in
        let at : n ≡ i = cc in let low = slice_get_within c.trials.items i y h in absurd (omega (arith, place, at, low)))
        (λ other. k.whole p i y (sym (get_set_other c.latest.items a.0 p (Some n) other) ∙ l) h can))
        (λ h. let moves : t.movable ≡ true = ap (λ (u : Trial). u.movable) h.1 ∙ can.1 in absurd (true≢false (sym moves ∙ b.movable)))
        (get_v i y e);
    committer = owned c.committer k.committer;
  }

  world_is : (f : Fate) → t.fate ≡ f → world_of c' ≡ with_attempt (world_of c) a f
  world_is f e = ap (λ (l : List Started). record (world_of c) { attempts = l }) (ap (map started_of) is ∙ (seen_push c.trials.items t ∙
      ap (λ (y : Started). map started_of c.trials.items ++ y ∷ []) (same_started t.task a t.rv (slice_index c.words.items 0) t.attempt.log [] t.loads loads.Nothing t.fate f t.movable false (option_map check_of t.check) None b.task b.number b.log b.loads e b.movable (ap (λ (o : Option Checking). option_map check_of o) b.check))))

  tells_it : (m : Next) → t.at ≡ m → m ≢ next.Memory → answer_seen m ≡ told (ask (task_program (listing c) a) [])
  tells_it m e mem = tells m t.attempt mem (subst (λ (q : Next). Answers q t.attempt) e b.kept.answers)
      ∙ ap told (ap (λ (p : Program). ask p t.attempt.log) (b.kept.program ∙ ap (task_program (listing c)) b.task) ∙ ap (ask (task_program (listing c) a)) b.log)

  runs : (m : Next) → t.at ≡ m → m ≢ next.Memory → world_of c' ≡ with_attempt (world_of c) a fate.Running
  runs m e mem = world_is fate.Running (b.fate ∙ (ap (λ (q : Next). answer_fate q fate.Running) e ∙ fates m fate.Running mem))

  by_answer : (m : Next) → t.at ≡ m → Steps (listing c) (world_of c) (Begin a) (answer_seen m) (world_of c')
  by_answer (next.Need z) e = (can, tells_it (next.Need z) e (λ q. cc), runs (next.Need z) e (λ q. cc))
  by_answer (next.Returned z) e = (can, tells_it (next.Returned z) e (λ q. cc), runs (next.Returned z) e (λ q. cc))
  by_answer (next.Thrown z) e = (can, tells_it (next.Thrown z) e (λ q. cc), runs (next.Thrown z) e (λ q. cc))
  by_answer next.Retry e = (can, tells_it next.Retry e (λ q. cc), runs next.Retry e (λ q. cc))
  by_answer next.Memory e = (can, world_is fate.Spent (b.fate ∙ ap (λ (q : Next). answer_fate q fate.Running) e))

  pub begin_leads : Leads c (Begin a) s c'
  begin_leads = record { catalogue = refl; kept = began_kept; next = subst (λ (q : Seen). Steps (listing c) (world_of c) (Begin a) q (world_of c')) (sym b.seen) (by_answer t.at refl) }
