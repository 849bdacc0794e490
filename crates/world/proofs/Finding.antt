-- A task's live attempt is its latest.
use Rattle.std.proofs.Common.{◌≡◌, ◌≢◌, ℕ, ◌≤◌, length, Some, None, true, slice_get, sym, ap, ◌∙◌, arith}
use Rattle.std.proofs.lemmas.Option.{slice_get_within}
use Rattle.txn_programs.specs.declared.ast.TaskId.{TaskId}
use Rattle.world_law.specs.World.{is_live}
use Rattle.world_law.specs.declared.events.Fate.TheVariants as fate
use Rattle.world.specs.declared.trial.Trial.{Trial}
use Rattle.world.specs.declared.scene.Scene.{Scene}
use Rattle.world.specs.Inside.{Kept, IsTheRunning, IsOnly}
use Rattle.world.proofs.Seeing.{same_place}

module _ (c : Scene) (k : Kept c) (a : TaskId) where
  pub live_latest : (j : ℕ) (z : Trial) → slice_get c.trials.items j ≡ Some z → z.task ≡ a → is_live z.fate ≡ true → slice_get c.latest.items a.0 ≡ Some (Some j)
  live_latest j z at is live = ap (λ (b : TaskId). slice_get c.latest.items b.0) (sym is) ∙ k.live j z at live

  pub running_latest : (j : ℕ) (z : Trial) → IsTheRunning c a j z → slice_get c.latest.items a.0 ≡ Some (Some j)
  running_latest j z r = live_latest j z r.0 r.1 (ap is_live r.2)

  pub only_latest : (i : ℕ) → slice_get c.latest.items a.0 ≡ Some (Some i) → IsOnly c a i
  only_latest i at j z r = let s : Some (Some j) ≡ Some (Some i) = sym (running_latest j z r) ∙ at in cc

  pub none_latest : slice_get c.latest.items a.0 ≡ Some None → (j : ℕ) (z : Trial) → IsTheRunning c a j z → ⊥
  none_latest at j z r = let s : Some (Some j) ≡ Some None = sym (running_latest j z r) ∙ at in cc

  pub beyond : length c.latest.items ≤ a.0 → (j : ℕ) (z : Trial) → IsTheRunning c a j z → ⊥
  beyond h j z r = omega (arith, h, slice_get_within c.latest.items a.0 (Some j) (running_latest j z r))

  pub dead_latest : (i : ℕ) (t : Trial) → slice_get c.latest.items a.0 ≡ Some (Some i) → slice_get c.trials.items i ≡ Some t → t.fate ≢ fate.Running → (j : ℕ) (z : Trial) → IsTheRunning c a j z → ⊥
  dead_latest i t at is dead j z r = dead (ap (λ (u : Trial). u.fate) (same_place c.trials.items i j t z is r.0 (only_latest i at j z r)) ∙ r.2)
