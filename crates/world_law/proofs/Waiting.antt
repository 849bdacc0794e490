-- The runs worked out by hand of a throw, a retry, a drop, and a commit that meets a read, step by step.
use Rattle.std.proofs.Common.{◌≡◌, ◌≢◌, ℕ, zero, suc, true, false, ◌==◌, List, [], ◌∷◌, ℤ, pos, sym, refl, ap, ◌∙◌, ◌⊎◌, ⊎_elim, inl, inr, arith, Option, Some, None, slice_get, lit<, eq-eqb}
use Rattle.std.proofs.lemmas.Bool.{false≢true}
use Rattle.txn_programs.specs.declared.ast.TaskId.{TaskId}
use Rattle.txn_programs.specs.declared.ast.Fault.{Fault}
use Rattle.txn_programs.specs.declared.ast.Fault.TheVariants.{User}
use Rattle.txn_programs.specs.declared.ast.Outcome.TheVariants.{Returned, Thrown, Retries}
use Rattle.world_law.specs.declared.events.Fate.TheVariants as fate
use Rattle.world_law.specs.declared.events.Loads.TheVariants as loads
use Rattle.world_law.specs.declared.events.Store.TheVariants.{Lock, Put, Tick, Free}
use Rattle.world_law.specs.World.{Started, Committer, Apart, IsRunning, is_live, IsOpening}
use Rattle.world_law.specs.Next.{Run, CanDrop}
use Rattle.world_law.specs.Worked.{x, task, back_opening, attempt, waiting, thrown_events, thrown_answers, thrown_end, parked_events, parked_answers, parked_end, dropped_events, dropped_answers, dropped_end, locked_events, locked_answers, locked_end}
use Rattle.world_law.proofs.Working.{world, never, first_latest}

-- each attempt of these is of another task than a, or over
abbrev Over : (ys : List Started) (a : ℕ) → Type 0
Over [] a = Unit {0}
Over (z ∷ ys) a = (((z.task.0 == a) ≡ false) ⊎ (is_live z.fate ≡ false)) × Over ys a

over : (ys : List Started) (a : TaskId) → Over ys a.0 → (i : ℕ) (z : Started) → slice_get ys i ≡ Some z → z.task ≡ a → is_live z.fate ≡ false
over [] a h i z e same = absurd (cc)
over (u ∷ ys) a h zero z e same = let f : u ≡ z = cc in ⊎_elim
    (λ (other : (u.task.0 == a.0) ≡ false). absurd (false≢true (sym other ∙ eq-eqb u.task.0 a.0 (ap (λ (v : Started). v.task.0) f ∙ ap (λ (b : TaskId). b.0) same))))
    (λ (dead : is_live u.fate ≡ false). ap (λ (v : Started). is_live v.fate) (sym f) ∙ dead)
    h.0
over (u ∷ ys) a h (suc i) z e same = over ys a h.1 i z e same

-- none of these became stale at a load
abbrev Stay : (ys : List Started) → Type 0
Stay [] = Unit {0}
Stay (z ∷ ys) = (z.movable ≡ false) × Stay ys

stays : (ys : List Started) → Stay ys → (i : ℕ) (z : Started) → slice_get ys i ≡ Some z → z.movable ≡ false
stays [] h i z e = absurd (cc)
stays (u ∷ ys) h zero z e = let f : u ≡ z = cc in ap (λ (v : Started). v.movable) (sym f) ∙ h.0
stays (u ∷ ys) h (suc i) z e = stays ys h.1 i z e

not_retried : (f : Fault) {A : Type 0} → Thrown f ≡ Retries → A
not_retried f e = absurd (cc)

some_commits : (c : Committer) {A : Type 0} → Some c ≡ None → A
some_commits c e = absurd (cc)

differs : {A : Type 0} → pos 2 ≡ pos 1 → A
differs e = absurd (cc)

apart_from_none : (i : ℕ) → Apart None i
apart_from_none i c e = absurd (cc)

-- no attempt runs where the only one was dropped
drops_none : {A : Type 0} (i : ℕ) (z : Started) → IsRunning (world (0 ∷ 0 ∷ 1 ∷ []) ((pos 1 ∷ []) ∷ []) (attempt 0 0 [] (loads.Version 0) fate.Dropped false None ∷ []) None) (task 0) i z → A
drops_none zero z h = absurd (let f : attempt 0 0 [] (loads.Version 0) fate.Dropped false None ≡ z = let e = h.0 in cc in let g = ap (λ (v : Started). is_live v.fate) f ∙ ap is_live h.2 in false≢true g)
drops_none (suc i) z h = absurd (let e = h.0 in cc)

-- the committer is the only attempt of its task
committer_stays : {A : Type 0} (i : ℕ) (z : Started) → CanDrop (world (0 ∷ 0 ∷ 1 ∷ []) ((pos 1 ∷ []) ∷ []) (attempt 0 0 [] (loads.Version 0) fate.Dropped false None ∷ attempt 2 0 [] loads.Nothing fate.Running false None ∷ []) (Some record { place = 1; number = 1; changes = (x, pos 2) ∷ []; stored = 0 })) (task 2) i z → A
committer_stays zero z h = absurd (let f : attempt 0 0 [] (loads.Version 0) fate.Dropped false None ≡ z = let e = h.0.0 in cc in let g : 0 ≡ 2 = ap (λ (v : Started). v.task.0) f ∙ ap (λ (b : TaskId). b.0) h.0.1 in omega arith)
committer_stays (suc zero) z h = absurd (h.1 (record { place = 1; number = 1; changes = (x, pos 2) ∷ []; stored = 0 }) refl refl)
committer_stays (suc (suc i)) z h = absurd (let e = h.0.0 in cc)

pub thrown_holds : Run waiting back_opening thrown_events thrown_answers thrown_end
thrown_holds = (
  world (0 ∷ 0 ∷ 1 ∷ []) ((pos 1 ∷ []) ∷ []) (attempt 1 0 [] loads.Nothing fate.Running false None ∷ []) None,
  ((omega arith, over [] (task 1) tt), refl, refl),
  (
    world (0 ∷ 0 ∷ 1 ∷ []) ((pos 1 ∷ []) ∷ []) (attempt 1 0 [] loads.Nothing fate.Running false None ∷ []) (Some record { place = 0; number = 1; changes = []; stored = 0 }),
    (0, attempt 1 0 [] loads.Nothing fate.Running false None, Thrown (User (pos 7)), [], (((refl, refl, refl), refl), refl), not_retried (User (pos 7)), tt, refl, refl),
    (
      world (1 ∷ 0 ∷ 1 ∷ []) ((pos 1 ∷ []) ∷ (pos 1 ∷ []) ∷ []) (attempt 1 0 [] loads.Nothing (fate.Committed 1) false None ∷ []) None,
      (record { place = 0; number = 1; changes = []; stored = 0 }, Tick, 1 ∷ 0 ∷ 1 ∷ [], attempt 1 0 [] loads.Nothing fate.Running false None, (refl, refl, refl), refl, refl, refl, refl),
      (
        world (1 ∷ 0 ∷ 1 ∷ []) ((pos 1 ∷ []) ∷ (pos 1 ∷ []) ∷ []) (attempt 1 0 [] loads.Nothing (fate.Committed 1) false None ∷ []) None,
        (λ can. false≢true (sym (can.1 0 (attempt 1 0 [] loads.Nothing (fate.Committed 1) false None) refl refl)), refl),
        refl,
      ),
    ),
  ),
)

pub parked_holds : Run waiting back_opening parked_events parked_answers parked_end
parked_holds = (
  world (0 ∷ 0 ∷ 1 ∷ []) ((pos 1 ∷ []) ∷ []) (attempt 0 0 [] loads.Nothing fate.Running false None ∷ []) None,
  ((omega arith, over [] (task 0) tt), refl, refl),
  (
    world (0 ∷ 0 ∷ 1 ∷ []) ((pos 1 ∷ []) ∷ []) (attempt 0 0 [] (loads.Version 0) fate.Running false None ∷ []) None,
    (0, attempt 0 0 [] loads.Nothing fate.Running false None, (((refl, refl, refl), refl), refl), refl, omega arith, refl),
    (
      world (0 ∷ 0 ∷ 1 ∷ []) ((pos 1 ∷ []) ∷ []) (attempt 0 0 [] (loads.Value 0 1) fate.Running false None ∷ []) None,
      (0, 0, attempt 0 0 [] (loads.Version 0) fate.Running false None, x, (((refl, refl, refl), refl), refl), refl),
      (
        world (0 ∷ 0 ∷ 1 ∷ []) ((pos 1 ∷ []) ∷ []) (attempt 0 0 ((x, pos 1) ∷ []) loads.Nothing fate.Running false None ∷ []) None,
        (0, 0, 1, attempt 0 0 [] (loads.Value 0 1) fate.Running false None, x, (((refl, refl, refl), refl), refl), refl, refl, refl),
        (
          world (0 ∷ 0 ∷ 1 ∷ []) ((pos 1 ∷ []) ∷ []) (attempt 0 0 ((x, pos 1) ∷ []) loads.Nothing fate.Parked false None ∷ []) None,
          (0, attempt 0 0 ((x, pos 1) ∷ []) loads.Nothing fate.Running false None, [], (((refl, refl, refl), refl), refl), (refl, tt), refl),
          (
            world (0 ∷ 0 ∷ 1 ∷ []) ((pos 1 ∷ []) ∷ []) (attempt 0 0 ((x, pos 1) ∷ []) loads.Nothing fate.Parked false None ∷ []) None,
            (λ i z v can. false≢true (sym (stays (attempt 0 0 ((x, pos 1) ∷ []) loads.Nothing fate.Parked false None ∷ []) (refl, tt) i z can.1.0) ∙ can.3), refl),
            (
              world (0 ∷ 0 ∷ 1 ∷ []) ((pos 1 ∷ []) ∷ []) (attempt 0 0 ((x, pos 1) ∷ []) loads.Nothing fate.Parked false None ∷ attempt 0 0 [] loads.Nothing fate.Running false None ∷ []) None,
              ((omega arith, over (attempt 0 0 ((x, pos 1) ∷ []) loads.Nothing fate.Parked false None ∷ []) (task 0) (inr refl, tt)), refl, refl),
              (
                world (0 ∷ 0 ∷ 1 ∷ []) ((pos 1 ∷ []) ∷ []) (attempt 0 0 ((x, pos 1) ∷ []) loads.Nothing fate.Parked false None ∷ attempt 0 0 [] (loads.Version 0) fate.Running false None ∷ []) None,
                (1, attempt 0 0 [] loads.Nothing fate.Running false None, (((refl, refl, refl), refl), refl), refl, omega arith, refl),
                (
                  world (0 ∷ 0 ∷ 1 ∷ []) ((pos 1 ∷ []) ∷ []) (attempt 0 0 ((x, pos 1) ∷ []) loads.Nothing fate.Parked false None ∷ attempt 0 0 [] (loads.Value 0 1) fate.Running false None ∷ []) None,
                  (1, 0, attempt 0 0 [] (loads.Version 0) fate.Running false None, x, (((refl, refl, refl), refl), refl), refl),
                  (
                    world (0 ∷ 0 ∷ 1 ∷ []) ((pos 1 ∷ []) ∷ []) (attempt 0 0 ((x, pos 1) ∷ []) loads.Nothing fate.Parked false None ∷ attempt 0 0 ((x, pos 1) ∷ []) loads.Nothing fate.Running false None ∷ []) None,
                    (1, 0, 1, attempt 0 0 [] (loads.Value 0 1) fate.Running false None, x, (((refl, refl, refl), refl), refl), refl, refl, refl),
                    (
                      world (0 ∷ 0 ∷ 1 ∷ []) ((pos 1 ∷ []) ∷ []) (attempt 0 0 ((x, pos 1) ∷ []) loads.Nothing fate.Parked false None ∷ attempt 0 0 ((x, pos 1) ∷ []) loads.Nothing fate.Running false None ∷ attempt 2 0 [] loads.Nothing fate.Running false None ∷ []) None,
                      ((omega arith, over (attempt 0 0 ((x, pos 1) ∷ []) loads.Nothing fate.Parked false None ∷ attempt 0 0 ((x, pos 1) ∷ []) loads.Nothing fate.Running false None ∷ []) (task 2) (inl refl, (inl refl, tt))), refl, refl),
                      (
                        world (0 ∷ 0 ∷ 1 ∷ []) ((pos 1 ∷ []) ∷ []) (attempt 0 0 ((x, pos 1) ∷ []) loads.Nothing fate.Parked false None ∷ attempt 0 0 ((x, pos 1) ∷ []) loads.Nothing fate.Running false None ∷ attempt 2 0 [] loads.Nothing fate.Running false None ∷ []) (Some record { place = 2; number = 1; changes = (x, pos 2) ∷ []; stored = 0 }),
                        (2, attempt 2 0 [] loads.Nothing fate.Running false None, Returned (pos 0), (x, pos 2) ∷ [], (((refl, refl, refl), refl), refl), never, tt, refl, refl),
                        (
                          world (0 ∷ 0 ∷ 1 ∷ []) ((pos 1 ∷ []) ∷ []) (attempt 0 0 ((x, pos 1) ∷ []) loads.Nothing fate.Parked false None ∷ attempt 0 0 ((x, pos 1) ∷ []) loads.Nothing fate.Running false None ∷ attempt 2 0 [] loads.Nothing fate.Running false None ∷ []) (Some record { place = 2; number = 1; changes = (x, pos 2) ∷ []; stored = 0 }),
                          (λ i z o writes can. some_commits (record { place = 2; number = 1; changes = (x, pos 2) ∷ []; stored = 0 }) can.1, refl),
                          (
                            world (0 ∷ 1 ∷ 1 ∷ []) ((pos 1 ∷ []) ∷ []) (attempt 0 0 ((x, pos 1) ∷ []) loads.Nothing fate.Parked false None ∷ attempt 0 0 ((x, pos 1) ∷ []) loads.Nothing fate.Running false None ∷ attempt 2 0 [] loads.Nothing fate.Running false None ∷ []) (Some record { place = 2; number = 1; changes = (x, pos 2) ∷ []; stored = 1 }),
                            (record { place = 2; number = 1; changes = (x, pos 2) ∷ []; stored = 0 }, Lock x, 0 ∷ 1 ∷ 1 ∷ [], (refl, refl, refl), lit< tt, refl),
                            (
                              world (0 ∷ 1 ∷ 2 ∷ []) ((pos 1 ∷ []) ∷ []) (attempt 0 0 ((x, pos 1) ∷ []) loads.Nothing fate.Parked false None ∷ attempt 0 0 ((x, pos 1) ∷ []) loads.Nothing fate.Running false None ∷ attempt 2 0 [] loads.Nothing fate.Running false None ∷ []) (Some record { place = 2; number = 1; changes = (x, pos 2) ∷ []; stored = 2 }),
                              (record { place = 2; number = 1; changes = (x, pos 2) ∷ []; stored = 1 }, Put x (pos 2), 0 ∷ 1 ∷ 2 ∷ [], (refl, refl, (2, (lit< tt, refl), refl)), lit< tt, refl),
                              (
                                world (1 ∷ 1 ∷ 2 ∷ []) ((pos 1 ∷ []) ∷ (pos 2 ∷ []) ∷ []) (attempt 0 0 ((x, pos 1) ∷ []) loads.Nothing fate.Parked false None ∷ attempt 0 0 ((x, pos 1) ∷ []) loads.Nothing fate.Running false None ∷ attempt 2 0 [] loads.Nothing fate.Running false None ∷ []) (Some record { place = 2; number = 1; changes = (x, pos 2) ∷ []; stored = 3 }),
                                (record { place = 2; number = 1; changes = (x, pos 2) ∷ []; stored = 2 }, Tick, 1 ∷ 1 ∷ 2 ∷ [], (refl, refl, refl), lit< tt, refl),
                                (
                                  world (1 ∷ 2 ∷ 2 ∷ []) ((pos 1 ∷ []) ∷ (pos 2 ∷ []) ∷ []) (attempt 0 0 ((x, pos 1) ∷ []) loads.Nothing fate.Parked false None ∷ attempt 0 0 ((x, pos 1) ∷ []) loads.Nothing fate.Running false None ∷ attempt 2 0 [] loads.Nothing (fate.Committed 1) false None ∷ []) None,
                                  (record { place = 2; number = 1; changes = (x, pos 2) ∷ []; stored = 3 }, Free x, 1 ∷ 2 ∷ 2 ∷ [], attempt 2 0 [] loads.Nothing fate.Running false None, (refl, refl, refl), refl, refl, refl, refl),
                                  (
                                    world (1 ∷ 2 ∷ 2 ∷ []) ((pos 1 ∷ []) ∷ (pos 2 ∷ []) ∷ []) (attempt 0 0 ((x, pos 1) ∷ []) loads.Nothing fate.Parked false None ∷ attempt 0 0 ((x, pos 1) ∷ []) loads.Nothing fate.Stale false None ∷ attempt 2 0 [] loads.Nothing (fate.Committed 1) false None ∷ []) None,
                                    (1, attempt 0 0 ((x, pos 1) ∷ []) loads.Nothing fate.Running false None, Retries, [], (((refl, refl, refl), refl), refl), (λ agrees. differs agrees.0), refl),
                                    (
                                      world (1 ∷ 2 ∷ 2 ∷ []) ((pos 1 ∷ []) ∷ (pos 2 ∷ []) ∷ []) (attempt 0 0 ((x, pos 1) ∷ []) loads.Nothing fate.Parked false None ∷ attempt 0 0 ((x, pos 1) ∷ []) loads.Nothing fate.Stale false None ∷ attempt 2 0 [] loads.Nothing (fate.Committed 1) false None ∷ []) None,
                                      (λ i z v can. false≢true (sym (stays (attempt 0 0 ((x, pos 1) ∷ []) loads.Nothing fate.Parked false None ∷ attempt 0 0 ((x, pos 1) ∷ []) loads.Nothing fate.Stale false None ∷ attempt 2 0 [] loads.Nothing (fate.Committed 1) false None ∷ []) (refl, (refl, (refl, tt))) i z can.1.0) ∙ can.3), refl),
                                      (
                                        world (1 ∷ 2 ∷ 2 ∷ []) ((pos 1 ∷ []) ∷ (pos 2 ∷ []) ∷ []) (attempt 0 0 ((x, pos 1) ∷ []) loads.Nothing fate.Parked false None ∷ attempt 0 0 ((x, pos 1) ∷ []) loads.Nothing fate.Stale false None ∷ attempt 2 0 [] loads.Nothing (fate.Committed 1) false None ∷ attempt 0 1 [] loads.Nothing fate.Running false None ∷ []) None,
                                        ((omega arith, over (attempt 0 0 ((x, pos 1) ∷ []) loads.Nothing fate.Parked false None ∷ attempt 0 0 ((x, pos 1) ∷ []) loads.Nothing fate.Stale false None ∷ attempt 2 0 [] loads.Nothing (fate.Committed 1) false None ∷ []) (task 0) (inr refl, (inr refl, (inl refl, tt)))), refl, refl),
                                        refl,
                                      ),
                                    ),
                                  ),
                                ),
                              ),
                            ),
                          ),
                        ),
                      ),
                    ),
                  ),
                ),
              ),
            ),
          ),
        ),
      ),
    ),
  ),
)

pub dropped_holds : Run waiting back_opening dropped_events dropped_answers dropped_end
dropped_holds = (
  world (0 ∷ 0 ∷ 1 ∷ []) ((pos 1 ∷ []) ∷ []) (attempt 0 0 [] loads.Nothing fate.Running false None ∷ []) None,
  ((omega arith, over [] (task 0) tt), refl, refl),
  (
    world (0 ∷ 0 ∷ 1 ∷ []) ((pos 1 ∷ []) ∷ []) (attempt 0 0 [] (loads.Version 0) fate.Running false None ∷ []) None,
    (0, attempt 0 0 [] loads.Nothing fate.Running false None, (((refl, refl, refl), refl), refl), refl, omega arith, refl),
    (
      world (0 ∷ 0 ∷ 1 ∷ []) ((pos 1 ∷ []) ∷ []) (attempt 0 0 [] (loads.Version 0) fate.Dropped false None ∷ []) None,
      (0, attempt 0 0 [] (loads.Version 0) fate.Running false None, ((refl, refl, refl), apart_from_none 0), refl),
      (
        world (0 ∷ 0 ∷ 1 ∷ []) ((pos 1 ∷ []) ∷ []) (attempt 0 0 [] (loads.Version 0) fate.Dropped false None ∷ []) None,
        (λ i first z v reads. drops_none i z reads.0.0, refl),
        (
          world (0 ∷ 0 ∷ 1 ∷ []) ((pos 1 ∷ []) ∷ []) (attempt 0 0 [] (loads.Version 0) fate.Dropped false None ∷ []) None,
          (λ i z can. drops_none i z can.0, refl),
          (
            world (0 ∷ 0 ∷ 1 ∷ []) ((pos 1 ∷ []) ∷ []) (attempt 0 0 [] (loads.Version 0) fate.Dropped false None ∷ []) None,
            (λ i z v can. false≢true (sym (stays (attempt 0 0 [] (loads.Version 0) fate.Dropped false None ∷ []) (refl, tt) i z can.1.0) ∙ can.3), refl),
            (
              world (0 ∷ 0 ∷ 1 ∷ []) ((pos 1 ∷ []) ∷ []) (attempt 0 0 [] (loads.Version 0) fate.Dropped false None ∷ attempt 2 0 [] loads.Nothing fate.Running false None ∷ []) None,
              ((omega arith, over (attempt 0 0 [] (loads.Version 0) fate.Dropped false None ∷ []) (task 2) (inl refl, tt)), refl, refl),
              (
                world (0 ∷ 0 ∷ 1 ∷ []) ((pos 1 ∷ []) ∷ []) (attempt 0 0 [] (loads.Version 0) fate.Dropped false None ∷ attempt 2 0 [] loads.Nothing fate.Running false None ∷ []) (Some record { place = 1; number = 1; changes = (x, pos 2) ∷ []; stored = 0 }),
                (1, attempt 2 0 [] loads.Nothing fate.Running false None, Returned (pos 0), (x, pos 2) ∷ [], (((refl, refl, refl), refl), refl), never, tt, refl, refl),
                (
                  world (0 ∷ 0 ∷ 1 ∷ []) ((pos 1 ∷ []) ∷ []) (attempt 0 0 [] (loads.Version 0) fate.Dropped false None ∷ attempt 2 0 [] loads.Nothing fate.Running false None ∷ []) (Some record { place = 1; number = 1; changes = (x, pos 2) ∷ []; stored = 0 }),
                  (λ i z can. committer_stays i z can, refl),
                  (
                    world (0 ∷ 0 ∷ 1 ∷ []) ((pos 1 ∷ []) ∷ []) (attempt 0 0 [] (loads.Version 0) fate.Dropped false None ∷ attempt 2 0 [] loads.Nothing fate.Running false None ∷ attempt 0 0 [] loads.Nothing fate.Running false None ∷ []) (Some record { place = 1; number = 1; changes = (x, pos 2) ∷ []; stored = 0 }),
                    ((omega arith, over (attempt 0 0 [] (loads.Version 0) fate.Dropped false None ∷ attempt 2 0 [] loads.Nothing fate.Running false None ∷ []) (task 0) (inr refl, (inl refl, tt))), refl, refl),
                    refl,
                  ),
                ),
              ),
            ),
          ),
        ),
      ),
    ),
  ),
)

pub locked_holds : Run waiting back_opening locked_events locked_answers locked_end
locked_holds = (
  world (0 ∷ 0 ∷ 1 ∷ []) ((pos 1 ∷ []) ∷ []) (attempt 0 0 [] loads.Nothing fate.Running false None ∷ []) None,
  ((omega arith, over [] (task 0) tt), refl, refl),
  (
    world (0 ∷ 0 ∷ 1 ∷ []) ((pos 1 ∷ []) ∷ []) (attempt 0 0 [] (loads.Version 0) fate.Running false None ∷ []) None,
    (0, attempt 0 0 [] loads.Nothing fate.Running false None, (((refl, refl, refl), refl), refl), refl, omega arith, refl),
    (
      world (0 ∷ 0 ∷ 1 ∷ []) ((pos 1 ∷ []) ∷ []) (attempt 0 0 [] (loads.Version 0) fate.Running false None ∷ attempt 2 0 [] loads.Nothing fate.Running false None ∷ []) None,
      ((omega arith, over (attempt 0 0 [] (loads.Version 0) fate.Running false None ∷ []) (task 2) (inl refl, tt)), refl, refl),
      (
        world (0 ∷ 0 ∷ 1 ∷ []) ((pos 1 ∷ []) ∷ []) (attempt 0 0 [] (loads.Version 0) fate.Running false None ∷ attempt 2 0 [] loads.Nothing fate.Running false None ∷ []) (Some record { place = 1; number = 1; changes = (x, pos 2) ∷ []; stored = 0 }),
        (1, attempt 2 0 [] loads.Nothing fate.Running false None, Returned (pos 0), (x, pos 2) ∷ [], (((refl, refl, refl), refl), refl), never, tt, refl, refl),
        (
          world (0 ∷ 1 ∷ 1 ∷ []) ((pos 1 ∷ []) ∷ []) (attempt 0 0 [] (loads.Version 0) fate.Running false None ∷ attempt 2 0 [] loads.Nothing fate.Running false None ∷ []) (Some record { place = 1; number = 1; changes = (x, pos 2) ∷ []; stored = 1 }),
          (record { place = 1; number = 1; changes = (x, pos 2) ∷ []; stored = 0 }, Lock x, 0 ∷ 1 ∷ 1 ∷ [], (refl, refl, refl), lit< tt, refl),
          (
            world (0 ∷ 1 ∷ 1 ∷ []) ((pos 1 ∷ []) ∷ []) (attempt 0 0 [] (loads.Value 0 1) fate.Running false None ∷ attempt 2 0 [] loads.Nothing fate.Running false None ∷ []) (Some record { place = 1; number = 1; changes = (x, pos 2) ∷ []; stored = 1 }),
            (0, 0, attempt 0 0 [] (loads.Version 0) fate.Running false None, x, (((refl, refl, refl), refl), refl), refl),
            (
              world (0 ∷ 1 ∷ 1 ∷ []) ((pos 1 ∷ []) ∷ []) (attempt 0 0 [] (loads.Value 0 1) fate.Stale true None ∷ attempt 2 0 [] loads.Nothing fate.Running false None ∷ []) (Some record { place = 1; number = 1; changes = (x, pos 2) ∷ []; stored = 1 }),
              (0, 0, 1, attempt 0 0 [] (loads.Value 0 1) fate.Running false None, x, (((refl, refl, refl), refl), refl), (λ e. omega (arith, e)), refl),
              (
                world (0 ∷ 1 ∷ 1 ∷ []) ((pos 1 ∷ []) ∷ []) (attempt 0 0 [] loads.Nothing fate.Running false None ∷ attempt 2 0 [] loads.Nothing fate.Running false None ∷ []) (Some record { place = 1; number = 1; changes = (x, pos 2) ∷ []; stored = 1 }),
                (0, attempt 0 0 [] (loads.Value 0 1) fate.Stale true None, x, ((omega arith, over (attempt 0 0 [] (loads.Value 0 1) fate.Stale true None ∷ attempt 2 0 [] loads.Nothing fate.Running false None ∷ []) (task 0) (inr refl, (inl refl, tt))), (refl, refl, first_latest (attempt 0 0 [] (loads.Value 0 1) fate.Stale true None) (attempt 2 0 [] loads.Nothing fate.Running false None ∷ []) (task 0) (refl, tt)), refl, refl, refl), refl, refl),
                (
                  world (0 ∷ 1 ∷ 1 ∷ []) ((pos 1 ∷ []) ∷ []) (attempt 0 0 [] loads.Nothing fate.Stale true None ∷ attempt 2 0 [] loads.Nothing fate.Running false None ∷ []) (Some record { place = 1; number = 1; changes = (x, pos 2) ∷ []; stored = 1 }),
                  (0, attempt 0 0 [] loads.Nothing fate.Running false None, (((refl, refl, refl), refl), refl), inl refl, refl),
                  refl,
                ),
              ),
            ),
          ),
        ),
      ),
    ),
  ),
)

pub waiting_opens : IsOpening waiting back_opening
waiting_opens = record { words = (0 ∷ 1 ∷ [], refl, (refl, (lit< tt, refl), tt)); history = refl; attempts = refl; committer = refl }
