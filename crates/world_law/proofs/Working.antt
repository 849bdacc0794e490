-- The runs that were worked out by hand, step by step.
use Rattle.std.proofs.Common.{◌≡◌, ◌≤◌, ℕ, zero, suc, true, false, ◌==◌, List, [], ◌∷◌, ℤ, pos, sym, refl, ap, ◌∙◌, inl, inr, arith, Option, Some, None, slice_get, lit<, eq-eqb}
use Rattle.std.proofs.lemmas.Bool.{false≢true}
use Rattle.txn_programs.specs.declared.ast.TaskId.{TaskId}
use Rattle.txn_programs.specs.declared.ast.Outcome.TheVariants.{Returned, Retries}
use Rattle.world_law.specs.declared.events.Fate.TheVariants as fate
use Rattle.world_law.specs.declared.events.Loads.TheVariants as loads
use Rattle.world_law.specs.declared.events.Store.TheVariants.{Lock, Put, Tick, Free}
use Rattle.world_law.specs.World.{Started, World, Committer, is_live, with_loads, with_fate, stale_at_load, IsOpening}
use Rattle.world_law.specs.Next.{Run}
use Rattle.world_law.specs.Worked.{x, y, task, pair, pair_opening, torn_events, torn_answers, torn_end, back_and_forth, back_opening, back_events, back_answers, back_end, at, attempt, half, moved_events, moved_answers, moved_end, refused_events, refused_answers, refused_end, fresh_events, fresh_answers, fresh_end}

-- no attempt of these is of the task a
abbrev pub AllOf : (ys : List Started) (a : ℕ) → Type 0
AllOf [] a = Unit {0}
AllOf (z ∷ ys) a = ((z.task.0 == a) ≡ false) × AllOf ys a

others : (ys : List Started) (a : TaskId) → AllOf ys a.0 → (i : ℕ) (z : Started) → slice_get ys i ≡ Some z → z.task ≡ a → is_live z.fate ≡ false
others [] a h i z e same = absurd (cc)
others (u ∷ ys) a h zero z e same = absurd (let f : u ≡ z = cc in false≢true (sym h.0 ∙ eq-eqb u.task.0 a.0 (ap (λ (v : Started). v.task.0) f ∙ ap (λ (b : TaskId). b.0) same)))
others (u ∷ ys) a h (suc i) z e same = others ys a h.1 i z e same

pub never : {A : Type 0} → Returned (pos 0) ≡ Retries → A
never e = absurd (cc)

never_one : {A : Type 0} → Returned (pos 1) ≡ Retries → A
never_one e = absurd (cc)

abbrev pub world : List ℕ → List (List ℤ) → List Started → Option Committer → World
world words history attempts committer = record { words = words; history = history; attempts = attempts; committer = committer }

abbrev began : ℕ → ℕ → Started
began a rv = record { task = task a; rv = rv; log = []; loads = loads.Nothing; fate = fate.Running; movable = false; check = None }

abbrev read_x : Started
read_x = record { task = task 0; rv = 0; log = (x, pos 1) ∷ []; loads = loads.Nothing; fate = fate.Running; movable = false; check = None }

pub torn_holds : Run pair pair_opening torn_events torn_answers torn_end
torn_holds = (
  world (0 ∷ 0 ∷ 1 ∷ 0 ∷ 1 ∷ []) ((pos 1 ∷ pos 1 ∷ []) ∷ []) (began 0 0 ∷ []) (None),
  (((omega arith), others ([]) (task 0) tt), refl, refl),
  (
    world (0 ∷ 0 ∷ 1 ∷ 0 ∷ 1 ∷ []) ((pos 1 ∷ pos 1 ∷ []) ∷ []) (with_loads (began 0 0) (loads.Version 0) ∷ []) (None),
    (0, began 0 0, (((refl, refl, refl), refl), refl), refl, omega arith, refl),
    (
      world (0 ∷ 0 ∷ 1 ∷ 0 ∷ 1 ∷ []) ((pos 1 ∷ pos 1 ∷ []) ∷ []) (with_loads (began 0 0) (loads.Value 0 1) ∷ []) (None),
      (0, 0, with_loads (began 0 0) (loads.Version 0), x, (((refl, refl, refl), refl), refl), refl),
      (
        world (0 ∷ 0 ∷ 1 ∷ 0 ∷ 1 ∷ []) ((pos 1 ∷ pos 1 ∷ []) ∷ []) (read_x ∷ []) (None),
        (0, 0, 1, with_loads (began 0 0) (loads.Value 0 1), x, (((refl, refl, refl), refl), refl), refl, refl, refl),
        (
          world (0 ∷ 0 ∷ 1 ∷ 0 ∷ 1 ∷ []) ((pos 1 ∷ pos 1 ∷ []) ∷ []) (read_x ∷ began 1 0 ∷ []) (None),
          (((omega arith), others (read_x ∷ []) (task 1) (refl, tt)), refl, refl),
          (
            world (0 ∷ 0 ∷ 1 ∷ 0 ∷ 1 ∷ []) ((pos 1 ∷ pos 1 ∷ []) ∷ []) (read_x ∷ began 1 0 ∷ []) (Some record { place = 1; number = 1; changes = (x, pos 2) ∷ (y, pos 2) ∷ []; stored = 0 }),
            (1, began 1 0, Returned (pos 0), (x, pos 2) ∷ (y, pos 2) ∷ [], (((refl, refl, refl), refl), refl), never, tt, refl, refl),
            (
              world (0 ∷ 1 ∷ 1 ∷ 0 ∷ 1 ∷ []) ((pos 1 ∷ pos 1 ∷ []) ∷ []) (read_x ∷ began 1 0 ∷ []) (Some record { place = 1; number = 1; changes = (x, pos 2) ∷ (y, pos 2) ∷ []; stored = 1 }),
              (record { place = 1; number = 1; changes = (x, pos 2) ∷ (y, pos 2) ∷ []; stored = 0 }, Lock x, 0 ∷ 1 ∷ 1 ∷ 0 ∷ 1 ∷ [], (refl, refl, refl), lit< tt, refl),
              (
                world (0 ∷ 1 ∷ 1 ∷ 1 ∷ 1 ∷ []) ((pos 1 ∷ pos 1 ∷ []) ∷ []) (read_x ∷ began 1 0 ∷ []) (Some record { place = 1; number = 1; changes = (x, pos 2) ∷ (y, pos 2) ∷ []; stored = 2 }),
                (record { place = 1; number = 1; changes = (x, pos 2) ∷ (y, pos 2) ∷ []; stored = 1 }, Lock y, 0 ∷ 1 ∷ 1 ∷ 1 ∷ 1 ∷ [], (refl, refl, refl), lit< tt, refl),
                (
                  world (0 ∷ 1 ∷ 2 ∷ 1 ∷ 1 ∷ []) ((pos 1 ∷ pos 1 ∷ []) ∷ []) (read_x ∷ began 1 0 ∷ []) (Some record { place = 1; number = 1; changes = (x, pos 2) ∷ (y, pos 2) ∷ []; stored = 3 }),
                  (record { place = 1; number = 1; changes = (x, pos 2) ∷ (y, pos 2) ∷ []; stored = 2 }, Put x (pos 2), 0 ∷ 1 ∷ 2 ∷ 1 ∷ 1 ∷ [], (refl, refl, (2, (lit< tt, refl), refl)), lit< tt, refl),
                  (
                    world (0 ∷ 1 ∷ 2 ∷ 1 ∷ 2 ∷ []) ((pos 1 ∷ pos 1 ∷ []) ∷ []) (read_x ∷ began 1 0 ∷ []) (Some record { place = 1; number = 1; changes = (x, pos 2) ∷ (y, pos 2) ∷ []; stored = 4 }),
                    (record { place = 1; number = 1; changes = (x, pos 2) ∷ (y, pos 2) ∷ []; stored = 3 }, Put y (pos 2), 0 ∷ 1 ∷ 2 ∷ 1 ∷ 2 ∷ [], (refl, refl, (2, (lit< tt, refl), refl)), lit< tt, refl),
                    (
                      world (1 ∷ 1 ∷ 2 ∷ 1 ∷ 2 ∷ []) ((pos 1 ∷ pos 1 ∷ []) ∷ (pos 2 ∷ pos 2 ∷ []) ∷ []) (read_x ∷ began 1 0 ∷ []) (Some record { place = 1; number = 1; changes = (x, pos 2) ∷ (y, pos 2) ∷ []; stored = 5 }),
                      (record { place = 1; number = 1; changes = (x, pos 2) ∷ (y, pos 2) ∷ []; stored = 4 }, Tick, 1 ∷ 1 ∷ 2 ∷ 1 ∷ 2 ∷ [], (refl, refl, refl), lit< tt, refl),
                      (
                        world (1 ∷ 2 ∷ 2 ∷ 1 ∷ 2 ∷ []) ((pos 1 ∷ pos 1 ∷ []) ∷ (pos 2 ∷ pos 2 ∷ []) ∷ []) (read_x ∷ began 1 0 ∷ []) (Some record { place = 1; number = 1; changes = (x, pos 2) ∷ (y, pos 2) ∷ []; stored = 6 }),
                        (record { place = 1; number = 1; changes = (x, pos 2) ∷ (y, pos 2) ∷ []; stored = 5 }, Free x, 1 ∷ 2 ∷ 2 ∷ 1 ∷ 2 ∷ [], (refl, refl, refl), lit< tt, refl),
                        (
                          world (1 ∷ 2 ∷ 2 ∷ 2 ∷ 2 ∷ []) ((pos 1 ∷ pos 1 ∷ []) ∷ (pos 2 ∷ pos 2 ∷ []) ∷ []) (read_x ∷ with_fate (began 1 0) (fate.Committed 1) ∷ []) (None),
                          (record { place = 1; number = 1; changes = (x, pos 2) ∷ (y, pos 2) ∷ []; stored = 6 }, Free y, 1 ∷ 2 ∷ 2 ∷ 2 ∷ 2 ∷ [], began 1 0, (refl, refl, refl), refl, refl, refl, refl),
                          (
                            world (1 ∷ 2 ∷ 2 ∷ 2 ∷ 2 ∷ []) ((pos 1 ∷ pos 1 ∷ []) ∷ (pos 2 ∷ pos 2 ∷ []) ∷ []) (stale_at_load read_x ∷ with_fate (began 1 0) (fate.Committed 1) ∷ []) (None),
                            (0, read_x, (((refl, refl, refl), refl), refl), inr (omega arith), refl),
                            refl,
                          ),
                        ),
                      ),
                    ),
                  ),
                ),
              ),
            ),
          ),
        ),
      ),
    ),
  ),
)

pub back_holds : Run back_and_forth back_opening back_events back_answers back_end
back_holds = (
  world (0 ∷ 0 ∷ 1 ∷ []) ((pos 1 ∷ []) ∷ []) (began 0 0 ∷ []) (None),
  (((omega arith), others ([]) (task 0) tt), refl, refl),
  (
    world (0 ∷ 0 ∷ 1 ∷ []) ((pos 1 ∷ []) ∷ []) (with_loads (began 0 0) (loads.Version 0) ∷ []) (None),
    (0, began 0 0, (((refl, refl, refl), refl), refl), refl, omega arith, refl),
    (
      world (0 ∷ 0 ∷ 1 ∷ []) ((pos 1 ∷ []) ∷ []) (with_loads (began 0 0) (loads.Value 0 1) ∷ []) (None),
      (0, 0, with_loads (began 0 0) (loads.Version 0), x, (((refl, refl, refl), refl), refl), refl),
      (
        world (0 ∷ 0 ∷ 1 ∷ []) ((pos 1 ∷ []) ∷ []) (read_x ∷ []) (None),
        (0, 0, 1, with_loads (began 0 0) (loads.Value 0 1), x, (((refl, refl, refl), refl), refl), refl, refl, refl),
        (
          world (0 ∷ 0 ∷ 1 ∷ []) ((pos 1 ∷ []) ∷ []) (read_x ∷ began 1 0 ∷ []) (None),
          (((omega arith), others (read_x ∷ []) (task 1) (refl, tt)), refl, refl),
          (
            world (0 ∷ 0 ∷ 1 ∷ []) ((pos 1 ∷ []) ∷ []) (read_x ∷ began 1 0 ∷ []) (Some record { place = 1; number = 1; changes = (x, pos 2) ∷ []; stored = 0 }),
            (1, began 1 0, Returned (pos 0), (x, pos 2) ∷ [], (((refl, refl, refl), refl), refl), never, tt, refl, refl),
            (
              world (0 ∷ 1 ∷ 1 ∷ []) ((pos 1 ∷ []) ∷ []) (read_x ∷ began 1 0 ∷ []) (Some record { place = 1; number = 1; changes = (x, pos 2) ∷ []; stored = 1 }),
              (record { place = 1; number = 1; changes = (x, pos 2) ∷ []; stored = 0 }, Lock x, 0 ∷ 1 ∷ 1 ∷ [], (refl, refl, refl), lit< tt, refl),
              (
                world (0 ∷ 1 ∷ 2 ∷ []) ((pos 1 ∷ []) ∷ []) (read_x ∷ began 1 0 ∷ []) (Some record { place = 1; number = 1; changes = (x, pos 2) ∷ []; stored = 2 }),
                (record { place = 1; number = 1; changes = (x, pos 2) ∷ []; stored = 1 }, Put x (pos 2), 0 ∷ 1 ∷ 2 ∷ [], (refl, refl, (2, (lit< tt, refl), refl)), lit< tt, refl),
                (
                  world (1 ∷ 1 ∷ 2 ∷ []) ((pos 1 ∷ []) ∷ (pos 2 ∷ []) ∷ []) (read_x ∷ began 1 0 ∷ []) (Some record { place = 1; number = 1; changes = (x, pos 2) ∷ []; stored = 3 }),
                  (record { place = 1; number = 1; changes = (x, pos 2) ∷ []; stored = 2 }, Tick, 1 ∷ 1 ∷ 2 ∷ [], (refl, refl, refl), lit< tt, refl),
                  (
                    world (1 ∷ 2 ∷ 2 ∷ []) ((pos 1 ∷ []) ∷ (pos 2 ∷ []) ∷ []) (read_x ∷ with_fate (began 1 0) (fate.Committed 1) ∷ []) (None),
                    (record { place = 1; number = 1; changes = (x, pos 2) ∷ []; stored = 3 }, Free x, 1 ∷ 2 ∷ 2 ∷ [], began 1 0, (refl, refl, refl), refl, refl, refl, refl),
                    (
                      world (1 ∷ 2 ∷ 2 ∷ []) ((pos 1 ∷ []) ∷ (pos 2 ∷ []) ∷ []) (read_x ∷ with_fate (began 1 0) (fate.Committed 1) ∷ began 2 1 ∷ []) (None),
                      (((omega arith), others (read_x ∷ with_fate (began 1 0) (fate.Committed 1) ∷ []) (task 2) (refl, (refl, tt))), refl, refl),
                      (
                        world (1 ∷ 2 ∷ 2 ∷ []) ((pos 1 ∷ []) ∷ (pos 2 ∷ []) ∷ []) (read_x ∷ with_fate (began 1 0) (fate.Committed 1) ∷ began 2 1 ∷ []) (Some record { place = 2; number = 2; changes = (x, pos 1) ∷ []; stored = 0 }),
                        (2, began 2 1, Returned (pos 0), (x, pos 1) ∷ [], (((refl, refl, refl), refl), refl), never, tt, refl, refl),
                        (
                          world (1 ∷ 3 ∷ 2 ∷ []) ((pos 1 ∷ []) ∷ (pos 2 ∷ []) ∷ []) (read_x ∷ with_fate (began 1 0) (fate.Committed 1) ∷ began 2 1 ∷ []) (Some record { place = 2; number = 2; changes = (x, pos 1) ∷ []; stored = 1 }),
                          (record { place = 2; number = 2; changes = (x, pos 1) ∷ []; stored = 0 }, Lock x, 1 ∷ 3 ∷ 2 ∷ [], (refl, refl, refl), lit< tt, refl),
                          (
                            world (1 ∷ 3 ∷ 1 ∷ []) ((pos 1 ∷ []) ∷ (pos 2 ∷ []) ∷ []) (read_x ∷ with_fate (began 1 0) (fate.Committed 1) ∷ began 2 1 ∷ []) (Some record { place = 2; number = 2; changes = (x, pos 1) ∷ []; stored = 2 }),
                            (record { place = 2; number = 2; changes = (x, pos 1) ∷ []; stored = 1 }, Put x (pos 1), 1 ∷ 3 ∷ 1 ∷ [], (refl, refl, (1, (lit< tt, refl), refl)), lit< tt, refl),
                            (
                              world (2 ∷ 3 ∷ 1 ∷ []) ((pos 1 ∷ []) ∷ (pos 2 ∷ []) ∷ (pos 1 ∷ []) ∷ []) (read_x ∷ with_fate (began 1 0) (fate.Committed 1) ∷ began 2 1 ∷ []) (Some record { place = 2; number = 2; changes = (x, pos 1) ∷ []; stored = 3 }),
                              (record { place = 2; number = 2; changes = (x, pos 1) ∷ []; stored = 2 }, Tick, 2 ∷ 3 ∷ 1 ∷ [], (refl, refl, refl), lit< tt, refl),
                              (
                                world (2 ∷ 4 ∷ 1 ∷ []) ((pos 1 ∷ []) ∷ (pos 2 ∷ []) ∷ (pos 1 ∷ []) ∷ []) (read_x ∷ with_fate (began 1 0) (fate.Committed 1) ∷ with_fate (began 2 1) (fate.Committed 2) ∷ []) (None),
                                (record { place = 2; number = 2; changes = (x, pos 1) ∷ []; stored = 3 }, Free x, 2 ∷ 4 ∷ 1 ∷ [], began 2 1, (refl, refl, refl), refl, refl, refl, refl),
                                (
                                  world (2 ∷ 4 ∷ 1 ∷ []) ((pos 1 ∷ []) ∷ (pos 2 ∷ []) ∷ (pos 1 ∷ []) ∷ []) (read_x ∷ with_fate (began 1 0) (fate.Committed 1) ∷ with_fate (began 2 1) (fate.Committed 2) ∷ []) (Some record { place = 0; number = 3; changes = []; stored = 0 }),
                                  (0, read_x, Returned (pos 1), [], (((refl, refl, refl), refl), refl), never_one, (refl, tt), refl, refl),
                                  (
                                    world (3 ∷ 4 ∷ 1 ∷ []) ((pos 1 ∷ []) ∷ (pos 2 ∷ []) ∷ (pos 1 ∷ []) ∷ (pos 1 ∷ []) ∷ []) (with_fate (read_x) (fate.Committed 3) ∷ with_fate (began 1 0) (fate.Committed 1) ∷ with_fate (began 2 1) (fate.Committed 2) ∷ []) (None),
                                    (record { place = 0; number = 3; changes = []; stored = 0 }, Tick, 3 ∷ 4 ∷ 1 ∷ [], read_x, (refl, refl, refl), refl, refl, refl, refl),
                                    refl,
                                  ),
                                ),
                              ),
                            ),
                          ),
                        ),
                      ),
                    ),
                  ),
                ),
              ),
            ),
          ),
        ),
      ),
    ),
  ),
)

ends_so : (n : ℤ) {A : Type 0} → Returned n ≡ Retries → A
ends_so n e = absurd (cc)

-- no attempt of these is of the task a, but the first, which is over
none_of : {A : Type 0} (ys : List Started) (a : TaskId) → AllOf ys a.0 → (i : ℕ) (z : Started) → slice_get ys i ≡ Some z → z.task ≡ a → A
none_of [] a h i z e same = absurd (cc)
none_of (u ∷ ys) a h zero z e same = absurd (let f : u ≡ z = cc in false≢true (sym h.0 ∙ eq-eqb u.task.0 a.0 (ap (λ (v : Started). v.task.0) f ∙ ap (λ (b : TaskId). b.0) same)))
none_of (u ∷ ys) a h (suc i) z e same = none_of ys a h.1 i z e same

dead_first : (u : Started) (ys : List Started) (a : TaskId) → is_live u.fate ≡ false → AllOf ys a.0 → (i : ℕ) (z : Started) → slice_get (u ∷ ys) i ≡ Some z → z.task ≡ a → is_live z.fate ≡ false
dead_first u ys a dead h zero z e same = let f : u ≡ z = cc in ap (λ (v : Started). is_live v.fate) (sym f) ∙ dead
dead_first u ys a dead h (suc i) z e same = none_of ys a h i z e same

pub first_latest : (u : Started) (ys : List Started) (a : TaskId) → AllOf ys a.0 → (j : ℕ) (z : Started) → slice_get (u ∷ ys) j ≡ Some z → z.task ≡ a → j ≤ 0
first_latest u ys a h zero z e same = omega arith
first_latest u ys a h (suc j) z e same = none_of ys a h j z e same

pub moved_holds : Run half pair_opening moved_events moved_answers moved_end
moved_holds = (
  world (0 ∷ 0 ∷ 1 ∷ 0 ∷ 1 ∷ []) ((pos 1 ∷ pos 1 ∷ []) ∷ []) (attempt 0 0 [] loads.Nothing fate.Running false None ∷ []) None,
  ((omega arith, others ([]) (task 0) tt), refl, refl),
  (
    world (0 ∷ 0 ∷ 1 ∷ 0 ∷ 1 ∷ []) ((pos 1 ∷ pos 1 ∷ []) ∷ []) (attempt 0 0 [] (loads.Version 0) fate.Running false None ∷ []) None,
    (0, attempt 0 0 [] loads.Nothing fate.Running false None, (((refl, refl, refl), refl), refl), refl, omega arith, refl),
    (
      world (0 ∷ 0 ∷ 1 ∷ 0 ∷ 1 ∷ []) ((pos 1 ∷ pos 1 ∷ []) ∷ []) (attempt 0 0 [] (loads.Value 0 1) fate.Running false None ∷ []) None,
      (0, 0, attempt 0 0 [] (loads.Version 0) fate.Running false None, x, (((refl, refl, refl), refl), refl), refl),
      (
        world (0 ∷ 0 ∷ 1 ∷ 0 ∷ 1 ∷ []) ((pos 1 ∷ pos 1 ∷ []) ∷ []) (attempt 0 0 ((x, pos 1) ∷ []) loads.Nothing fate.Running false None ∷ []) None,
        (0, 0, 1, attempt 0 0 [] (loads.Value 0 1) fate.Running false None, x, (((refl, refl, refl), refl), refl), refl, refl, refl),
        (
          world (0 ∷ 0 ∷ 1 ∷ 0 ∷ 1 ∷ []) ((pos 1 ∷ pos 1 ∷ []) ∷ []) (attempt 0 0 ((x, pos 1) ∷ []) loads.Nothing fate.Running false None ∷ attempt 1 0 [] loads.Nothing fate.Running false None ∷ []) None,
          ((omega arith, others (attempt 0 0 ((x, pos 1) ∷ []) loads.Nothing fate.Running false None ∷ []) (task 1) (refl, tt)), refl, refl),
          (
            world (0 ∷ 0 ∷ 1 ∷ 0 ∷ 1 ∷ []) ((pos 1 ∷ pos 1 ∷ []) ∷ []) (attempt 0 0 ((x, pos 1) ∷ []) loads.Nothing fate.Running false None ∷ attempt 1 0 [] loads.Nothing fate.Running false None ∷ []) (Some record { place = 1; number = 1; changes = (y, pos 5) ∷ []; stored = 0 }),
            (1, attempt 1 0 [] loads.Nothing fate.Running false None, Returned (pos 0), (y, pos 5) ∷ [], (((refl, refl, refl), refl), refl), ends_so (pos 0), tt, refl, refl),
            (
              world (0 ∷ 0 ∷ 1 ∷ 1 ∷ 1 ∷ []) ((pos 1 ∷ pos 1 ∷ []) ∷ []) (attempt 0 0 ((x, pos 1) ∷ []) loads.Nothing fate.Running false None ∷ attempt 1 0 [] loads.Nothing fate.Running false None ∷ []) (Some record { place = 1; number = 1; changes = (y, pos 5) ∷ []; stored = 1 }),
              (record { place = 1; number = 1; changes = (y, pos 5) ∷ []; stored = 0 }, Lock y, 0 ∷ 0 ∷ 1 ∷ 1 ∷ 1 ∷ [], (refl, refl, refl), lit< tt, refl),
              (
                world (0 ∷ 0 ∷ 1 ∷ 1 ∷ 5 ∷ []) ((pos 1 ∷ pos 1 ∷ []) ∷ []) (attempt 0 0 ((x, pos 1) ∷ []) loads.Nothing fate.Running false None ∷ attempt 1 0 [] loads.Nothing fate.Running false None ∷ []) (Some record { place = 1; number = 1; changes = (y, pos 5) ∷ []; stored = 2 }),
                (record { place = 1; number = 1; changes = (y, pos 5) ∷ []; stored = 1 }, Put y (pos 5), 0 ∷ 0 ∷ 1 ∷ 1 ∷ 5 ∷ [], (refl, refl, (5, (lit< tt, refl), refl)), lit< tt, refl),
                (
                  world (1 ∷ 0 ∷ 1 ∷ 1 ∷ 5 ∷ []) ((pos 1 ∷ pos 1 ∷ []) ∷ (pos 1 ∷ pos 5 ∷ []) ∷ []) (attempt 0 0 ((x, pos 1) ∷ []) loads.Nothing fate.Running false None ∷ attempt 1 0 [] loads.Nothing fate.Running false None ∷ []) (Some record { place = 1; number = 1; changes = (y, pos 5) ∷ []; stored = 3 }),
                  (record { place = 1; number = 1; changes = (y, pos 5) ∷ []; stored = 2 }, Tick, 1 ∷ 0 ∷ 1 ∷ 1 ∷ 5 ∷ [], (refl, refl, refl), lit< tt, refl),
                  (
                    world (1 ∷ 0 ∷ 1 ∷ 2 ∷ 5 ∷ []) ((pos 1 ∷ pos 1 ∷ []) ∷ (pos 1 ∷ pos 5 ∷ []) ∷ []) (attempt 0 0 ((x, pos 1) ∷ []) loads.Nothing fate.Running false None ∷ attempt 1 0 [] loads.Nothing (fate.Committed 1) false None ∷ []) None,
                    (record { place = 1; number = 1; changes = (y, pos 5) ∷ []; stored = 3 }, Free y, 1 ∷ 0 ∷ 1 ∷ 2 ∷ 5 ∷ [], attempt 1 0 [] loads.Nothing fate.Running false None, (refl, refl, refl), refl, refl, refl, refl),
                    (
                      world (1 ∷ 0 ∷ 1 ∷ 2 ∷ 5 ∷ []) ((pos 1 ∷ pos 1 ∷ []) ∷ (pos 1 ∷ pos 5 ∷ []) ∷ []) (attempt 0 0 ((x, pos 1) ∷ []) loads.Nothing fate.Stale true None ∷ attempt 1 0 [] loads.Nothing (fate.Committed 1) false None ∷ []) None,
                      (0, attempt 0 0 ((x, pos 1) ∷ []) loads.Nothing fate.Running false None, (((refl, refl, refl), refl), refl), inr (omega arith), refl),
                      (
                        world (1 ∷ 0 ∷ 1 ∷ 2 ∷ 5 ∷ []) ((pos 1 ∷ pos 1 ∷ []) ∷ (pos 1 ∷ pos 5 ∷ []) ∷ []) (attempt 0 0 ((x, pos 1) ∷ []) loads.Nothing fate.Running false (Some (at 1 0)) ∷ attempt 1 0 [] loads.Nothing (fate.Committed 1) false None ∷ []) None,
                        (0, attempt 0 0 ((x, pos 1) ∷ []) loads.Nothing fate.Stale true None, y, ((omega arith, dead_first (attempt 0 0 ((x, pos 1) ∷ []) loads.Nothing fate.Stale true None) (attempt 1 0 [] loads.Nothing (fate.Committed 1) false None ∷ []) (task 0) refl (refl, tt)), (refl, refl, first_latest (attempt 0 0 ((x, pos 1) ∷ []) loads.Nothing fate.Stale true None) (attempt 1 0 [] loads.Nothing (fate.Committed 1) false None ∷ []) (task 0) (refl, tt)), refl, refl, refl), refl, refl),
                        (
                          world (1 ∷ 0 ∷ 1 ∷ 2 ∷ 5 ∷ []) ((pos 1 ∷ pos 1 ∷ []) ∷ (pos 1 ∷ pos 5 ∷ []) ∷ []) (attempt 0 0 ((x, pos 1) ∷ []) (loads.Version 0) fate.Running false (Some (at 1 0)) ∷ attempt 1 0 [] loads.Nothing (fate.Committed 1) false None ∷ []) None,
                          (0, attempt 0 0 ((x, pos 1) ∷ []) loads.Nothing fate.Running false (Some (at 1 0)), (((refl, refl, refl), refl), refl), refl, omega arith, refl),
                          (
                            world (1 ∷ 0 ∷ 1 ∷ 2 ∷ 5 ∷ []) ((pos 1 ∷ pos 1 ∷ []) ∷ (pos 1 ∷ pos 5 ∷ []) ∷ []) (attempt 0 0 ((x, pos 1) ∷ []) (loads.Value 0 1) fate.Running false (Some (at 1 0)) ∷ attempt 1 0 [] loads.Nothing (fate.Committed 1) false None ∷ []) None,
                            (0, 0, attempt 0 0 ((x, pos 1) ∷ []) (loads.Version 0) fate.Running false (Some (at 1 0)), x, (((refl, refl, refl), refl), refl), refl),
                            (
                              world (1 ∷ 0 ∷ 1 ∷ 2 ∷ 5 ∷ []) ((pos 1 ∷ pos 1 ∷ []) ∷ (pos 1 ∷ pos 5 ∷ []) ∷ []) (attempt 0 1 ((x, pos 1) ∷ []) loads.Nothing fate.Running false None ∷ attempt 1 0 [] loads.Nothing (fate.Committed 1) false None ∷ []) None,
                              (0, 0, 1, attempt 0 0 ((x, pos 1) ∷ []) (loads.Value 0 1) fate.Running false (Some (at 1 0)), x, (((refl, refl, refl), refl), refl), refl, refl, refl),
                              (
                                world (1 ∷ 0 ∷ 1 ∷ 2 ∷ 5 ∷ []) ((pos 1 ∷ pos 1 ∷ []) ∷ (pos 1 ∷ pos 5 ∷ []) ∷ []) (attempt 0 1 ((x, pos 1) ∷ []) (loads.Version 2) fate.Running false None ∷ attempt 1 0 [] loads.Nothing (fate.Committed 1) false None ∷ []) None,
                                (0, attempt 0 1 ((x, pos 1) ∷ []) loads.Nothing fate.Running false None, (((refl, refl, refl), refl), refl), refl, omega arith, refl),
                                (
                                  world (1 ∷ 0 ∷ 1 ∷ 2 ∷ 5 ∷ []) ((pos 1 ∷ pos 1 ∷ []) ∷ (pos 1 ∷ pos 5 ∷ []) ∷ []) (attempt 0 1 ((x, pos 1) ∷ []) (loads.Value 2 5) fate.Running false None ∷ attempt 1 0 [] loads.Nothing (fate.Committed 1) false None ∷ []) None,
                                  (0, 2, attempt 0 1 ((x, pos 1) ∷ []) (loads.Version 2) fate.Running false None, y, (((refl, refl, refl), refl), refl), refl),
                                  (
                                    world (1 ∷ 0 ∷ 1 ∷ 2 ∷ 5 ∷ []) ((pos 1 ∷ pos 1 ∷ []) ∷ (pos 1 ∷ pos 5 ∷ []) ∷ []) (attempt 0 1 ((x, pos 1) ∷ (y, pos 5) ∷ []) loads.Nothing fate.Running false None ∷ attempt 1 0 [] loads.Nothing (fate.Committed 1) false None ∷ []) None,
                                    (0, 2, 5, attempt 0 1 ((x, pos 1) ∷ []) (loads.Value 2 5) fate.Running false None, y, (((refl, refl, refl), refl), refl), refl, refl, refl),
                                    (
                                      world (1 ∷ 0 ∷ 1 ∷ 2 ∷ 5 ∷ []) ((pos 1 ∷ pos 1 ∷ []) ∷ (pos 1 ∷ pos 5 ∷ []) ∷ []) (attempt 0 1 ((x, pos 1) ∷ (y, pos 5) ∷ []) loads.Nothing fate.Running false None ∷ attempt 1 0 [] loads.Nothing (fate.Committed 1) false None ∷ []) (Some record { place = 0; number = 2; changes = []; stored = 0 }),
                                      (0, attempt 0 1 ((x, pos 1) ∷ (y, pos 5) ∷ []) loads.Nothing fate.Running false None, Returned (pos 6), [], (((refl, refl, refl), refl), refl), ends_so (pos 6), (refl, (refl, tt)), refl, refl),
                                      (
                                        world (2 ∷ 0 ∷ 1 ∷ 2 ∷ 5 ∷ []) ((pos 1 ∷ pos 1 ∷ []) ∷ (pos 1 ∷ pos 5 ∷ []) ∷ (pos 1 ∷ pos 5 ∷ []) ∷ []) (attempt 0 1 ((x, pos 1) ∷ (y, pos 5) ∷ []) loads.Nothing (fate.Committed 2) false None ∷ attempt 1 0 [] loads.Nothing (fate.Committed 1) false None ∷ []) None,
                                        (record { place = 0; number = 2; changes = []; stored = 0 }, Tick, 2 ∷ 0 ∷ 1 ∷ 2 ∷ 5 ∷ [], attempt 0 1 ((x, pos 1) ∷ (y, pos 5) ∷ []) loads.Nothing fate.Running false None, (refl, refl, refl), refl, refl, refl, refl),
                                        refl,
                                      ),
                                    ),
                                  ),
                                ),
                              ),
                            ),
                          ),
                        ),
                      ),
                    ),
                  ),
                ),
              ),
            ),
          ),
        ),
      ),
    ),
  ),
)

pub refused_holds : Run pair pair_opening refused_events refused_answers refused_end
refused_holds = (
  world (0 ∷ 0 ∷ 1 ∷ 0 ∷ 1 ∷ []) ((pos 1 ∷ pos 1 ∷ []) ∷ []) (attempt 0 0 [] loads.Nothing fate.Running false None ∷ []) None,
  ((omega arith, others ([]) (task 0) tt), refl, refl),
  (
    world (0 ∷ 0 ∷ 1 ∷ 0 ∷ 1 ∷ []) ((pos 1 ∷ pos 1 ∷ []) ∷ []) (attempt 0 0 [] (loads.Version 0) fate.Running false None ∷ []) None,
    (0, attempt 0 0 [] loads.Nothing fate.Running false None, (((refl, refl, refl), refl), refl), refl, omega arith, refl),
    (
      world (0 ∷ 0 ∷ 1 ∷ 0 ∷ 1 ∷ []) ((pos 1 ∷ pos 1 ∷ []) ∷ []) (attempt 0 0 [] (loads.Value 0 1) fate.Running false None ∷ []) None,
      (0, 0, attempt 0 0 [] (loads.Version 0) fate.Running false None, x, (((refl, refl, refl), refl), refl), refl),
      (
        world (0 ∷ 0 ∷ 1 ∷ 0 ∷ 1 ∷ []) ((pos 1 ∷ pos 1 ∷ []) ∷ []) (attempt 0 0 ((x, pos 1) ∷ []) loads.Nothing fate.Running false None ∷ []) None,
        (0, 0, 1, attempt 0 0 [] (loads.Value 0 1) fate.Running false None, x, (((refl, refl, refl), refl), refl), refl, refl, refl),
        (
          world (0 ∷ 0 ∷ 1 ∷ 0 ∷ 1 ∷ []) ((pos 1 ∷ pos 1 ∷ []) ∷ []) (attempt 0 0 ((x, pos 1) ∷ []) loads.Nothing fate.Running false None ∷ attempt 1 0 [] loads.Nothing fate.Running false None ∷ []) None,
          ((omega arith, others (attempt 0 0 ((x, pos 1) ∷ []) loads.Nothing fate.Running false None ∷ []) (task 1) (refl, tt)), refl, refl),
          (
            world (0 ∷ 0 ∷ 1 ∷ 0 ∷ 1 ∷ []) ((pos 1 ∷ pos 1 ∷ []) ∷ []) (attempt 0 0 ((x, pos 1) ∷ []) loads.Nothing fate.Running false None ∷ attempt 1 0 [] loads.Nothing fate.Running false None ∷ []) (Some record { place = 1; number = 1; changes = (x, pos 2) ∷ (y, pos 2) ∷ []; stored = 0 }),
            (1, attempt 1 0 [] loads.Nothing fate.Running false None, Returned (pos 0), (x, pos 2) ∷ (y, pos 2) ∷ [], (((refl, refl, refl), refl), refl), ends_so (pos 0), tt, refl, refl),
            (
              world (0 ∷ 1 ∷ 1 ∷ 0 ∷ 1 ∷ []) ((pos 1 ∷ pos 1 ∷ []) ∷ []) (attempt 0 0 ((x, pos 1) ∷ []) loads.Nothing fate.Running false None ∷ attempt 1 0 [] loads.Nothing fate.Running false None ∷ []) (Some record { place = 1; number = 1; changes = (x, pos 2) ∷ (y, pos 2) ∷ []; stored = 1 }),
              (record { place = 1; number = 1; changes = (x, pos 2) ∷ (y, pos 2) ∷ []; stored = 0 }, Lock x, 0 ∷ 1 ∷ 1 ∷ 0 ∷ 1 ∷ [], (refl, refl, refl), lit< tt, refl),
              (
                world (0 ∷ 1 ∷ 1 ∷ 1 ∷ 1 ∷ []) ((pos 1 ∷ pos 1 ∷ []) ∷ []) (attempt 0 0 ((x, pos 1) ∷ []) loads.Nothing fate.Running false None ∷ attempt 1 0 [] loads.Nothing fate.Running false None ∷ []) (Some record { place = 1; number = 1; changes = (x, pos 2) ∷ (y, pos 2) ∷ []; stored = 2 }),
                (record { place = 1; number = 1; changes = (x, pos 2) ∷ (y, pos 2) ∷ []; stored = 1 }, Lock y, 0 ∷ 1 ∷ 1 ∷ 1 ∷ 1 ∷ [], (refl, refl, refl), lit< tt, refl),
                (
                  world (0 ∷ 1 ∷ 2 ∷ 1 ∷ 1 ∷ []) ((pos 1 ∷ pos 1 ∷ []) ∷ []) (attempt 0 0 ((x, pos 1) ∷ []) loads.Nothing fate.Running false None ∷ attempt 1 0 [] loads.Nothing fate.Running false None ∷ []) (Some record { place = 1; number = 1; changes = (x, pos 2) ∷ (y, pos 2) ∷ []; stored = 3 }),
                  (record { place = 1; number = 1; changes = (x, pos 2) ∷ (y, pos 2) ∷ []; stored = 2 }, Put x (pos 2), 0 ∷ 1 ∷ 2 ∷ 1 ∷ 1 ∷ [], (refl, refl, (2, (lit< tt, refl), refl)), lit< tt, refl),
                  (
                    world (0 ∷ 1 ∷ 2 ∷ 1 ∷ 2 ∷ []) ((pos 1 ∷ pos 1 ∷ []) ∷ []) (attempt 0 0 ((x, pos 1) ∷ []) loads.Nothing fate.Running false None ∷ attempt 1 0 [] loads.Nothing fate.Running false None ∷ []) (Some record { place = 1; number = 1; changes = (x, pos 2) ∷ (y, pos 2) ∷ []; stored = 4 }),
                    (record { place = 1; number = 1; changes = (x, pos 2) ∷ (y, pos 2) ∷ []; stored = 3 }, Put y (pos 2), 0 ∷ 1 ∷ 2 ∷ 1 ∷ 2 ∷ [], (refl, refl, (2, (lit< tt, refl), refl)), lit< tt, refl),
                    (
                      world (1 ∷ 1 ∷ 2 ∷ 1 ∷ 2 ∷ []) ((pos 1 ∷ pos 1 ∷ []) ∷ (pos 2 ∷ pos 2 ∷ []) ∷ []) (attempt 0 0 ((x, pos 1) ∷ []) loads.Nothing fate.Running false None ∷ attempt 1 0 [] loads.Nothing fate.Running false None ∷ []) (Some record { place = 1; number = 1; changes = (x, pos 2) ∷ (y, pos 2) ∷ []; stored = 5 }),
                      (record { place = 1; number = 1; changes = (x, pos 2) ∷ (y, pos 2) ∷ []; stored = 4 }, Tick, 1 ∷ 1 ∷ 2 ∷ 1 ∷ 2 ∷ [], (refl, refl, refl), lit< tt, refl),
                      (
                        world (1 ∷ 2 ∷ 2 ∷ 1 ∷ 2 ∷ []) ((pos 1 ∷ pos 1 ∷ []) ∷ (pos 2 ∷ pos 2 ∷ []) ∷ []) (attempt 0 0 ((x, pos 1) ∷ []) loads.Nothing fate.Running false None ∷ attempt 1 0 [] loads.Nothing fate.Running false None ∷ []) (Some record { place = 1; number = 1; changes = (x, pos 2) ∷ (y, pos 2) ∷ []; stored = 6 }),
                        (record { place = 1; number = 1; changes = (x, pos 2) ∷ (y, pos 2) ∷ []; stored = 5 }, Free x, 1 ∷ 2 ∷ 2 ∷ 1 ∷ 2 ∷ [], (refl, refl, refl), lit< tt, refl),
                        (
                          world (1 ∷ 2 ∷ 2 ∷ 2 ∷ 2 ∷ []) ((pos 1 ∷ pos 1 ∷ []) ∷ (pos 2 ∷ pos 2 ∷ []) ∷ []) (attempt 0 0 ((x, pos 1) ∷ []) loads.Nothing fate.Running false None ∷ attempt 1 0 [] loads.Nothing (fate.Committed 1) false None ∷ []) None,
                          (record { place = 1; number = 1; changes = (x, pos 2) ∷ (y, pos 2) ∷ []; stored = 6 }, Free y, 1 ∷ 2 ∷ 2 ∷ 2 ∷ 2 ∷ [], attempt 1 0 [] loads.Nothing fate.Running false None, (refl, refl, refl), refl, refl, refl, refl),
                          (
                            world (1 ∷ 2 ∷ 2 ∷ 2 ∷ 2 ∷ []) ((pos 1 ∷ pos 1 ∷ []) ∷ (pos 2 ∷ pos 2 ∷ []) ∷ []) (attempt 0 0 ((x, pos 1) ∷ []) loads.Nothing fate.Stale true None ∷ attempt 1 0 [] loads.Nothing (fate.Committed 1) false None ∷ []) None,
                            (0, attempt 0 0 ((x, pos 1) ∷ []) loads.Nothing fate.Running false None, (((refl, refl, refl), refl), refl), inr (omega arith), refl),
                            (
                              world (1 ∷ 2 ∷ 2 ∷ 2 ∷ 2 ∷ []) ((pos 1 ∷ pos 1 ∷ []) ∷ (pos 2 ∷ pos 2 ∷ []) ∷ []) (attempt 0 0 ((x, pos 1) ∷ []) loads.Nothing fate.Running false (Some (at 1 0)) ∷ attempt 1 0 [] loads.Nothing (fate.Committed 1) false None ∷ []) None,
                              (0, attempt 0 0 ((x, pos 1) ∷ []) loads.Nothing fate.Stale true None, y, ((omega arith, dead_first (attempt 0 0 ((x, pos 1) ∷ []) loads.Nothing fate.Stale true None) (attempt 1 0 [] loads.Nothing (fate.Committed 1) false None ∷ []) (task 0) refl (refl, tt)), (refl, refl, first_latest (attempt 0 0 ((x, pos 1) ∷ []) loads.Nothing fate.Stale true None) (attempt 1 0 [] loads.Nothing (fate.Committed 1) false None ∷ []) (task 0) (refl, tt)), refl, refl, refl), refl, refl),
                              (
                                world (1 ∷ 2 ∷ 2 ∷ 2 ∷ 2 ∷ []) ((pos 1 ∷ pos 1 ∷ []) ∷ (pos 2 ∷ pos 2 ∷ []) ∷ []) (attempt 0 0 ((x, pos 1) ∷ []) (loads.Version 2) fate.Running false (Some (at 1 0)) ∷ attempt 1 0 [] loads.Nothing (fate.Committed 1) false None ∷ []) None,
                                (0, attempt 0 0 ((x, pos 1) ∷ []) loads.Nothing fate.Running false (Some (at 1 0)), (((refl, refl, refl), refl), refl), refl, omega arith, refl),
                                (
                                  world (1 ∷ 2 ∷ 2 ∷ 2 ∷ 2 ∷ []) ((pos 1 ∷ pos 1 ∷ []) ∷ (pos 2 ∷ pos 2 ∷ []) ∷ []) (attempt 0 0 ((x, pos 1) ∷ []) (loads.Value 2 2) fate.Running false (Some (at 1 0)) ∷ attempt 1 0 [] loads.Nothing (fate.Committed 1) false None ∷ []) None,
                                  (0, 2, attempt 0 0 ((x, pos 1) ∷ []) (loads.Version 2) fate.Running false (Some (at 1 0)), x, (((refl, refl, refl), refl), refl), refl),
                                  (
                                    world (1 ∷ 2 ∷ 2 ∷ 2 ∷ 2 ∷ []) ((pos 1 ∷ pos 1 ∷ []) ∷ (pos 2 ∷ pos 2 ∷ []) ∷ []) (attempt 0 0 ((x, pos 1) ∷ []) (loads.Value 2 2) fate.Stale false (Some (at 1 0)) ∷ attempt 1 0 [] loads.Nothing (fate.Committed 1) false None ∷ []) None,
                                    (0, 2, 2, attempt 0 0 ((x, pos 1) ∷ []) (loads.Value 2 2) fate.Running false (Some (at 1 0)), x, (((refl, refl, refl), refl), refl), refl, refl, refl),
                                    refl,
                                  ),
                                ),
                              ),
                            ),
                          ),
                        ),
                      ),
                    ),
                  ),
                ),
              ),
            ),
          ),
        ),
      ),
    ),
  ),
)

pub fresh_holds : Run pair pair_opening fresh_events fresh_answers fresh_end
fresh_holds = (
  world (0 ∷ 0 ∷ 1 ∷ 0 ∷ 1 ∷ []) ((pos 1 ∷ pos 1 ∷ []) ∷ []) (attempt 0 0 [] loads.Nothing fate.Running false None ∷ []) None,
  ((omega arith, others ([]) (task 0) tt), refl, refl),
  (
    world (0 ∷ 0 ∷ 1 ∷ 0 ∷ 1 ∷ []) ((pos 1 ∷ pos 1 ∷ []) ∷ []) (attempt 0 0 [] loads.Nothing fate.Running false None ∷ attempt 1 0 [] loads.Nothing fate.Running false None ∷ []) None,
    ((omega arith, others (attempt 0 0 [] loads.Nothing fate.Running false None ∷ []) (task 1) (refl, tt)), refl, refl),
    (
      world (0 ∷ 0 ∷ 1 ∷ 0 ∷ 1 ∷ []) ((pos 1 ∷ pos 1 ∷ []) ∷ []) (attempt 0 0 [] loads.Nothing fate.Running false None ∷ attempt 1 0 [] loads.Nothing fate.Running false None ∷ []) (Some record { place = 1; number = 1; changes = (x, pos 2) ∷ (y, pos 2) ∷ []; stored = 0 }),
      (1, attempt 1 0 [] loads.Nothing fate.Running false None, Returned (pos 0), (x, pos 2) ∷ (y, pos 2) ∷ [], (((refl, refl, refl), refl), refl), ends_so (pos 0), tt, refl, refl),
      (
        world (0 ∷ 1 ∷ 1 ∷ 0 ∷ 1 ∷ []) ((pos 1 ∷ pos 1 ∷ []) ∷ []) (attempt 0 0 [] loads.Nothing fate.Running false None ∷ attempt 1 0 [] loads.Nothing fate.Running false None ∷ []) (Some record { place = 1; number = 1; changes = (x, pos 2) ∷ (y, pos 2) ∷ []; stored = 1 }),
        (record { place = 1; number = 1; changes = (x, pos 2) ∷ (y, pos 2) ∷ []; stored = 0 }, Lock x, 0 ∷ 1 ∷ 1 ∷ 0 ∷ 1 ∷ [], (refl, refl, refl), lit< tt, refl),
        (
          world (0 ∷ 1 ∷ 1 ∷ 1 ∷ 1 ∷ []) ((pos 1 ∷ pos 1 ∷ []) ∷ []) (attempt 0 0 [] loads.Nothing fate.Running false None ∷ attempt 1 0 [] loads.Nothing fate.Running false None ∷ []) (Some record { place = 1; number = 1; changes = (x, pos 2) ∷ (y, pos 2) ∷ []; stored = 2 }),
          (record { place = 1; number = 1; changes = (x, pos 2) ∷ (y, pos 2) ∷ []; stored = 1 }, Lock y, 0 ∷ 1 ∷ 1 ∷ 1 ∷ 1 ∷ [], (refl, refl, refl), lit< tt, refl),
          (
            world (0 ∷ 1 ∷ 2 ∷ 1 ∷ 1 ∷ []) ((pos 1 ∷ pos 1 ∷ []) ∷ []) (attempt 0 0 [] loads.Nothing fate.Running false None ∷ attempt 1 0 [] loads.Nothing fate.Running false None ∷ []) (Some record { place = 1; number = 1; changes = (x, pos 2) ∷ (y, pos 2) ∷ []; stored = 3 }),
            (record { place = 1; number = 1; changes = (x, pos 2) ∷ (y, pos 2) ∷ []; stored = 2 }, Put x (pos 2), 0 ∷ 1 ∷ 2 ∷ 1 ∷ 1 ∷ [], (refl, refl, (2, (lit< tt, refl), refl)), lit< tt, refl),
            (
              world (0 ∷ 1 ∷ 2 ∷ 1 ∷ 2 ∷ []) ((pos 1 ∷ pos 1 ∷ []) ∷ []) (attempt 0 0 [] loads.Nothing fate.Running false None ∷ attempt 1 0 [] loads.Nothing fate.Running false None ∷ []) (Some record { place = 1; number = 1; changes = (x, pos 2) ∷ (y, pos 2) ∷ []; stored = 4 }),
              (record { place = 1; number = 1; changes = (x, pos 2) ∷ (y, pos 2) ∷ []; stored = 3 }, Put y (pos 2), 0 ∷ 1 ∷ 2 ∷ 1 ∷ 2 ∷ [], (refl, refl, (2, (lit< tt, refl), refl)), lit< tt, refl),
              (
                world (1 ∷ 1 ∷ 2 ∷ 1 ∷ 2 ∷ []) ((pos 1 ∷ pos 1 ∷ []) ∷ (pos 2 ∷ pos 2 ∷ []) ∷ []) (attempt 0 0 [] loads.Nothing fate.Running false None ∷ attempt 1 0 [] loads.Nothing fate.Running false None ∷ []) (Some record { place = 1; number = 1; changes = (x, pos 2) ∷ (y, pos 2) ∷ []; stored = 5 }),
                (record { place = 1; number = 1; changes = (x, pos 2) ∷ (y, pos 2) ∷ []; stored = 4 }, Tick, 1 ∷ 1 ∷ 2 ∷ 1 ∷ 2 ∷ [], (refl, refl, refl), lit< tt, refl),
                (
                  world (1 ∷ 2 ∷ 2 ∷ 1 ∷ 2 ∷ []) ((pos 1 ∷ pos 1 ∷ []) ∷ (pos 2 ∷ pos 2 ∷ []) ∷ []) (attempt 0 0 [] loads.Nothing fate.Running false None ∷ attempt 1 0 [] loads.Nothing fate.Running false None ∷ []) (Some record { place = 1; number = 1; changes = (x, pos 2) ∷ (y, pos 2) ∷ []; stored = 6 }),
                  (record { place = 1; number = 1; changes = (x, pos 2) ∷ (y, pos 2) ∷ []; stored = 5 }, Free x, 1 ∷ 2 ∷ 2 ∷ 1 ∷ 2 ∷ [], (refl, refl, refl), lit< tt, refl),
                  (
                    world (1 ∷ 2 ∷ 2 ∷ 2 ∷ 2 ∷ []) ((pos 1 ∷ pos 1 ∷ []) ∷ (pos 2 ∷ pos 2 ∷ []) ∷ []) (attempt 0 0 [] loads.Nothing fate.Running false None ∷ attempt 1 0 [] loads.Nothing (fate.Committed 1) false None ∷ []) None,
                    (record { place = 1; number = 1; changes = (x, pos 2) ∷ (y, pos 2) ∷ []; stored = 6 }, Free y, 1 ∷ 2 ∷ 2 ∷ 2 ∷ 2 ∷ [], attempt 1 0 [] loads.Nothing fate.Running false None, (refl, refl, refl), refl, refl, refl, refl),
                    (
                      world (1 ∷ 2 ∷ 2 ∷ 2 ∷ 2 ∷ []) ((pos 1 ∷ pos 1 ∷ []) ∷ (pos 2 ∷ pos 2 ∷ []) ∷ []) (attempt 0 0 [] loads.Nothing fate.Stale true None ∷ attempt 1 0 [] loads.Nothing (fate.Committed 1) false None ∷ []) None,
                      (0, attempt 0 0 [] loads.Nothing fate.Running false None, (((refl, refl, refl), refl), refl), inr (omega arith), refl),
                      (
                        world (1 ∷ 2 ∷ 2 ∷ 2 ∷ 2 ∷ []) ((pos 1 ∷ pos 1 ∷ []) ∷ (pos 2 ∷ pos 2 ∷ []) ∷ []) (attempt 0 1 [] loads.Nothing fate.Running false None ∷ attempt 1 0 [] loads.Nothing (fate.Committed 1) false None ∷ []) None,
                        (0, attempt 0 0 [] loads.Nothing fate.Stale true None, x, ((omega arith, dead_first (attempt 0 0 [] loads.Nothing fate.Stale true None) (attempt 1 0 [] loads.Nothing (fate.Committed 1) false None ∷ []) (task 0) refl (refl, tt)), (refl, refl, first_latest (attempt 0 0 [] loads.Nothing fate.Stale true None) (attempt 1 0 [] loads.Nothing (fate.Committed 1) false None ∷ []) (task 0) (refl, tt)), refl, refl, refl), refl, refl),
                        (
                          world (1 ∷ 2 ∷ 2 ∷ 2 ∷ 2 ∷ []) ((pos 1 ∷ pos 1 ∷ []) ∷ (pos 2 ∷ pos 2 ∷ []) ∷ []) (attempt 0 1 [] (loads.Version 2) fate.Running false None ∷ attempt 1 0 [] loads.Nothing (fate.Committed 1) false None ∷ []) None,
                          (0, attempt 0 1 [] loads.Nothing fate.Running false None, (((refl, refl, refl), refl), refl), refl, omega arith, refl),
                          (
                            world (1 ∷ 2 ∷ 2 ∷ 2 ∷ 2 ∷ []) ((pos 1 ∷ pos 1 ∷ []) ∷ (pos 2 ∷ pos 2 ∷ []) ∷ []) (attempt 0 1 [] (loads.Value 2 2) fate.Running false None ∷ attempt 1 0 [] loads.Nothing (fate.Committed 1) false None ∷ []) None,
                            (0, 2, attempt 0 1 [] (loads.Version 2) fate.Running false None, x, (((refl, refl, refl), refl), refl), refl),
                            (
                              world (1 ∷ 2 ∷ 2 ∷ 2 ∷ 2 ∷ []) ((pos 1 ∷ pos 1 ∷ []) ∷ (pos 2 ∷ pos 2 ∷ []) ∷ []) (attempt 0 1 ((x, pos 2) ∷ []) loads.Nothing fate.Running false None ∷ attempt 1 0 [] loads.Nothing (fate.Committed 1) false None ∷ []) None,
                              (0, 2, 2, attempt 0 1 [] (loads.Value 2 2) fate.Running false None, x, (((refl, refl, refl), refl), refl), refl, refl, refl),
                              (
                                world (1 ∷ 2 ∷ 2 ∷ 2 ∷ 2 ∷ []) ((pos 1 ∷ pos 1 ∷ []) ∷ (pos 2 ∷ pos 2 ∷ []) ∷ []) (attempt 0 1 ((x, pos 2) ∷ []) (loads.Version 2) fate.Running false None ∷ attempt 1 0 [] loads.Nothing (fate.Committed 1) false None ∷ []) None,
                                (0, attempt 0 1 ((x, pos 2) ∷ []) loads.Nothing fate.Running false None, (((refl, refl, refl), refl), refl), refl, omega arith, refl),
                                (
                                  world (1 ∷ 2 ∷ 2 ∷ 2 ∷ 2 ∷ []) ((pos 1 ∷ pos 1 ∷ []) ∷ (pos 2 ∷ pos 2 ∷ []) ∷ []) (attempt 0 1 ((x, pos 2) ∷ []) (loads.Value 2 2) fate.Running false None ∷ attempt 1 0 [] loads.Nothing (fate.Committed 1) false None ∷ []) None,
                                  (0, 2, attempt 0 1 ((x, pos 2) ∷ []) (loads.Version 2) fate.Running false None, y, (((refl, refl, refl), refl), refl), refl),
                                  (
                                    world (1 ∷ 2 ∷ 2 ∷ 2 ∷ 2 ∷ []) ((pos 1 ∷ pos 1 ∷ []) ∷ (pos 2 ∷ pos 2 ∷ []) ∷ []) (attempt 0 1 ((x, pos 2) ∷ (y, pos 2) ∷ []) loads.Nothing fate.Running false None ∷ attempt 1 0 [] loads.Nothing (fate.Committed 1) false None ∷ []) None,
                                    (0, 2, 2, attempt 0 1 ((x, pos 2) ∷ []) (loads.Value 2 2) fate.Running false None, y, (((refl, refl, refl), refl), refl), refl, refl, refl),
                                    (
                                      world (1 ∷ 2 ∷ 2 ∷ 2 ∷ 2 ∷ []) ((pos 1 ∷ pos 1 ∷ []) ∷ (pos 2 ∷ pos 2 ∷ []) ∷ []) (attempt 0 1 ((x, pos 2) ∷ (y, pos 2) ∷ []) loads.Nothing fate.Running false None ∷ attempt 1 0 [] loads.Nothing (fate.Committed 1) false None ∷ []) None,
                                      (λ i z v can. false≢true (sym (can.0.1 0 (attempt 0 1 ((x, pos 2) ∷ (y, pos 2) ∷ []) loads.Nothing fate.Running false None) refl refl)), refl),
                                      refl,
                                    ),
                                  ),
                                ),
                              ),
                            ),
                          ),
                        ),
                      ),
                    ),
                  ),
                ),
              ),
            ),
          ),
        ),
      ),
    ),
  ),
)

pub pair_opens : IsOpening pair pair_opening
pair_opens = record { words = (0 ∷ 1 ∷ 0 ∷ 1 ∷ [], refl, (refl, (lit< tt, refl), (refl, (lit< tt, refl), tt))); history = refl; attempts = refl; committer = refl }

pub back_opens : IsOpening back_and_forth back_opening
back_opens = record { words = (0 ∷ 1 ∷ [], refl, (refl, (lit< tt, refl), tt)); history = refl; attempts = refl; committer = refl }

pub half_opens : IsOpening half pair_opening
half_opens = record { words = (0 ∷ 1 ∷ 0 ∷ 1 ∷ [], refl, (refl, (lit< tt, refl), (refl, (lit< tt, refl), tt))); history = refl; attempts = refl; committer = refl }
