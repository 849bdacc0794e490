-- Waking the tasks of a set that several variables share, one after another.
use Rattle.std.proofs.Common.{◌≡◌, ◌≢◌, inl, inr, ℕ, ◌+◌, ◌<◌, ◌≤◌, Bool, true, false, List, Some, map, set, sym, ◌∙◌, ap, arith}
use Rattle.std.specs.List.{slice_get}
use Rattle.std.proofs.lemmas.Bool.{cases_eq, cases_lt, cases_Bool, cond-true, cond-false, true≢false}
use Rattle.std.proofs.lemmas.Option.{same_Some}
use Rattle.book.specs.Tasks.{Task, Ready}
use Rattle.book.specs.Table.{waits_for, woken_for}
use Rattle.book.proofs.Lists.{map_get, map_set, set_same, get_set_same, get_set_other}

-- who is woken for a variable waits for it no more
pub woken_awake : (x : ℕ) (t : Task) → waits_for x (woken_for x t) ≡ false
woken_awake x t =
    elim (cases_Bool (waits_for x t)) [
      | inl waits ↦ ap (waits_for x) (cond-true (waits_for x t) Ready t waits)
      | inr not_so ↦ ap (waits_for x) (cond-false (waits_for x t) Ready t not_so) ∙ not_so
    ]

woken_twice : (x : ℕ) (t : Task) → woken_for x (woken_for x t) ≡ woken_for x t
woken_twice x t = cond-false (waits_for x (woken_for x t)) Ready (woken_for x t) (woken_awake x t)

-- a task that was looked at is woken first or last
pub looked_first : (x : ℕ) (ts : List Task) (k : ℕ) (t : Task) → slice_get ts k ≡ Some t → map (woken_for x) (set ts k (woken_for x t)) ≡ map (woken_for x) ts
looked_first x ts k t at =
    map_set (woken_for x) ts k (woken_for x t)
    ∙ set_same (map (woken_for x) ts) k (woken_for x (woken_for x t)) (map_get (woken_for x) ts k t at ∙ ap Some (sym (woken_twice x t)))

-- and so no task up to it waits
pub looked_before : (x : ℕ) (ts : List Task) (from k : ℕ) (t : Task) → slice_get ts k ≡ Some t → ((j : ℕ) → j < from → slice_get (map (waits_for x) ts) j ≢ Some true) → ((j : ℕ) → from ≤ j → j < k → slice_get (map (waits_for x) ts) j ≢ Some true)
    → (j : ℕ) → j < k + 1 → slice_get (map (waits_for x) (set ts k (woken_for x t))) j ≢ Some true
looked_before x ts from k t at before between j low e =
    let flags = map (waits_for x) ts in
    let now : slice_get (set flags k (waits_for x (woken_for x t))) j ≡ Some true = ap (λ (fs : List Bool). slice_get fs j) (sym (map_set (waits_for x) ts k (woken_for x t))) ∙ e in
    elim (cases_eq j k) [
      | inl same ↦
          let here : slice_get (set flags k (waits_for x (woken_for x t))) j ≡ Some (waits_for x (woken_for x t)) =
          ap (slice_get (set flags k (waits_for x (woken_for x t)))) same ∙ get_set_same flags k (waits_for x t) (waits_for x (woken_for x t)) (map_get (waits_for x) ts k t at) in
          true≢false (sym (same_Some (waits_for x (woken_for x t)) true (sym here ∙ now)) ∙ woken_awake x t)
      | inr other ↦
          let was : slice_get flags j ≡ Some true = sym (get_set_other flags k j (waits_for x (woken_for x t)) other) ∙ now in
          elim (cases_lt j from) [
            | inl less ↦ before j less was
            | inr more ↦ between j more (omega (arith, low, other)) was
          ]
    ]
