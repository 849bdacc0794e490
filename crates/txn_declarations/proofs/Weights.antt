-- Costs as far as they are counted, and trees that are not empty.
use Rattle.std.proofs.Common.{◌≡◌, ℕ, zero, suc, ◌+◌, ◌*◌, ◌≤◌, ◌<◌, ap, ◌∙◌, arith, inl, inr}
use Rattle.std.proofs.lemmas.Bool.{cases_lt}
use Rattle.txn_programs.specs.Limits.{capped, highest_cost}
use Rattle.txn_programs.specs.Tree.{Condition, Eq, Lt, Le, Not, And, Or, Statement, Skip, Set, Put, Seq, If, Repeat, Retry, OrElse, Throw}
use Rattle.txn_programs.specs.Depth.{condition_depth, statement_depth}

-- times of a part that was capped cost as much as those of the part
at_least : (n k c : ℕ) → k ≤ c → k ≤ 1 + suc n * c
at_least n k c h = let p : suc n * c ≡ n * c + c = grind arith in omega (arith, p)

pub capped_times : (n c : ℕ) → capped (1 + n * capped c) ≡ capped (1 + n * c)
capped_times zero c = grind arith
capped_times (suc n) c =
    elim (cases_lt c (highest_cost + 1)) [
      | inl low ↦ let e : capped c ≡ c = omega arith in ap (λ k. capped (1 + suc n * k)) e
      | inr high ↦
          let e : capped c ≡ (highest_cost + 1) = omega arith in
          let a = at_least n (highest_cost + 1) (highest_cost + 1) (omega arith) in
          let b = at_least n (highest_cost + 1) c (omega arith) in
          ap (λ k. capped (1 + suc n * k)) e ∙ omega (arith, a, b)
    ]

pub condition_depth_positive : (c : Condition) → 0 < condition_depth c
condition_depth_positive (Eq a b) = omega arith
condition_depth_positive (Lt a b) = omega arith
condition_depth_positive (Le a b) = omega arith
condition_depth_positive (Not c) = omega arith
condition_depth_positive (And a b) = omega arith
condition_depth_positive (Or a b) = omega arith

pub statement_depth_positive : (s : Statement) → 0 < statement_depth s
statement_depth_positive Skip = omega arith
statement_depth_positive (Set x e) = omega arith
statement_depth_positive (Put t a b) = omega arith
statement_depth_positive (Seq parts) = omega arith
statement_depth_positive (If c a b) = omega arith
statement_depth_positive (Repeat n s) = omega arith
statement_depth_positive Retry = omega arith
statement_depth_positive (OrElse a b) = omega arith
statement_depth_positive (Throw e) = omega arith
