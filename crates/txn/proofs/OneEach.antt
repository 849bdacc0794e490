-- Runs of one task, one for each call.
use Rattle.std.proofs.Common.{◌≡◌, ℕ, true, List, [], ◌∷◌, length, map, sum_by, nat_le, arith, refl, ap}
use Rattle.std.specs.List.{list_all, All}
use Rattle.std.proofs.lemmas.List.Elements.{All-head, All-tail}
use Rattle.std.proofs.lemmas.List.Sums.{sum_by-cons}
use Rattle.std.proofs.lemmas.Bool.{and_from, lt-ltb, eq-eqb}
use Rattle.txn_programs.specs.declared.arguments.Call.{Call}
use Rattle.txn_programs.specs.Listing.{Listing, calls_of, transaction_at, arity, IsCallable}
use Rattle.txn_programs.specs.Names.{is_callable}
use Rattle.txn_programs.specs.Limits.{most_tasks}

pub one_each : (cs : List Call) → calls_of (map (λ (c : Call). (c, 1)) cs) ≡ cs
one_each [] = refl
one_each (c ∷ cs) = ap (λ (more : List Call). c ∷ more) (one_each cs)

pub runs_sum : (cs : List Call) → sum_by (λ (run : Call × ℕ). run.1) (map (λ (c : Call). (c, 1)) cs) ≡ length cs
runs_sum [] = refl
runs_sum (c ∷ cs) = omega (arith, sum_by-cons (λ (run : Call × ℕ). run.1) (c, 1) (map (λ (c : Call). (c, 1)) cs), runs_sum cs)

-- each is of one task
pub runs_small : (cs : List Call) → list_all (λ (run : Call × ℕ). nat_le run.1 most_tasks) (map (λ (c : Call). (c, 1)) cs) ≡ true
runs_small [] = refl
runs_small (c ∷ cs) = and_from _ _ refl (runs_small cs)

pub callable_passes : (l : Listing) (c : Call) → IsCallable l c.tx c.arguments → is_callable l c ≡ true
callable_passes l c h = and_from _ _ (lt-ltb c.tx.0 (length l.transactions) h.declared) (eq-eqb (length c.arguments) (arity (transaction_at l c.tx)) h.each)

-- and makes a call of the listing
pub runs_callable : (l : Listing) (cs : List Call) → All (λ (c : Call). IsCallable l c.tx c.arguments) cs → list_all (is_callable l) (map (λ (run : Call × ℕ). run.0) (map (λ (c : Call). (c, 1)) cs)) ≡ true
runs_callable l [] h = refl
runs_callable l (c ∷ cs) h =
    and_from _ _ (callable_passes l c (All-head (λ (c : Call). IsCallable l c.tx c.arguments) c cs h))
    (runs_callable l cs (All-tail (λ (c : Call). IsCallable l c.tx c.arguments) c cs h))
