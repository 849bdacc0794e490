-- Long calls that are handed out.
use Rattle.std.proofs.Common.{◌≡◌, suc, ◌<◌, List, ◌∷◌, ◌++◌, Option, Some, None, length, refl, ap, arith, length-append}
use Rattle.stm_store.specs.declared.job.Job.{Job}

-- whoever sits there sat there before
pub sat_there : {A : Type 0} (old new : Option A) (x : A) → (old ≡ None → new ≡ None) → new ≡ Some x → (y : A) × (old ≡ Some y)
sat_there None new x nobody at = let none = nobody refl in absurd (cc (none, at))
sat_there (Some y) new x nobody at = (y, refl)

-- fewer jobs are still to be handed out
pub fewer_due : (skipped rest old : List Job) (job : Job) → old ≡ skipped ++ job ∷ rest → length rest < length old
fewer_due skipped rest old job is =
    let one : length (job ∷ rest) ≡ suc (length rest) = refl in
    omega (arith, one, ap length is, length-append skipped (job ∷ rest))
