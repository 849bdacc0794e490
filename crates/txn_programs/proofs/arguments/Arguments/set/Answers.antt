use Rattle.std.proofs.Common.{◌≤◌, ◌-◌, length, ℤ, pos, List, ◌++◌, replicate, arith, subst, sym, length-append}
use Rattle.std.proofs.Math.Seq.{drop-append_seam}
use Rattle.std.proofs.lemmas.List.{length-replicate}
use Rattle.txn_programs.specs.ArgumentsInside.{IsKept}
use Rattle.txn_programs.specs.declared.limits.TheConstants.{MAX_PARAMETERS}
use Rattle.txn_programs.proofs.arguments.Arguments.set.Goals as goal

-- numbers, and 0 behind them as far as the place goes
kept : (xs : List ℤ) → length xs ≤ MAX_PARAMETERS → IsKept (record { values = xs ++ replicate (MAX_PARAMETERS - length xs) (pos 0); count = length xs })
kept xs few =
    let rest = replicate (MAX_PARAMETERS - length xs) (pos 0) in
    record {
      few = few;
      whole = omega (arith, few, length-append xs rest, length-replicate (MAX_PARAMETERS - length xs) (pos 0));
      blank = drop-append_seam xs rest;
    }

pub invariant_of-self : goal.invariant_of-self
invariant_of-self c =
    subst (λ (xs : List ℤ). IsKept (record { values = xs; count = length c.args.numbers.now }))
    (sym c.padded-self-inside.ensures) (kept c.args.numbers.now c.requires)
