use Rattle.std.proofs.Common.{ℤ, pos, List, ◌++◌, drop, length, replicate, ap, ◌∙◌}
use Rattle.std.proofs.lemmas.List.{drop-replicate}
use Rattle.txn_programs.specs.declared.limits.TheConstants.{MAX_PARAMETERS}
use Rattle.stm_c.proofs.jobs.in_places.Goals as goal

-- what is left of the places is 0
pub returns : goal.returns
returns c =
    let xs = c.args.given.now in
    ap (λ (ys : List ℤ). ys ++ drop (length xs) (replicate MAX_PARAMETERS (pos 0))) c.copy_from_slice.ensures.after
    ∙ ap (λ rest. xs ++ rest) (drop-replicate (length xs) MAX_PARAMETERS (pos 0))
