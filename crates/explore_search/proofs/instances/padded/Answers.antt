use Rattle.std.proofs.Common.{◌++◌, List, ℤ, pos, length, drop, replicate, ◌∙◌, ap}
use Rattle.std.proofs.lemmas.List.{drop-replicate}
use Rattle.txn_programs.specs.declared.limits.TheConstants.{MAX_PARAMETERS}
use Rattle.explore_search.proofs.instances.padded.Goals as goal

pub returns : goal.returns
returns c =
    let xs = c.args.arguments.now in
    ap (λ (ys : List ℤ). ys ++ drop (length xs) (replicate MAX_PARAMETERS (pos 0))) c.copy_from_slice.ensures.after
    ∙ ap (λ (ys : List ℤ). xs ++ ys) (drop-replicate (length xs) MAX_PARAMETERS (pos 0))
