use Rattle.std.proofs.Common.{length, ℤ, pos, List, ◌++◌, drop, replicate, ap, ◌∙◌}
use Rattle.std.proofs.lemmas.List.{drop-replicate}
use Rattle.txn_programs.specs.declared.limits.TheConstants.{MAX_PARAMETERS}
use Rattle.txn_programs.proofs.arguments.copied.Goals as goal

pub returns : goal.returns
returns c =
    let n = length c.args.numbers.now in
    ap (λ (xs : List ℤ). xs ++ drop n (replicate MAX_PARAMETERS (pos 0))) c.copy_from_slice.ensures.after
    ∙ ap (λ (rest : List ℤ). c.args.numbers.now ++ rest) (drop-replicate n MAX_PARAMETERS (pos 0))
