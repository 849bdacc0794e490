use Rattle.std.proofs.Common.{◌∙◌, map, sym, bytes_eq, ◌&&◌, ◌==◌, List, ℕ}
use Rattle.std.proofs.lemmas.Slice.Eq.{slice_eq-Decides}
use Rattle.std.specs.Cmp.Derive.Mapped.{pointwise-map}
use Rattle.txn_declarations.specs.Counted.{counted}
use Rattle.txn_declarations.proofs.Equal.{decides_count}
use Rattle.txn_declarations.proofs.same.same_tables.Goals as goal

pub returns : goal.returns
returns c =
    let a = c.args.tables.now in
    let b = c.args.others.now in
    slice_eq-Decides decides_count (map counted a) (map counted b) _ (c.eq.ensures ∙ sym (pointwise-map counted (λ (x y : List ℕ × ℕ). bytes_eq x.0 y.0 && (x.1 == y.1)) a b))
