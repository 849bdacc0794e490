use Rattle.std.proofs.Common.{◌∙◌, map, sym, string_bytes, bytes_eq}
use Rattle.std.proofs.lemmas.Slice.Eq.{slice_eq-Decides, bytes_eq-Decides}
use Rattle.std.specs.Cmp.Derive.Mapped.{pointwise-map}
use Rattle.txn_declarations.proofs.same.same_names.Goals as goal

pub returns : goal.returns
returns c =
    let a = c.args.names.now in
    let b = c.args.others.now in
    slice_eq-Decides bytes_eq-Decides (map string_bytes a) (map string_bytes b) _ (c.eq.ensures ∙ sym (pointwise-map string_bytes bytes_eq a b))
