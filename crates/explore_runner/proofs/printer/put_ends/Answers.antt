use Rattle.std.proofs.Common.{◌≡◌, ◌++◌, length, string_bytes, Option, Some, refl, sym, subst}
use Rattle.std.specs.Prelude.{slice_get}
use Rattle.std.proofs.lemmas.Option.{slice_get_read}
use Rattle.explore_law.specs.declared.found.End.{End}
use Rattle.explore_runner.specs.FoundText.{end_line}
use Rattle.explore_runner.proofs.Pieces.{one_more}
use Rattle.explore_runner.proofs.printer.put_ends.Goals as goal

pub ends-preserved : goal.ends-preserved
ends-preserved c =
    let l = c.args.catalogue.now in
    let cs = c.args.calls.now in
    let ends = c.args.ends.now in
    let k = c.ends.k in
    let old = string_bytes c.args.out.now in
    let mid = string_bytes c.ends.out in
    let new = string_bytes c.put_end.new.out in
    let at : slice_get ends k ≡ Some c.index-ends-k.result = slice_get_read ends (length ends) k c.index-ends-k.result refl c.ends-test.true c.index-ends-k.is in
    let put : new ≡ mid ++ end_line l cs k (slice_get ends k) = subst (λ (e : Option End). new ≡ mid ++ end_line l cs k e) (sym at) c.in_ok-put_end.ensures in
    one_more (λ n. end_line l cs n (slice_get ends n)) k old mid new c.ends.invariant put
