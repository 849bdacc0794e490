use Rattle.std.proofs.Common.{◌≡◌, ◌++◌, length, string_bytes, Option, Some, refl, sym, subst}
use Rattle.std.specs.Prelude.{slice_get}
use Rattle.std.proofs.lemmas.Option.{slice_get_read}
use Rattle.explore_law.specs.declared.graph.Node.{Node}
use Rattle.explore_runner.specs.GraphText.{turn_lines}
use Rattle.explore_runner.proofs.Pieces.{one_more}
use Rattle.explore_runner.proofs.graph_printer.put_turns.Goals as goal

pub nodes-preserved : goal.nodes-preserved
nodes-preserved c =
    let l = c.args.catalogue.now in
    let cs = c.args.calls.now in
    let nodes = c.args.nodes.now in
    let k = c.nodes.k in
    let old = string_bytes c.args.out.now in
    let mid = string_bytes c.nodes.out in
    let new = string_bytes c.put_turns_of.new.out in
    let at : slice_get nodes k ≡ Some c.index-nodes-k.result = slice_get_read nodes (length nodes) k c.index-nodes-k.result refl c.nodes-test.true c.index-nodes-k.is in
    let put : new ≡ mid ++ turn_lines l cs k (slice_get nodes k) = subst (λ (n : Option Node). new ≡ mid ++ turn_lines l cs k n) (sym at) c.in_ok-put_turns_of.ensures in
    one_more (λ n. turn_lines l cs n (slice_get nodes n)) k old mid new c.nodes.invariant put
