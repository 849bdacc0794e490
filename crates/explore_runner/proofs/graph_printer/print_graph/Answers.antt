use Rattle.std.proofs.Common.{◌≡◌, ◌++◌, ℕ, List, [], length, string_bytes, append_assoc, ◌∙◌, ap, subst}
use Rattle.std.specs.Prelude.{slice_get, codes}
use Rattle.txn_programs.specs.declared.arguments.Call.{Call}
use Rattle.explore_law.specs.declared.graph.Node.{Node}
use Rattle.explore_law.specs.Instances.{instances}
use Rattle.explore_runner.specs.FoundText.{each_below}
use Rattle.explore_runner.specs.GraphText.{node_line, turn_lines}
use Rattle.explore_runner.proofs.graph_printer.print_graph.Goals as goal

joined : (head nodes turns tail o0 o1 o2 o3 o4 : List ℕ) → o0 ≡ [] → o1 ≡ o0 ++ head → o2 ≡ o1 ++ nodes → o3 ≡ o2 ++ turns → o4 ≡ o3 ++ tail → o4 ≡ head ++ (nodes ++ (turns ++ tail))
joined head nodes turns tail o0 o1 o2 o3 o4 e0 e1 e2 e3 e4 =
    e4 ∙ ap (λ (o : List ℕ). o ++ tail) (e3 ∙ ap (λ (o : List ℕ). o ++ turns) (e2 ∙ ap (λ (o : List ℕ). o ++ nodes) (e1 ∙ ap (λ (o : List ℕ). o ++ head) e0)))
    ∙ append_assoc (head ++ nodes) turns tail ∙ append_assoc head nodes (turns ++ tail)

pub returns : goal.returns
returns c =
    let l = c.args.catalogue.now in
    let ns = c.args.graph.now.nodes.items in
    let o1 = string_bytes c.push_str.new.self in
    let o2 = string_bytes c.put_nodes.new.out in
    let o3 = string_bytes c.put_turns.new.out in
    let nodes = λ (cs : List Call) (ms : List Node). each_below (λ k. node_line l cs ms k (slice_get ms k)) (length ms) in
    let turns = λ (cs : List Call) (ms : List Node). each_below (λ k. turn_lines l cs k (slice_get ms k)) (length ms) in
    let same = c.as_slice-nodes.ensures.value in
    let calls = c.as_slice-calls.ensures.value ∙ c.in_ok-instances.ensures.calls in
    let by_nodes : o2 ≡ o1 ++ nodes (instances l) ns =
    subst (λ (cs : List Call). o2 ≡ o1 ++ nodes cs ns) calls (subst (λ (ms : List Node). o2 ≡ o1 ++ nodes c.as_slice-calls.result.now ms) same c.in_ok-put_nodes.ensures) in
    let by_turns : o3 ≡ o2 ++ turns (instances l) ns =
    subst (λ (cs : List Call). o3 ≡ o2 ++ turns cs ns) calls (subst (λ (ms : List Node). o3 ≡ o2 ++ turns c.as_slice-calls.result.now ms) same c.in_ok-put_turns.ensures) in
    joined (codes "digraph {\n  node [shape=box]\n") (nodes (instances l) ns) (turns (instances l) ns) (codes "}\n") (string_bytes c.new-out.result) o1 o2 o3 (string_bytes c.push_str-2.new.self)
    c.new-out.ensures.bytes c.in_ok-push_str.ensures.bytes by_nodes by_turns c.in_ok-push_str-2.ensures.bytes
