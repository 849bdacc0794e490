-- The text of a graph, in DOT, the language of Graphviz. The calls cs are those of the instances.
use Rattle.std.specs.Prelude.{ℕ, ◌+◌, ◌==◌, ℤ, pos, Bool, true, false, ◌&&◌, not, nat_lt, nat_eq, List, [], ◌++◌, codes, length, Option, Some, None, slice_get, slice_index_or}
use Rattle.std.specs.Cmp.Lexicographic.{pointwise}
use Rattle.std.specs.List.{flat_map, list_any}
use Rattle.std.specs.Ordering.{int_eq}
use Rattle.std.specs.Fmt.{decimal, signed_decimal}
use Rattle.txn_programs.specs.declared.arguments.Call.{Call}
use Rattle.txn_programs.specs.Listing.{Listing}
use Rattle.explore_law.specs.declared.graph.Turn.{Turn}
use Rattle.explore_law.specs.declared.graph.Node.{Node}
use Rattle.explore_law.specs.declared.graph.Graph.{Graph}
use Rattle.explore_law.specs.Instances.{instances}
use Rattle.text_report_printer.specs.Names.{transaction_name, value_name}
use Rattle.text_report_printer.specs.ReportText.{outcome_text}
use Rattle.explore_runner.specs.FoundText.{only, is_told, each_below, some_wait, call_at, argument_words, run_words}

-- both have the same values, but other counts
abbrev pub has_same_values : Node → Node → Bool
has_same_values m n = pointwise int_eq m.values.items n.values.items && not (pointwise nat_eq m.left.items n.left.items)

-- so does some node
abbrev pub shares_values : List Node → Node → Bool
shares_values ns n = list_any (λ (m : Node). has_same_values m n) ns

-- a variable or a cell, and its value, on a line of the label
abbrev pub value_row : Listing → List ℤ → ℕ → List ℕ
value_row l values k =
    only (is_told l values k) (value_name l k ++ (codes " " ++ (signed_decimal (slice_index_or values k (pos 0)) ++ codes "\\n")))

-- how many tasks of the instance of number i are left, and what they are, where some are left
abbrev pub count_row : Listing → List Call → List ℕ → List ℕ → ℕ → List ℕ
count_row l cs word counts i = only (nat_lt 0 (slice_index_or counts i 0)) (run_words l (call_at cs i) (slice_index_or counts i 0) ++ word)

-- by whether it is an end: tasks are parked there. Elsewhere those that are left are told where the values do not tell
abbrev pub count_rows : Listing → List Call → Bool → Bool → List ℕ → List ℕ
count_rows l cs true shared counts = each_below (count_row l cs (codes " parked\\n") counts) (length counts)
count_rows l cs false true counts = each_below (count_row l cs (codes " left\\n") counts) (length counts)
count_rows l cs false false counts = []

-- no turn is listed
abbrev pub is_end : List Turn → Bool
is_end ts = length ts == 0

abbrev pub node_label : Listing → List Call → List Node → Node → List ℕ
node_label l cs ns n = each_below (value_row l n.values.items) (length n.values.items) ++ count_rows l cs (is_end n.turns.items) (shares_values ns n) n.left.items

-- by whether it is an end, and some task is left: an end has a double border, and is filled where one waits
abbrev pub mark : Bool → Bool → List ℕ
mark true false = codes ", peripheries=2"
mark true true = codes ", style=filled, fillcolor=pink"
mark false waits = []

-- the line of the node of number k
abbrev pub node_line : Listing → List Call → List Node → ℕ → Option Node → List ℕ
node_line l cs ns k None = []
node_line l cs ns k (Some n) = codes "  " ++ (decimal (k + 1) ++ (codes " [label=\"" ++ (node_label l cs ns n ++ (codes "\"" ++ (mark (is_end n.turns.items) (some_wait n.left.items) ++ codes "]\n")))))

-- the transaction of a call, and its arguments
abbrev pub call_words : Listing → Call → List ℕ
call_words l c = transaction_name l c.tx.0 ++ argument_words c.arguments

-- the line of a turn at the node of number k
abbrev pub turn_line : Listing → List Call → ℕ → Turn → List ℕ
turn_line l cs k t = codes "  " ++ (decimal (k + 1) ++ (codes " -> " ++ (decimal (t.to + 1) ++ (codes " [label=\"" ++ (call_words l (call_at cs t.instance.0) ++ (codes "\\n" ++ (outcome_text l t.outcome ++ codes "\"]\n")))))))

abbrev pub turn_lines : Listing → List Call → ℕ → Option Node → List ℕ
turn_lines l cs k None = []
turn_lines l cs k (Some n) = flat_map (turn_line l cs k) n.turns.items

-- the nodes, and then the turns of each
abbrev pub graph_text : Listing → Graph → List ℕ
graph_text l g =
    let cs = instances l in
    let ns = g.nodes.items in
    codes "digraph {\n  node [shape=box]\n"
    ++ (each_below (λ k. node_line l cs ns k (slice_get ns k)) (length ns)
    ++ (each_below (λ k. turn_lines l cs k (slice_get ns k)) (length ns)
    ++ codes "}\n"))
