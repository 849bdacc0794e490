-- The instances of a file: the calls that its tasks make, each once. Tasks that make the same call are alike.
use Rattle.std.specs.Prelude.{ℕ, Bool, not, ◌&&◌, ◌==◌, List, [], ◌∷◌, length, filter, flat_map, slice_index_or}
use Rattle.std.specs.Cmp.Lexicographic.{pointwise}
use Rattle.std.specs.List.{range_with_len}
use Rattle.std.specs.Ordering.{int_eq}
use Rattle.txn_programs.specs.declared.arguments.Call.{Call}
use Rattle.txn_programs.specs.Listing.{Listing, calls, call_program}
use Rattle.txn_programs.specs.Tree.{Program}
use Rattle.explore_law.specs.declared.instance.InstanceId.{InstanceId}

-- the same transaction with the same arguments
abbrev pub is_same : Call → Call → Bool
is_same c d = c.tx.0 == d.tx.0 && pointwise int_eq c.arguments d.arguments

-- each call once, where it comes first
abbrev pub each_once : List Call → List Call
each_once [] = []
each_once (c ∷ cs) = c ∷ filter (λ d. not (is_same c d)) (each_once cs)

-- those of the transaction of number k
abbrev pub calls_to : List Call → ℕ → List Call
calls_to cs k = filter (λ (c : Call). c.tx.0 == k) cs

-- the transactions in declared order, and of each one the calls of its tasks, in the order of the first tasks
unfoldable pub instances : Listing → List Call
instances l = flat_map (calls_to (each_once (calls l))) (range_with_len 0 (length l.transactions))

abbrev pub instance_at : Listing → InstanceId → Call
instance_at l k = slice_index_or (instances l) k.0 (record { tx = record { 0 = 0 }; arguments = [] })

-- what a task of the instance does
abbrev pub instance_program : Listing → InstanceId → Program
instance_program l k = call_program l (instance_at l k).tx (instance_at l k).arguments
