-- How tasks are run by weight.
use Rattle.std.specs.Prelude.{ℕ, Bool, true, false, ◌||◌, if◌then◌else◌, nat_lt, nat_le, List, slice_index_or}
use Rattle.std.specs.List.{list_any, list_all}
use Rattle.txn_programs.specs.declared.arguments.Call.{Call}
use Rattle.txn_programs.specs.declared.ast.TxId.{TxId}
use Rattle.txn_programs.specs.declared.code.Op.{Op}
use Rattle.txn_programs.specs.declared.code.Op.TheVariants as op
use Rattle.txn_programs.specs.Tree.{Transaction}
use Rattle.txn_programs.specs.Fused.{own_code}
use Rattle.txn_programs.specs.Listing.{Listing}
use Rattle.txn.specs.declared.weights.Weights.{Weights}
use Rattle.txn.specs.declared.weights.Size.{Size}
use Rattle.txn.specs.declared.weights.Size.TheVariants.{Short, Light, Long}

-- it writes a variable, or a cell of a table
abbrev pub is_store : Op → Bool
is_store (op.Store x) = true
is_store (op.Put first length) = true
is_store _ = false

-- it is a retry
abbrev pub is_back : Op → Bool
is_back (op.Back n) = true
is_back _ = false

-- some transaction has a retry
abbrev pub may_wait : Listing → Bool
may_wait l = list_any (λ (t : Transaction). list_any is_back (own_code t.body t.result)) l.transactions

-- a task that weighs so much, and writes or not
abbrev pub size_by : Weights → ℕ → Bool → Size
size_by w n writes = if nat_le w.long n then Long else (if nat_lt n w.light || writes then Short n else Light n)

abbrev pub is_light : Size → Bool
is_light (Light n) = true
is_light _ = false

-- how tasks of the transaction are run, by these: where none says it, as long ones
abbrev pub size_in : List Size → TxId → Size
size_in sizes tx = slice_index_or sizes tx.0 Long

abbrev pub is_short : Size → Bool
is_short (Short n) = true
is_short _ = false

-- all tasks of these runs are short
abbrev pub are_short : List Size → List (Call × ℕ) → Bool
are_short sizes runs = list_all (λ run. is_short (size_in sizes run.0.tx)) runs
