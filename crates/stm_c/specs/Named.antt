-- The numbers of names, where a program declares them; how many cells a table has, and how many parameters a transaction.
use Rattle.std.specs.Prelude.{◌≡◌, ◌<◌, ◌≤◌, ℕ, ℤ, pos, List, [], length, slice_index_or, Some, None, ◌⊎◌, IsUtf8}
use Rattle.txn_programs.specs.declared.ast.AlwaysId.{AlwaysId}
use Rattle.txn_programs.specs.declared.ast.TxId.{TxId}
use Rattle.txn_programs.specs.declared.ast.VarId.{VarId}
use Rattle.txn_programs.specs.Listing.{Listing, arity, condition_named, table_named, transaction_at, variable_named, transaction_named}
use Rattle.stm_c.specs.Numbers.{not_there}

-- the number of the variable of this name; else -9, where there is none; a name that is no text is none's
abbrev pub IsVariable : Listing → List ℕ → ℤ → Type 0
IsVariable l name n =
    ((x : VarId) × (variable_named l name ≡ Some x) × (n ≡ pos x.0)) ⊎ ((n ≡ not_there) × (IsUtf8 name → variable_named l name ≡ None))

-- the number of the transaction of this name; else -9, where there is none; a name that is no text is none's
abbrev pub IsTransaction : Listing → List ℕ → ℤ → Type 0
IsTransaction l name n =
    ((t : TxId) × (transaction_named l name ≡ Some t) × (n ≡ pos t.0)) ⊎ ((n ≡ not_there) × (IsUtf8 name → transaction_named l name ≡ None))

-- the number of the standing condition of this name; else -9, where there is none; a name that is no text is none's
abbrev pub IsCondition : Listing → List ℕ → ℤ → Type 0
IsCondition l name n =
    ((c : AlwaysId) × (condition_named l name ≡ Some c) × (n ≡ pos c.0)) ⊎ ((n ≡ not_there) × (IsUtf8 name → condition_named l name ≡ None))

-- the place of the table of this name; else -9, where there is none; a name that is no text is none's
abbrev pub IsTable : Listing → List ℕ → ℤ → Type 0
IsTable l name n =
    ((place : ℕ) × (table_named l name ≡ Some place) × (n ≡ pos place)) ⊎ ((n ≡ not_there) × (IsUtf8 name → table_named l name ≡ None))

-- how many cells the table at this place has; else -9, where there is none
abbrev pub AreCells : Listing → ℕ → ℤ → Type 0
AreCells l table n =
    ((table < length l.tables) × (n ≡ pos (slice_index_or l.tables table ([], 0)).1))
    ⊎ ((length l.tables ≤ table) × (n ≡ not_there))

-- how many parameters the transaction has; else -9, where there is none
abbrev pub AreParameters : Listing → ℕ → ℤ → Type 0
AreParameters l tx n =
    ((tx < length l.transactions) × (n ≡ pos (arity (transaction_at l (record { 0 = tx })))))
    ⊎ ((length l.transactions ≤ tx) × (n ≡ not_there))
