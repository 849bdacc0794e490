-- What a call tells of the names that a program declares, by their numbers.
use Rattle.std.specs.Prelude.{◌≡◌, ◌<◌, ◌≤◌, ℕ, ℤ, pos, List, [], ◌++◌, map, length, drop, option_map, slice_get, Option, Some, None, ◌⊎◌}
use Rattle.txn_programs.specs.Tree.{Transaction}
use Rattle.txn_programs.specs.Listing.{Listing}
use Rattle.stm_c.specs.Numbers.{not_there, too_short}

abbrev pub table_name : Listing → ℕ → Option (List ℕ)
table_name l table = option_map (λ t. t.0) (slice_get l.tables table)

abbrev pub transaction_names : Listing → List (List ℕ)
transaction_names l = map (λ t. t.name) l.transactions

-- the names of a transaction's parameters; none of one that is not there
abbrev parameters_in : Option Transaction → List (List ℕ)
parameters_in None = []
parameters_in (Some t) = t.parameters

abbrev pub parameters_of : Listing → ℕ → List (List ℕ)
parameters_of l transaction = parameters_in (slice_get l.transactions transaction)

-- the name was copied to the begin of the room, what is behind it stayed, and its length was told; or the room was too
-- short for it, stayed, and its length was told; where there is no such name, -9, the length 0, and the room stayed
abbrev pub IsNameTold : Option (List ℕ) → List ℕ → List ℕ → ℕ → ℤ → Type 0
IsNameTold None old new wanted n = (n ≡ not_there) × (wanted ≡ 0) × (new ≡ old)
IsNameTold (Some name) old new wanted n =
    ((n ≡ pos 0) × (length name ≤ length old) × (new ≡ name ++ drop (length name) old) × (wanted ≡ length name))
    ⊎ ((n ≡ too_short) × (length old < length name) × (new ≡ old) × (wanted ≡ length name))
