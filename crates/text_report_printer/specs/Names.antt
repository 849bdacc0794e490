-- The names of what a listing declares, by number: nothing where it declares no such thing.
use Rattle.std.specs.Prelude.{ℕ, ◌-◌, nat_lt, if◌then◌else◌, List, [], ◌∷◌, length, slice_index_or}
use Rattle.txn_programs.specs.Listing.{Listing, transaction_at}
use Rattle.text_report_printer.specs.ReportText.{cell_name}

abbrev pub variable_name : Listing → ℕ → List ℕ
variable_name l number = slice_index_or l.names number []

-- of the cell at a place among those of these tables
abbrev pub named_cell : List (List ℕ × ℕ) → ℕ → List ℕ
named_cell [] place = []
named_cell (t ∷ ts) place = if nat_lt place t.1 then cell_name t.0 place else named_cell ts (place - t.1)

-- of a variable, or of a cell behind the variables
abbrev pub value_name : Listing → ℕ → List ℕ
value_name l number =
    if nat_lt number (length l.names) then variable_name l number else named_cell l.tables (number - length l.names)

abbrev pub transaction_name : Listing → ℕ → List ℕ
transaction_name l number = (transaction_at l (record { 0 = number })).name
