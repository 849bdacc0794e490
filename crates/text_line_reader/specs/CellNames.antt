-- Cells by the name of their table and their number in it.
use Rattle.std.specs.Prelude.{ℕ, ◌+◌, nat_lt, if◌then◌else◌, Option, Some, None, List, slice_index_or}
use Rattle.std.specs.Str.Parse.{digits_value}
use Rattle.txn_programs.specs.declared.ast.VarId.{VarId}
use Rattle.txn_programs.specs.declared.ast.Span.{Span}
use Rattle.txn_programs.specs.Listing.{Listing, spans, table_named}

-- the cell of this number among these, if there is one
abbrev pub cell_of : Span → ℕ → Option VarId
cell_of span index = if nat_lt index span.length then Some (record { 0 = span.first + index }) else None

abbrev pub cell_at : List Span → Option ℕ → ℕ → Option VarId
cell_at spans None index = None
cell_at spans (Some place) index = cell_of (slice_index_or spans place (record { first = 0; length = 0 })) index

-- the cell that is written so
unfoldable pub cell_named : Listing → List ℕ → List ℕ → Option VarId
cell_named l table index = cell_at (spans l) (table_named l table) (digits_value 10 index)
