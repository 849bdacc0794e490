-- Variables and cells by the names that a host gives.
use Rattle.std.specs.Prelude.{ℕ, List, Option, Result, Ok, Err, slice_index_or}
use Rattle.txn_programs.specs.declared.ast.VarId.{VarId}
use Rattle.txn_programs.specs.declared.ast.Span.{Span}
use Rattle.txn_programs.specs.Listing.{Listing, spans, variable_named}
use Rattle.text_words.specs.declared.fault.ReadFault.{ReadFault}
use Rattle.text_line_reader.specs.Words.{cell_in}
use Rattle.text_line_reader.specs.CellNames.{cell_named}

-- the cells of the table at this place: none where there is no such table
abbrev pub span_at : Listing → ℕ → Span
span_at l table = slice_index_or (spans l) table (record { first = 0; length = 0 })

abbrev pub named_as : Listing → List ℕ → Result (List ℕ × List ℕ) ReadFault → Option VarId
named_as l name (Ok cell) = cell_named l cell.0 cell.1
named_as l name (Err e) = variable_named l name

-- the cell that is written so, NAME[INDEX]; else the variable of this name
abbrev pub value_named : Listing → List ℕ → Option VarId
value_named l name = named_as l name (cell_in name)
