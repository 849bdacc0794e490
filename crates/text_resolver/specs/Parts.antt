-- What the code builds a catalogue of, as a listing.
use Rattle.std.specs.Prelude.{ℕ, ℤ, List, string_bytes}
use Rattle.std.specs.declared.alloc.Global.{Global}
use Rattle.std.specs.declared.string.String.{String}
use Rattle.txn_programs.specs.declared.ast.Cond.{Cond}
use Rattle.txn_programs.specs.declared.ast.Table.{Table}
use Rattle.txn_programs.specs.Tree.{Condition, condition_of}
use Rattle.txn_programs.specs.Listing.{Listing, listing_of, table_of, values_of}
use Rattle.text_resolver.specs.declared.resolve.Parts.{Parts}

abbrev pub view_variable : String Global × ℤ → List ℕ × ℤ
view_variable v = (string_bytes v.0, v.1)

-- a table's name and how many cells it has, and what they are at first
abbrev pub view_table : Table → (List ℕ × ℕ) × List ℤ
view_table t = (table_of t, values_of t.cells)

abbrev pub view_condition : String Global × Cond → List ℕ × Condition
view_condition a = (string_bytes a.0, condition_of a.1)

abbrev pub view_parts : Parts → Listing
view_parts p = listing_of p.vars.items p.tables.items p.always.items p.txs.items p.runs.items
