-- A listing that begins at other values.
use Rattle.std.specs.Prelude.{List, map}
use Rattle.txn_programs.specs.declared.arguments.Call.{Call}
use Rattle.txn_programs.specs.Meaning.{State}
use Rattle.txn_programs.specs.Listing.{Listing}

-- as it is, but for the initial values
abbrev pub with_values : Listing → State → Listing
with_values l values = record l { initial = values }

-- as it is, but for the initial values and the runs: one run of one task for each of these calls
abbrev pub begun : Listing → State → List Call → Listing
begun l values calls = record l { initial = values; runs = map (λ (c : Call). (c, 1)) calls }
