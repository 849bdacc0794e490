-- The names that the code has seen, as texts.
use Rattle.std.specs.Prelude.{ℕ, List, map}
use Rattle.std.proofs.Common.{Bor}
use Rattle.explain_files.specs.Judging.{Names}
use Rattle.explain_files.specs.declared.names.Declared.{Declared}

-- texts, and not where they lie in memory
abbrev pub texts : List (Bor (List ℕ)) → List (List ℕ)
texts names = map (λ name. name.now) names

abbrev pub view_declared : Declared → Names
view_declared d =
    record {
      variables = texts d.variables.keys;
      tables = texts d.tables.keys;
      conditions = texts d.conditions.keys;
      transactions = texts d.transactions.keys;
      arities = d.arities.items;
      parameters = texts d.parameters.keys;
    }
