-- What the code has counted.
use Rattle.explain_files.specs.declared.limits.Counts.{Counts}
use Rattle.explain_files.specs.Limiting.{Many}

abbrev pub view_counts : Counts → Many
view_counts c =
    record {
      variables = c.variables;
      tables = c.tables;
      cells = c.cells;
      conditions = c.conditions;
      transactions = c.transactions;
      parameters = c.parameters;
      tasks = c.tasks;
    }
