-- What clauses see of the calls of a chapter's tasks.
use Rattle.std.specs.Prelude.{ℕ, List}
use Rattle.txn_programs.specs.declared.arguments.Call.{Call}

pub record CallsView : Type 0 where
  pub calls : List Call
  -- how many arguments each of them can have
  pub width : ℕ
  -- for how many calls there is room
  pub room : ℕ

abbrev pub with_calls : CallsView → List Call → CallsView
with_calls b cs = record b { calls = cs }
