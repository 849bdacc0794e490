-- What a report tells, and not where it lies in memory.
use Rattle.std.specs.Prelude.{ℕ, ℤ, List, map}
use Rattle.txn_programs.specs.declared.ast.TxId.{TxId}
use Rattle.txn_programs.specs.declared.ast.TaskId.{TaskId}
use Rattle.txn_programs.specs.declared.report.Entry.{Entry}
use Rattle.txn_programs.specs.declared.report.Report.{Report}
use Rattle.txn_programs.specs.Replay.{Snapshot}

pub record Told : Type 0 where
  pub base : ℕ
  -- value and version of each variable
  pub base_vars : List (ℤ × ℕ)
  pub entries : List Entry
  pub current : ℕ
  pub current_vars : List (ℤ × ℕ)
  -- a task, and the transaction named with it
  pub parked : List (TaskId × TxId)
  pub memory : List (TaskId × TxId)

abbrev pub told : Report → Told
told r =
    record {
      base = r.base;
      base_vars = r.base_vars.items;
      entries = r.entries.items;
      current = r.now;
      current_vars = r.now_vars.items;
      parked = r.parked.items;
      memory = r.memory.items;
    }

abbrev pub snapshot_at : ℕ → List (ℤ × ℕ) → Snapshot
snapshot_at number vars = record { number = number; state = map (λ v. v.0) vars; versions = map (λ v. v.1) vars }

abbrev pub base_of : Told → Snapshot
base_of r = snapshot_at r.base r.base_vars

abbrev pub now_of : Told → Snapshot
now_of r = snapshot_at r.current r.current_vars
