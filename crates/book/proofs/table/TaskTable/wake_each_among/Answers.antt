use Rattle.std.proofs.Common.{◌≡◌, ◌≢◌, map, ◌∙◌, ap, arith, w64}
use mir.Val.{of_z}
use Rattle.std.proofs.lemmas.Int.{to_z-of_z}
use Rattle.txn_words.specs.Words.{state_value}
use Rattle.txn_words.specs.Stores.{id_of, new_of}
use Rattle.cells.specs.Publishing.{changes_of}
use Rattle.book.specs.Table.{TableView, woken_by}
use Rattle.book.proofs.Sets.{table_is}
use Rattle.book.proofs.Waking.{waking_next, waking_same, waking_last}
use Rattle.book.proofs.table.TaskTable.wake_each_among.Goals.{then-values-write, else-values-write}
use Rattle.book.proofs.table.TaskTable.wake_each_among.Goals as goal

pub loop-write-preserved : goal.loop-write-preserved
loop-write-preserved c =
    let l = c.loop-write in
    let m = c.args.values.now in
    let w = c.args.writes.now in
    let i = l.write-index in
    let was = c.args.self.now.tasks in
    let next = c.if-values-write.self in
    elim c.if-values-write.branch [
      | then-values-write t ↦
          let changed : state_value m (id_of w i) ≢ new_of w i = λ e. t.if-values-write.true (ap (of_z w64) e) in
          let is = t.self-is ∙ t.wake_among.ensures in
          record {
            tasks = waking_next m w was i l.self.tasks next.tasks c.loop-write-test.true changed (ap (λ (b : TableView). b.tasks) is) l.invariant.tasks;
            variables = ap (λ (b : TableView). b.variables) is ∙ l.invariant.variables;
            spare = ap (λ (b : TableView). b.spare) is ∙ l.invariant.spare;
          }
      | else-values-write t ↦
          let same : state_value m (id_of w i) ≡ new_of w i = grind (arith, to_z-of_z, t.if-values-write.false) in
          record {
            tasks = waking_same m w was i l.self.tasks next.tasks c.loop-write-test.true same (ap (λ (b : TableView). b.tasks) t.self-is) l.invariant.tasks;
            variables = ap (λ (b : TableView). b.variables) t.self-is ∙ l.invariant.variables;
            spare = ap (λ (b : TableView). b.spare) t.self-is ∙ l.invariant.spare;
          }
    ]

pub returns : goal.returns
returns c =
    let l = c.loop-write in
    let m = c.args.values.now in
    let w = c.args.writes.now in
    table_is c.args.self.now l.self.tasks (map (woken_by (changes_of m w)) c.args.self.now.tasks) l.self.variables l.self.spare
    (waking_last m w c.args.self.now.tasks l.write-index l.self.tasks (omega (arith, c.loop-write-test.false)) l.invariant.tasks)
    l.invariant.variables l.invariant.spare
