use Rattle.std.proofs.Common.{◌≡◌, sym, subst, get_or, true}
use Rattle.txn_programs.specs.declared.ast.TaskId.{TaskId}
use Rattle.txn_programs.specs.declared.ast.TxId.{TxId}
use Rattle.checker.proofs.Lists.{once_no, once_yes}
use Rattle.checker.proofs.tasks.stand_once.Goals as goal

pub returns-then-index : goal.returns-then-index
returns-then-index c =
    let i = c.lines.task-index in
    let d : TaskId × TxId = (record { 0 = 0 }, record { 0 = 0 }) in
    let was : get_or c.lines.seen.items (get_or c.args.lines.now i d).0.0 true ≡ true =
    subst (λ b. get_or c.lines.seen.items (get_or c.args.lines.now i d).0.0 b ≡ b) c.if-index.true (sym c.index.ensures) in
    once_no c.args.count i c.lines.seen.items c.args.lines.now d c.requires c.lines-test.true was c.lines.invariant.left

pub returns : goal.returns
returns c = once_yes c.args.count c.lines.task-index c.lines.seen.items c.args.lines.now c.requires c.lines-test.false c.lines.invariant.left
