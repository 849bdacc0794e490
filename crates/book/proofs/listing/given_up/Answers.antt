use Rattle.std.proofs.Common.{◌∙◌, ◌<◌, ap, arith, length, map, Vec, Global}
use Rattle.std.proofs.lemmas.List.{length-map}
use Rattle.book.specs.declared.task.Slot.TheVariants as standing
use Rattle.book.specs.Standings.{bare}
use Rattle.book.proofs.Rows.{bare_here}
use Rattle.txn_programs.specs.declared.ast.TaskId.{TaskId}
use Rattle.txn_programs.specs.declared.ast.TxId.{TxId}
use Rattle.book.specs.Turns.{is_given_up}
use Rattle.book.proofs.Listed.{one_listed, none_listed}
use Rattle.book.proofs.listing.given_up.Goals as goal
use Rattle.book.proofs.listing.given_up.Goals.{then-is_given_up+in_ok-push, else-is_given_up}

pub loop-i-preserved : goal.loop-i-preserved
loop-i-preserved c =
    let l = c.args.chapter.now.listing in
    let n = length c.args.chapter.now.listing.transactions in
    let ss = c.args.tasks.now in
    let ts = map bare ss in
    let i = c.loop-i.i in
    let less : c.loop-i.i < length ts = omega (arith, c.loop-i-test.true, length-map ss bare) in
    let found = c.loop-i.found.items in
    let new = c.if-is_given_up.found.items in
    elim c.if-is_given_up.branch [
      | then-is_given_up+in_ok-push w ↦
          let more = ap (λ (v : Vec (TaskId × TxId) Global). v.items) w.found-is ∙ w.in_ok-push.ensures.items in
          let tx = w.transaction.ensures in
          one_listed is_given_up l ts n i _ less (bare_here ss i standing.Ready c.loop-i-test.true) found new w.transaction.result w.if-is_given_up.ensures more tx.value tx.known c.loop-i.invariant
      | else-is_given_up w ↦
          let same = ap (λ (v : Vec (TaskId × TxId) Global). v.items) w.found-is in
          none_listed is_given_up l ts n i _ less (bare_here ss i standing.Ready c.loop-i-test.true) found new w.if-is_given_up.ensures same c.loop-i.invariant
    ]
