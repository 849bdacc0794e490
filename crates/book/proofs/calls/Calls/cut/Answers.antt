use Rattle.std.proofs.Common.{List, ap, ◌∙◌, take}
use Rattle.txn_programs.specs.declared.ast.TxId.{TxId}
use Rattle.book.specs.Calls.{CallsView, with_calls}
use Rattle.book.specs.CallsInside.{calls_from, calls_view}
use Rattle.book.proofs.Given.{take_from}
use Rattle.book.proofs.calls.Calls.cut.Goals as goal

pub returns : goal.returns
returns c =
    let s = c.self.inside in
    ap (λ (txs : List TxId). with_calls (calls_view s) (calls_from s.width s.counts.items s.rows.items 0 txs)) c.truncate.ensures.items
    ∙ (ap (with_calls (calls_view s)) (take_from s.width s.counts.items s.rows.items 0 c.args.count s.transactions.items)
    ∙ ap (λ (v : CallsView). with_calls v (take c.args.count v.calls)) c.self.view_is)
