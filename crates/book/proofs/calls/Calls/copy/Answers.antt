use Rattle.std.proofs.Common.{◌≡◌, ◌<◌, ◌*◌, ℕ, List, [], length, take, drop, get_or, set, refl, arith, ap, sym, ◌∙◌, Some}
use Rattle.std.specs.List.{slice_get}
use Rattle.std.proofs.lemmas.List.{get_or-set_same}
use Rattle.std.proofs.lemmas.Option.{slice_get_read}
use Rattle.txn_programs.specs.declared.ast.TxId.{TxId}
use Rattle.book.specs.Calls.{CallsView, with_calls}
use Rattle.book.specs.declared.calls.Calls.TheInside.{Inside}
use Rattle.book.specs.CallsInside.{given, calls_from, calls_view}
use Rattle.book.proofs.Given.{OtherRows, length_in, given_none, row_within, other_given, copied_in}
use Rattle.book.proofs.calls.Calls.copy.Goals as goal

pub index-tx-requires : goal.index-tx-requires
index-tx-requires c = let s = c.self.inside in omega (arith, c.requires.from, s.transactions.ok.0, length_in s c.args.self.now c.self.view_is)

pub put-requires : goal.put-requires
put-requires c = let s = c.self.inside in omega (arith, c.requires.from, c.requires.to, length_in s c.args.self.now c.self.view_is)

-- the transaction that was read
read : (s : Inside) (v : CallsView) (k : ℕ) (tx : TxId) → calls_view s ≡ v → k < length v.calls → tx ≡ get_or s.transactions.items k tx → slice_get s.transactions.items k ≡ Some tx
read s v k tx view less at = slice_get_read s.transactions.items (length s.transactions.items) k tx refl (omega (arith, less, length_in s v view)) at

pub returns-then-self-eq0 : goal.returns-then-self-eq0
returns-then-self-eq0 c call at =
    let s = c.self.inside in
    let w = s.width in
    let cs = s.counts.items in
    let rows = s.rows.items in
    let here = read s c.args.self.now c.args.from c.index-tx.result.now c.self.view_is c.requires.from c.index-tx.ensures in
    let none : (k : ℕ) → given w cs rows k ≡ [] = λ k. given_none w cs rows k c.if-self-eq0.true (c.self.invariant.each k) in
    ap (λ (txs : List TxId). with_calls (calls_view s) (calls_from w cs rows 0 txs)) c.put.ensures.items
    ∙ (ap (with_calls (calls_view s)) (copied_in s c.args.self.now c.args.from c.args.to c.index-tx.result.now call cs rows c.self.view_is here at (none c.args.to ∙ sym (none c.args.from)) (λ u less other. refl))
    ∙ ap (λ (v : CallsView). with_calls v (set c.args.self.now.calls c.args.to call)) c.self.view_is)

pub copy_row-requires-clause-counted : goal.copy_row-requires-clause-counted
copy_row-requires-clause-counted c = let s = c.self.inside in omega (arith, c.requires.from, length_in s c.args.self.now c.self.view_is, c.self.invariant.within, c.self.invariant.counted c.if-self-eq0.false)

pub copy_row-requires-clause-whole : goal.copy_row-requires-clause-whole
copy_row-requires-clause-whole c =
    let s = c.self.inside in
    row_within s c.self.invariant c.args.from c.if-self-eq0.false (omega (arith, c.requires.from, length_in s c.args.self.now c.self.view_is, c.self.invariant.within))

pub returns : goal.returns
returns c call at =
    let s = c.self.inside in
    let v = c.args.self.now in
    let k = c.self.invariant in
    let w = s.width in
    let was = s.rows.items in
    let cs = c.copy_row.new.counts.items in
    let now = c.copy_row.new.rows.items in
    let n = get_or s.counts.items c.args.from 0 in
    let e = c.copy_row.ensures in
    let size = length_in s v c.self.view_is in
    let whole = k.whole c.if-self-eq0.false in
    let here = read s v c.args.from c.index-tx.result.now c.self.view_is c.requires.from c.index-tx.ensures in
    let rest : OtherRows w c.args.to n cs s.counts.items now was = record { counts = e.counts; size = e.size; before = e.before; after = e.after } in
    let count : get_or cs c.args.to 0 ≡ n =
    ap (λ (xs : List ℕ). get_or xs c.args.to 0) e.counts ∙ get_or-set_same s.counts.items c.args.to n 0 (omega (arith, c.requires.from, c.requires.to, size, k.within, k.counted c.if-self-eq0.false)) in
    let own : given w cs now c.args.to ≡ given w s.counts.items was c.args.from = ap (λ (m : ℕ). take m (drop (c.args.to * w) now)) count ∙ e.row n (k.each c.args.from) in
    ap (λ (txs : List TxId). with_calls (calls_view s) (calls_from w cs now 0 txs)) c.put.ensures.items
    ∙ (ap (with_calls (calls_view s)) (copied_in s v c.args.from c.args.to c.index-tx.result.now call cs now c.self.view_is here at own
    (λ u less other. other_given w c.args.to n u s.room cs s.counts.items now was rest whole (omega (arith, less, k.within)) other (k.each u)))
    ∙ ap (λ (x : CallsView). with_calls x (set v.calls c.args.to call)) c.self.view_is)
