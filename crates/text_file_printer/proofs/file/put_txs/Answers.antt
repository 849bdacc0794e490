use Rattle.std.proofs.Common.{◌≡◌, ◌∙◌, ◌<◌, ℕ, true, [], length, map, Some, ap, sym, arith, pos, string_bytes}
use Rattle.std.specs.List.{slice_get}
use Rattle.txn_programs.proofs.Lawful.{limits_parts}
use Rattle.txn_programs.specs.Tree.{Transaction, Skip, Int, transaction_of}
use Rattle.text_file_printer.specs.Canonical.{tx_line}
use Rattle.text_file_printer.specs.Fits.{DeclarationFits}
use Rattle.text_grammar.specs.Written.{scope_of, written_transaction}
use Rattle.text_words.proofs.Pieces.{piece_more, all_more, at_map}
use Rattle.std.proofs.lemmas.Option.{slice_get-get_or}
use Rattle.txn_programs.specs.Listing.{Listing, transaction_at}
use Rattle.txn_programs.specs.Names.{names_hold}
use Rattle.text_file_printer.proofs.Known.{IsNamed, transaction_named_at}
use Rattle.text_file_printer.proofs.file.put_txs.Goals as goal

pub overflow_cast-i : goal.overflow_cast-i
overflow_cast-i c =
    let few = (limits_parts c.args.catalogue.now c.rules.ensures.limits).transactions in
    omega (arith, few, c.tx_count-i-end.ensures, c.txs-test.true)

pub txs-preserved : goal.txs-preserved
txs-preserved c =
    let l = c.args.catalogue.now in
    let g = written_transaction (scope_of l) in
    let i = c.txs.i in
    let none : Transaction = record { name = []; parameters = []; body = Skip; result = Int (pos 0) } in
    let lt : i < length l.transactions = omega (arith, c.tx_count-i-end.ensures, c.txs-test.true) in
    let x = g (transaction_of c.tx.result.now) in
    let at : slice_get (map g l.transactions) i ≡ Some x = at_map g l.transactions i none lt ∙ ap (λ (t : Transaction). Some (g t)) (sym c.tx.ensures.value) in
    record {
      text = piece_more (tx_line c.args.form) (map g l.transactions) i x (string_bytes c.args.out.now) (string_bytes c.txs.out) (string_bytes c.put_tx.new.out) at c.txs.invariant.text c.in_ok-put_tx.ensures.text;
      fits = all_more DeclarationFits (map g l.transactions) i x at c.txs.invariant.fits c.in_ok-put_tx.ensures.fits;
    }

-- what the transaction at a place names
named_here : (l : Listing) (i : ℕ) (t : Transaction) → names_hold l ≡ true → i < length l.transactions → t ≡ transaction_at l (record { 0 = i }) → IsNamed (scope_of l) t
named_here l i t h lt is = transaction_named_at l i t h (slice_get-get_or l.transactions i _ lt ∙ ap (λ (u : Transaction). Some u) (sym is))

pub put_tx-requires : goal.put_tx-requires
put_tx-requires c =
    let l = c.args.catalogue.now in
    let lt : c.txs.i < length l.transactions = omega (arith, c.tx_count-i-end.ensures, c.txs-test.true) in
    let named = named_here l c.txs.i (transaction_of c.tx.result.now) c.rules.ensures.names lt c.tx.ensures.value in
    record { body = named.body; value = named.value }
