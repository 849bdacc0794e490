use Rattle.std.proofs.Common.{◌≡◌, true, false, sym, ap, ◌∙◌, arith}
use Rattle.std.specs.Prelude.{string_bytes}
use Rattle.std.proofs.lemmas.Grind.{common_steps}
use Rattle.txn_programs.specs.declared.ast.Tx.{Tx}
use Rattle.txn_programs.specs.Tree.{transaction_of}
use Rattle.txn_declarations.specs.Beside.{fits_beside}
use Rattle.explain_files.proofs.Costly.{is_over_beside, all_more}
use Rattle.explain_files.proofs.declarations.costly_transaction.Goals as goal

pub returns-then-not-fits-clause-some : goal.returns-then-not-fits-clause-some
returns-then-not-fits-clause-some c =
    let over : fits_beside c.args.always (transaction_of c.index-txs-number.result) ≡ false = grind (arith, common_steps) in
    is_over_beside c.args.always c.args.txs.now c.transactions.number c.index-txs-number.result c.index-txs-number-then-not-fits.result c.as_str.result.now c.transactions-test.true c.index-txs-number.is c.index-txs-number-then-not-fits.is
    (c.as_str.ensures.value ∙ ap (λ (t : Tx). string_bytes t.name) (sym c.index-txs-number-then-not-fits.is)) c.transactions.invariant over

pub transactions-preserved : goal.transactions-preserved
transactions-preserved c =
    let within : fits_beside c.args.always (transaction_of c.index-txs-number.result) ≡ true = grind (arith, common_steps) in
    all_more (fits_beside c.args.always) transaction_of c.args.txs.now c.transactions.number c.index-txs-number.result c.transactions-test.true c.index-txs-number.is c.transactions.invariant within
