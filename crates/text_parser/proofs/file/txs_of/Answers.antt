use Rattle.std.proofs.Common.{◌≡◌, ◌++◌, ◌∷◌, [], sym, ◌∙◌}
use Rattle.std.proofs.lemmas.Result.{err_from_is_err_and}
use Rattle.std.proofs.lemmas.List.{map_push}
use Rattle.std.specs.Prelude.{codes}
use Rattle.text_words.specs.Tokens.{tokens}
use Rattle.text_grammar.specs.View.{view_tx, view_txs}
use Rattle.text_grammar.specs.Reading.{tx_at}
use Rattle.text_words.specs.TokenReading.{begins, all_of}
use Rattle.text_words.proofs.Many.{goes_on, ends_at_item, is_done}
use Rattle.text_grammar.proofs.Files.{tx_shortens}
use Rattle.text_parser.proofs.file.txs_of.Goals as goal

pub returns-in_err-tx : goal.returns-in_err-tx
returns-in_err-tx c =
    let p = err_from_is_err_and c.from_residual.result c.from_residual.ensures.1 in
    let word = codes "tx" in
    rw (p.1, p.2) (ends_at_item c.in_err-tx.field-0.0 (begins word) (tx_at c.args.file_form) (tx_shortens c.args.file_form) (view_txs c.txs.txs.items) (tokens c.txs.rest.now) (all_of (begins word) (tx_at c.args.file_form) (tokens c.args.bytes.now)) (sym c.begins.ensures ∙ c.txs-test.true) c.in_err-tx.ensures.value c.txs.invariant)

pub txs-preserved : goal.txs-preserved
txs-preserved c =
    let tx = c.in_ok-tx.tx in
    let word = codes "tx" in
    let e : view_txs c.push.new.self.items ≡ view_txs c.txs.txs.items ++ view_tx tx ∷ [] = rw c.in_ok-push.ensures.items (map_push _ c.txs.txs.items tx) in
    rw e (goes_on (begins word) (tx_at c.args.file_form) (tx_shortens c.args.file_form) (view_txs c.txs.txs.items) (tokens c.txs.rest.now) (view_tx tx, tokens c.in_ok-tx.after.now) (all_of (begins word) (tx_at c.args.file_form) (tokens c.args.bytes.now)) (sym c.begins.ensures ∙ c.txs-test.true) c.in_ok-tx.ensures.value c.txs.invariant)

pub returns : goal.returns
returns c =
    let word = codes "tx" in
    is_done (begins word) (tx_at c.args.file_form) (view_txs c.txs.txs.items) (tokens c.txs.rest.now) (all_of (begins word) (tx_at c.args.file_form) (tokens c.args.bytes.now)) (sym c.begins.ensures ∙ c.txs-test.false) c.txs.invariant
