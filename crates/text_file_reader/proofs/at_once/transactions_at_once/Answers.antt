use Rattle.std.proofs.Common.{◌≡◌, ◌++◌, ◌∷◌, [], map, sym, ◌∙◌}
use Rattle.std.specs.Prelude.{codes}
use Rattle.std.proofs.lemmas.List.{map_push}
use Rattle.txn_programs.specs.Tree.{transaction_of}
use Rattle.text_words.specs.Tokens.{tokens}
use Rattle.text_words.specs.TokenReading.{begins, all_of}
use Rattle.text_grammar.specs.Reading.{tx_at}
use Rattle.text_grammar.specs.Resolving.{tx_name}
use Rattle.text_grammar.proofs.Files.{tx_shortens}
use Rattle.text_resolver.specs.Texts.{texts}
use Rattle.text_resolver.specs.Scopes.{view_scope}
use Rattle.text_file_reader.specs.Resolved.{own_transaction_in}
use Rattle.text_file_reader.proofs.AtOnce.{none_yet, one_more, no_more, takes_one}
use Rattle.text_file_reader.proofs.at_once.transactions_at_once.Goals as goal

pub txs-init : goal.txs-init
txs-init c = rw (c.new-made.ensures.items, c.new-names.ensures.empty) (none_yet (codes "tx") (tx_at c.args.file_form) (own_transaction_in (view_scope c.args.outer.now)) tx_name (tokens c.args.bytes.now))

pub txs-preserved : goal.txs-preserved
txs-preserved c =
    let word = codes "tx" in
    let tx = c.in_ok-name.tx in
    let e : map transaction_of c.push.new.self.items ≡ map transaction_of c.txs.made.items ++ transaction_of tx ∷ [] = rw c.in_ok-push.ensures.items (map_push transaction_of c.txs.made.items tx) in
    rw e (one_more word (tx_at c.args.file_form) (own_transaction_in (view_scope c.args.outer.now)) tx_name (tx_shortens c.args.file_form) (all_of (begins word) (tx_at c.args.file_form) (tokens c.args.bytes.now)) (map transaction_of c.txs.made.items)
    (texts c.txs.names.keys) (texts c.declare.new.names.keys) (tokens c.txs.rest.now) (tokens c.in_ok-name.after.now) (transaction_of tx) c.in_ok-name.name.now c.txs.invariant
    (sym c.begins.ensures ∙ c.txs-test.true) c.in_ok-name.ensures c.in_ok-declare.ensures)

pub txs-smaller : goal.txs-smaller
txs-smaller c = takes_one (tx_at c.args.file_form) (own_transaction_in (view_scope c.args.outer.now)) tx_name (tx_shortens c.args.file_form) (tokens c.txs.rest.now) (tokens c.in_ok-name.after.now) (transaction_of c.in_ok-name.tx) c.in_ok-name.name.now c.in_ok-name.ensures

pub returns : goal.returns
returns c =
    let word = codes "tx" in
    no_more word (tx_at c.args.file_form) (own_transaction_in (view_scope c.args.outer.now)) tx_name (all_of (begins word) (tx_at c.args.file_form) (tokens c.args.bytes.now)) (map transaction_of c.txs.made.items)
    (texts c.txs.names.keys) (tokens c.txs.rest.now) c.txs.invariant (sym c.begins.ensures ∙ c.txs-test.false)
