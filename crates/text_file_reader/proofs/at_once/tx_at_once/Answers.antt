use Rattle.std.proofs.Common.{◌≡◌, map, sym, ap, ◌∙◌, string_bytes}
use Rattle.txn_programs.specs.Tree.{statement_of, expression_of}
use Rattle.text_words.specs.Tokens.{tokens}
use Rattle.text_words.proofs.Steps.{done, ok_is}
use Rattle.text_grammar.specs.View.{view_names}
use Rattle.text_resolver.specs.Texts.{texts}
use Rattle.text_resolver.specs.Scopes.{view_scope, parameters_behind}
use Rattle.text_file_reader.proofs.Made.{tx_makes}
use Rattle.text_file_reader.proofs.at_once.tx_at_once.Goals as goal

pub returns : goal.returns
returns c =
    let outer = view_scope c.args.outer.now in
    let own = texts c.in_ok-names.names.keys in
    let raw = view_names c.in_ok-raw.raw.items in
    let params : map string_bytes c.in_ok-params.params.items ≡ raw = sym (ok_is _ _ (ap (λ l. done (view_names l)) (sym c.deref-2.ensures.value) ∙ c.in_ok-params.ensures)) in
    let names = ap (λ l. parameters_behind outer.variables (view_names l)) (sym c.deref.ensures.value) ∙ c.in_ok-names.ensures in
    rw (c.in_ok-held.ensures.ok, params) (tx_makes outer own c.args.file_form (tokens c.args.bytes.now) (tokens c.in_ok-rest.rest.now) (tokens c.in_ok-name.rest.now) (tokens c.in_ok-raw.rest.now) (tokens c.in_ok-body.rest.now)
    c.in_ok-name.name.now raw (statement_of c.in_ok-body.body) (expression_of c.in_ok-body.result)
    c.in_ok-rest.ensures.value c.in_ok-name.ensures.value c.in_ok-raw.ensures.value names c.in_ok-body.ensures)
