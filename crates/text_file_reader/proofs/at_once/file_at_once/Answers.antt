use Rattle.std.proofs.Common.{◌≡◌, ◌∙◌, ℕ, ℤ, List, subst, sym, ap, map}
use Rattle.txn_programs.specs.declared.ast.Table.{Table}
use Rattle.txn_programs.specs.Listing.{table_of}
use Rattle.txn_programs.specs.Tree.{transaction_of}
use Rattle.text_words.specs.Tokens.{tokens}
use Rattle.text_words.proofs.Steps.{done}
use Rattle.text_resolver.specs.Texts.{texts}
use Rattle.text_resolver.specs.Parts.{view_variable, view_table, view_condition}
use Rattle.text_resolver.proofs.Parts.{parts_are, tables_are}
use Rattle.text_file_reader.specs.Resolved.{MakesBehind}
use Rattle.text_file_reader.proofs.AtOnce.{at_once_is}
use Rattle.text_file_reader.proofs.at_once.file_at_once.Goals as goal

pub returns : goal.returns
returns c =
    let form = c.in_ok-file_form.file_form in
    let vars = c.in_ok-var_names.vars.items in
    let names = texts c.in_ok-var_names.var_names.keys in
    let tables = c.in_ok-table_names.tables.items in
    let table_names = texts c.in_ok-table_names.table_names.keys in
    let rest = tokens c.in_ok-table_names.rest.now in
    let always = map view_condition c.in_ok-always.always.items in
    let txs = map transaction_of c.in_ok-always.txs.items in
    let runs = c.in_ok-always.runs.items in
    let sizes : map table_of c.deref.result.now ≡ map (λ (t : (List ℕ × ℕ) × List ℤ). t.0) (map view_table tables) = ap (λ (l : List Table). map table_of l) c.deref.ensures.value ∙ sym (tables_are tables) in
    let behind = subst (λ (l : List (List ℕ × ℕ)). MakesBehind form names table_names l rest always txs runs) sizes c.in_ok-always.ensures in
    at_once_is (tokens c.args.bytes.now) (tokens c.in_ok-file_form.rest.now) (tokens c.in_ok-var_names.rest.now) rest form names table_names (map view_variable vars) (map view_table tables) always txs runs
    c.in_ok-file_form.ensures.value c.in_ok-var_names.ensures c.in_ok-table_names.ensures behind
    ∙ ap done (parts_are vars tables c.in_ok-always.always.items c.in_ok-always.txs.items runs)
