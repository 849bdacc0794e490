use Rattle.std.proofs.Common.{◌∙◌, ap, sym, map}
use Rattle.std.proofs.lemmas.Result.{err_from_is_err_and}
use Rattle.txn_programs.specs.Tree.{transaction_of}
use Rattle.text_grammar.specs.Scope.{Scope}
use Rattle.text_grammar.specs.Resolving.{each, variable_of, table_of, always_in, transaction_in, run_in}
use Rattle.text_resolver.specs.Texts.{texts}
use Rattle.text_grammar.specs.View.{view_pairs, view_tables, view_runs, view_file}
use Rattle.text_resolver.specs.Parts.{view_variable, view_table, view_condition}
use Rattle.text_resolver.specs.DeclaredNames.{view_declared, known_scope}
use Rattle.text_words.proofs.Steps.{done}
use Rattle.text_resolver.proofs.Texts.{txs_are_own}
use Rattle.text_resolver.proofs.Parts.{parts_are, spans_are, outer_is, converted_is, spans_fail, conditions_fail, transactions_fail, runs_fail}
use Rattle.text_resolver.proofs.resolve.convert.Goals as goal

pub returns-in_err-spans : goal.returns-in_err-spans
returns-in_err-spans c =
    let p = err_from_is_err_and c.from_residual-in_err-spans.result c.from_residual-in_err-spans.ensures.1 in
    let names = view_declared c.args.names.now in
    let made = c.in_ok-tables.tables.items in
    let a = ap (λ l. each variable_of (view_pairs l)) (sym c.deref.ensures.value) ∙ c.in_ok-variables.ensures in
    let t = ap (λ l. each table_of (view_tables l)) (sym c.deref-2.ensures.value) ∙ c.in_ok-tables.ensures in
    let s = spans_are c.args.names.now.vars.keys c.len.result made c.deref-3.result.now c.len.ensures.len c.deref-3.ensures.value in
    rw (p.1, p.2) (spans_fail c.in_err-spans.field-0.0 names.variables names.tables names.transactions (view_file c.args.file) (map view_variable c.in_ok-variables.variables.items) (map view_table made) a t
    (rw s c.in_err-spans.ensures))

pub returns-in_err-conditions : goal.returns-in_err-conditions
returns-in_err-conditions c =
    let p = err_from_is_err_and c.from_residual-in_err-conditions.result c.from_residual-in_err-conditions.ensures.1 in
    let names = view_declared c.args.names.now in
    let made = c.in_ok-tables.tables.items in
    let spans = c.in_ok-spans.spans.items in
    let a = ap (λ l. each variable_of (view_pairs l)) (sym c.deref.ensures.value) ∙ c.in_ok-variables.ensures in
    let t = ap (λ l. each table_of (view_tables l)) (sym c.deref-2.ensures.value) ∙ c.in_ok-tables.ensures in
    let s = spans_are c.args.names.now.vars.keys c.len.result made c.deref-3.result.now c.len.ensures.len c.deref-3.ensures.value ∙ c.in_ok-spans.ensures in
    let scope = outer_is names.variables names.tables spans c.deref-4.result.now (texts c.new-params.result.keys) c.deref-4.ensures.value (ap texts c.new-params.ensures.empty) in
    rw (p.1, p.2) (conditions_fail c.in_err-conditions.field-0.0 names.variables names.tables names.transactions (view_file c.args.file) (map view_variable c.in_ok-variables.variables.items) (map view_table made) spans a t s
    (rw scope c.in_err-conditions.ensures))

pub transactions-requires : goal.transactions-requires
transactions-requires c = record { own = txs_are_own (known_scope (view_declared c.args.names.now)) (view_file c.args.file) c.requires.known }

pub returns-in_err-transactions : goal.returns-in_err-transactions
returns-in_err-transactions c =
    let p = err_from_is_err_and c.from_residual-in_err-transactions.result c.from_residual-in_err-transactions.ensures.1 in
    let names = view_declared c.args.names.now in
    let made = c.in_ok-tables.tables.items in
    let spans = c.in_ok-spans.spans.items in
    let file = view_file c.args.file in
    let a = ap (λ l. each variable_of (view_pairs l)) (sym c.deref.ensures.value) ∙ c.in_ok-variables.ensures in
    let t = ap (λ l. each table_of (view_tables l)) (sym c.deref-2.ensures.value) ∙ c.in_ok-tables.ensures in
    let s = spans_are c.args.names.now.vars.keys c.len.result made c.deref-3.result.now c.len.ensures.len c.deref-3.ensures.value ∙ c.in_ok-spans.ensures in
    let scope = outer_is names.variables names.tables spans c.deref-4.result.now (texts c.new-params.result.keys) c.deref-4.ensures.value (ap texts c.new-params.ensures.empty) in
    let b = ap (λ (o : Scope). each (always_in o) file.always) scope ∙ c.in_ok-conditions.ensures in
    rw (p.1, p.2) (transactions_fail c.in_err-transactions.field-0.0 names.variables names.tables names.transactions file (map view_variable c.in_ok-variables.variables.items) (map view_table made) spans
    (map view_condition c.in_ok-conditions.conditions.items) a t s b (rw scope c.in_err-transactions.ensures))

pub returns-in_err-runs : goal.returns-in_err-runs
returns-in_err-runs c =
    let p = err_from_is_err_and c.from_residual-in_err-runs.result c.from_residual-in_err-runs.ensures.1 in
    let names = view_declared c.args.names.now in
    let made = c.in_ok-tables.tables.items in
    let spans = c.in_ok-spans.spans.items in
    let file = view_file c.args.file in
    let a = ap (λ l. each variable_of (view_pairs l)) (sym c.deref.ensures.value) ∙ c.in_ok-variables.ensures in
    let t = ap (λ l. each table_of (view_tables l)) (sym c.deref-2.ensures.value) ∙ c.in_ok-tables.ensures in
    let s = spans_are c.args.names.now.vars.keys c.len.result made c.deref-3.result.now c.len.ensures.len c.deref-3.ensures.value ∙ c.in_ok-spans.ensures in
    let scope = outer_is names.variables names.tables spans c.deref-4.result.now (texts c.new-params.result.keys) c.deref-4.ensures.value (ap texts c.new-params.ensures.empty) in
    let b = ap (λ (o : Scope). each (always_in o) file.always) scope ∙ c.in_ok-conditions.ensures in
    let d = ap (λ (o : Scope). each (transaction_in o) file.txs) scope ∙ c.in_ok-transactions.ensures in
    rw (p.1, p.2) (runs_fail c.in_err-runs.field-0.0 names.variables names.tables names.transactions file (map view_variable c.in_ok-variables.variables.items) (map view_table made) spans
    (map view_condition c.in_ok-conditions.conditions.items) (map transaction_of c.in_ok-transactions.transactions.items) a t s b d (rw (sym c.deref-5.ensures.value) c.in_err-runs.ensures))

pub returns : goal.returns
returns c =
    let names = view_declared c.args.names.now in
    let values = c.in_ok-variables.variables.items in
    let made = c.in_ok-tables.tables.items in
    let spans = c.in_ok-spans.spans.items in
    let always = c.in_ok-conditions.conditions.items in
    let transactions = c.in_ok-transactions.transactions.items in
    let runs = c.in_ok-runs.runs.items in
    let file = view_file c.args.file in
    let a = ap (λ l. each variable_of (view_pairs l)) (sym c.deref.ensures.value) ∙ c.in_ok-variables.ensures in
    let t = ap (λ l. each table_of (view_tables l)) (sym c.deref-2.ensures.value) ∙ c.in_ok-tables.ensures in
    let s = spans_are c.args.names.now.vars.keys c.len.result made c.deref-3.result.now c.len.ensures.len c.deref-3.ensures.value ∙ c.in_ok-spans.ensures in
    let scope = outer_is names.variables names.tables spans c.deref-4.result.now (texts c.new-params.result.keys) c.deref-4.ensures.value (ap texts c.new-params.ensures.empty) in
    let b = ap (λ (o : Scope). each (always_in o) file.always) scope ∙ c.in_ok-conditions.ensures in
    let d = ap (λ (o : Scope). each (transaction_in o) file.txs) scope ∙ c.in_ok-transactions.ensures in
    let e = ap (λ l. each (run_in names.transactions) (view_runs l)) (sym c.deref-5.ensures.value) ∙ c.in_ok-runs.ensures in
    converted_is names.variables names.tables names.transactions file (map view_variable values) (map view_table made) spans (map view_condition always) (map transaction_of transactions) runs a t s b d e
    ∙ ap done (parts_are values made always transactions runs)
