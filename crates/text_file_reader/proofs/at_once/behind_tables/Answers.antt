use Rattle.std.proofs.Common.{◌≡◌, ◌∙◌, ℕ, List, Bor, Ok, length, map, ap, sym, refl, subst}
use Rattle.std.proofs.lemmas.List.{length-map}
use Rattle.std.proofs.lemmas.Result.{IfOk-weaker}
use Rattle.txn_programs.specs.Listing.{table_of}
use Rattle.txn_programs.specs.Tree.{transaction_of}
use Rattle.text_words.specs.Tokens.{tokens}
use Rattle.text_grammar.specs.Resolving.{spans_in}
use Rattle.text_grammar.specs.Scope.{Scope, standing}
use Rattle.text_resolver.specs.Texts.{texts}
use Rattle.text_resolver.specs.Parts.{view_condition}
use Rattle.text_file_reader.specs.Resolved.{MakesBehind, MakesPrograms}
use Rattle.text_file_reader.proofs.at_once.behind_tables.Goals as goal

pub returns : goal.returns
returns c =
    let vars = texts c.args.vars.now.keys in
    let names = texts c.args.names.now.keys in
    let tables = map table_of c.args.tables.now in
    let spans = c.in_ok-spans.spans.items in
    let many : c.len.result ≡ length vars = c.len.ensures.len ∙ sym (length-map c.args.vars.now.keys (λ (n : Bor (List ℕ)). n.now)) in
    let are : spans_in (length vars) tables ≡ Ok spans = ap (λ (n : ℕ). spans_in n tables) (sym many) ∙ c.in_ok-spans.ensures in
    let outer : Scope = record { variables = vars; tables = names; spans = c.deref.result.now; parameters = texts c.new-params.result.keys } in
    let same : outer ≡ standing vars names spans = rw (c.deref.ensures.value, c.new-params.ensures.empty) refl in
    IfOk-weaker c.programs_at_once.result (λ x. MakesPrograms c.args.file_form outer (tokens c.args.bytes.now) (map view_condition x.0.items) (map transaction_of x.1.items) x.2.items)
    (λ x. MakesBehind c.args.file_form vars names tables (tokens c.args.bytes.now) (map view_condition x.0.items) (map transaction_of x.1.items) x.2.items)
    (λ x it. record {
      spans = spans;
      are_spans = are;
      makes = subst (λ (s : Scope). MakesPrograms c.args.file_form s (tokens c.args.bytes.now) (map view_condition x.0.items) (map transaction_of x.1.items) x.2.items) same it;
    }) c.programs_at_once.ensures
