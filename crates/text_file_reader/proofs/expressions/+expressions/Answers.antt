use mir.Syntax.{w64}
use mir.Val.{to_z, of_z}
use Rattle.std.proofs.Common.{◌≡◌, ◌∙◌, ◌-◌, ◌<◌, ℕ, List, Bor, Result, Ok, ap, arith}
use Rattle.std.specs.Prelude.{IfOk}
use Rattle.std.proofs.lemmas.Int.{to_z-of_z}
use Rattle.std.proofs.lemmas.Result.{IfOk-weaker}
use Rattle.txn_programs.specs.declared.ast.Expr.{Expr}
use Rattle.txn_programs.specs.Tree.{expression_of}
use Rattle.text_words.specs.Bytes.{int_value}
use Rattle.text_words.specs.Tokens.{Lexeme, tokens}
use Rattle.text_words.specs.TokenReading.{name_at}
use Rattle.text_words.specs.declared.fault.ReadFault.{ReadFault}
use Rattle.text_words.proofs.Steps.{done}
use Rattle.text_grammar.specs.Reading.{expr_at, head_of, head_with, compound_with}
use Rattle.text_grammar.specs.Scope.{Scope}
use Rattle.text_grammar.specs.declared.file.FileForm.{FileForm}
use Rattle.text_grammar.specs.declared.words.Head.{Head}
use Rattle.text_grammar.specs.declared.words.Head.TheVariants.{Operates, Picks, Folds}
use Rattle.text_resolver.specs.Scopes.{view_scope}
use Rattle.text_file_reader.proofs.Made.{MakesExpression, number_makes, name_makes, inside_makes, behind_head, binary_makes, cell_makes}
use Rattle.text_file_reader.proofs.expressions.+expressions.Goals as goal

pub expression_at_once-returns-in_ok-number-in-Int : goal.expression_at_once-returns-in_ok-number-in-Int
expression_at_once-returns-in_ok-number-in-Int t c =
    let number = c.in_ok-number-in-Int.number in
    let same : to_z w64 (of_z w64 number) ≡ number = grind (arith, to_z-of_z) in
    rw same (number_makes c.args.file_form (view_scope c.args.scope.now) c.args.depth (tokens c.args.bytes.now) (tokens c.in_ok-token.rest.now) (int_value c.in-Int.numeral.text.now) number
    (rw c.in-Int.is at c.in_ok-token.ensures.value) c.in_ok-number-in-Int.ensures.value)

pub expression_at_once-returns-in_ok-made-in-Name : goal.expression_at_once-returns-in_ok-made-in-Name
expression_at_once-returns-in_ok-made-in-Name t c =
    name_makes c.args.file_form (view_scope c.args.scope.now) c.args.depth (tokens c.args.bytes.now) (tokens c.in_ok-token.rest.now) c.in-Name.name.now (expression_of c.in_ok-made-in-Name.made)
    (rw c.in-Name.is at c.in_ok-token.ensures.value) c.in_ok-made-in-Name.ensures.value

pub expression_at_once-returns-else-depth-eq0 : goal.expression_at_once-returns-else-depth-eq0
expression_at_once-returns-else-depth-eq0 t c =
    let form = c.args.file_form in
    let scope = view_scope c.args.scope.now in
    let inside = tokens c.in_ok-token.rest.now in
    let some : 0 < c.args.depth = omega arith in
    IfOk-weaker c.compound_at_once.result (λ (x : Expr × Bor (List ℕ)). MakesExpression scope (compound_with form (expr_at form (c.args.depth - 1)) inside) (expression_of x.0) (tokens x.1.now))
    (λ x. MakesExpression scope (expr_at form c.args.depth (tokens c.args.bytes.now)) (expression_of x.0) (tokens x.1.now))
    (λ x made. inside_makes form scope c.args.depth (tokens c.args.bytes.now) inside (tokens x.1.now) (expression_of x.0) some (rw c.in-Open.is at c.in_ok-token.ensures.value) made) c.compound_at_once.ensures

-- what is made behind the word is made of the whole expression
behind : (form : FileForm) (scope : Scope) (depth : ℕ) (bytes word : List ℕ) (inside : List Lexeme) (kind : Head) (result : Result (Expr × Bor (List ℕ)) ReadFault)
    → name_at (tokens bytes) ≡ Ok (word, inside) → head_of form word ≡ Ok kind → IfOk result (λ x. MakesExpression scope (head_with (expr_at form depth) kind inside) (expression_of x.0) (tokens x.1.now))
    → IfOk result (λ x. MakesExpression scope (compound_with form (expr_at form depth) (tokens bytes)) (expression_of x.0) (tokens x.1.now))
behind form scope depth bytes word inside kind result is_word is_kind made =
    IfOk-weaker result (λ x. MakesExpression scope (head_with (expr_at form depth) kind inside) (expression_of x.0) (tokens x.1.now))
    (λ x. MakesExpression scope (compound_with form (expr_at form depth) (tokens bytes)) (expression_of x.0) (tokens x.1.now))
    (λ x it. behind_head form scope (expr_at form depth) (tokens bytes) inside (tokens x.1.now) word kind (expression_of x.0) is_word is_kind it) made

pub compound_at_once-returns-in-Operates : goal.compound_at_once-returns-in-Operates
compound_at_once-returns-in-Operates t c =
    behind c.args.file_form (view_scope c.args.scope.now) c.args.depth c.args.bytes.now c.in_ok-word.word.now (tokens c.in_ok-word.rest.now) (Operates c.in-Operates.operator) c.binary_at_once.result c.in_ok-word.ensures.value
    (c.in_ok-head.ensures.value ∙ ap done c.in-Operates.is) c.binary_at_once.ensures

pub compound_at_once-returns-in-Picks : goal.compound_at_once-returns-in-Picks
compound_at_once-returns-in-Picks t c =
    behind c.args.file_form (view_scope c.args.scope.now) c.args.depth c.args.bytes.now c.in_ok-word.word.now (tokens c.in_ok-word.rest.now) Picks c.cell_at_once.result c.in_ok-word.ensures.value
    (c.in_ok-head.ensures.value ∙ ap done c.in-Picks.is) c.cell_at_once.ensures

pub compound_at_once-returns-in-Folds : goal.compound_at_once-returns-in-Folds
compound_at_once-returns-in-Folds t c =
    behind c.args.file_form (view_scope c.args.scope.now) c.args.depth c.args.bytes.now c.in_ok-word.word.now (tokens c.in_ok-word.rest.now) (Folds c.in-Folds.fold) c.fold_at_once.result c.in_ok-word.ensures.value
    (c.in_ok-head.ensures.value ∙ ap done c.in-Folds.is) c.fold_at_once.ensures

pub binary_at_once-returns : goal.binary_at_once-returns
binary_at_once-returns t c =
    rw c.binary.ensures (binary_makes (view_scope c.args.scope.now) (expr_at c.args.file_form c.args.depth) (tokens c.args.bytes.now) (tokens c.in_ok-left.rest.now) (tokens c.in_ok-right.rest.now) (tokens c.in_ok-rest.rest.now)
    c.args.operator (expression_of c.in_ok-left.left.value) (expression_of c.in_ok-right.right.value) c.in_ok-left.ensures c.in_ok-right.ensures c.in_ok-rest.ensures.value)

pub cell_at_once-returns : goal.cell_at_once-returns
cell_at_once-returns t c =
    cell_makes (view_scope c.args.scope.now) (expr_at c.args.file_form c.args.depth) (tokens c.args.bytes.now) (tokens c.in_ok-name.rest.now) (tokens c.in_ok-index.rest.now) (tokens c.in_ok-rest.rest.now)
    c.in_ok-name.name.now c.in_ok-cells.cells (expression_of c.in_ok-index.index.value) c.in_ok-name.ensures.value c.in_ok-cells.ensures.value c.in_ok-index.ensures c.in_ok-rest.ensures.value
