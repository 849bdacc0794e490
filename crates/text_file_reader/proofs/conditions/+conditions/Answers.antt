use Rattle.std.proofs.Common.{◌≡◌, ◌∙◌, ◌-◌, ◌<◌, ℕ, List, Bor, Result, Ok, ap, arith}
use Rattle.std.specs.Prelude.{IfOk}
use Rattle.std.proofs.lemmas.Result.{IfOk-weaker}
use Rattle.txn_programs.specs.declared.ast.Cond.{Cond}
use Rattle.txn_programs.specs.Tree.{condition_of}
use Rattle.text_words.specs.Tokens.{Lexeme, tokens}
use Rattle.text_words.specs.TokenReading.{word_at}
use Rattle.text_words.specs.declared.fault.ReadFault.{ReadFault}
use Rattle.text_words.proofs.Steps.{done}
use Rattle.text_grammar.specs.Reading.{test_of, expr_at, cond_at, cond_with}
use Rattle.text_grammar.specs.declared.file.FileForm.{FileForm}
use Rattle.text_grammar.specs.declared.words.Test.{Test}
use Rattle.text_grammar.specs.declared.words.Test.TheVariants.{Compares, Negates, Connects}
use Rattle.text_grammar.specs.Scope.{Scope}
use Rattle.text_resolver.specs.Scopes.{view_scope}
use Rattle.text_file_reader.proofs.Made.{MakesCondition, behind_test}
use Rattle.text_file_reader.proofs.conditions.+conditions.Goals as goal

-- what is made behind the word is made of the whole condition
behind : (form : FileForm) (scope : Scope) (depth : ℕ) (bytes : List ℕ) (word : List ℕ) (inside : List Lexeme) (kind : Test) (result : Result (Cond × Bor (List ℕ)) ReadFault) → 0 < depth
    → word_at (tokens bytes) ≡ Ok (word, inside) → test_of word ≡ Ok kind → IfOk result (λ x. MakesCondition scope (cond_with (expr_at form (depth - 1)) (cond_at form (depth - 1)) kind inside) (condition_of x.0) (tokens x.1.now))
    → IfOk result (λ x. MakesCondition scope (cond_at form depth (tokens bytes)) (condition_of x.0) (tokens x.1.now))
behind form scope depth bytes word inside kind result some is_word is_kind made =
    IfOk-weaker result (λ x. MakesCondition scope (cond_with (expr_at form (depth - 1)) (cond_at form (depth - 1)) kind inside) (condition_of x.0) (tokens x.1.now))
    (λ x. MakesCondition scope (cond_at form depth (tokens bytes)) (condition_of x.0) (tokens x.1.now))
    (λ x it. behind_test form scope depth (tokens bytes) inside (tokens x.1.now) word kind (condition_of x.0) some is_word is_kind it) made

pub condition_at_once-returns-in-Compares : goal.condition_at_once-returns-in-Compares
condition_at_once-returns-in-Compares t c =
    behind c.args.file_form (view_scope c.args.scope.now) c.args.depth c.args.bytes.now c.in_ok-word.word.now (tokens c.in_ok-word.rest.now) (Compares c.in-Compares.comparison) c.comparison_at_once.result (omega arith) c.in_ok-word.ensures.value
    (c.in_ok-test.ensures.value ∙ ap done c.in-Compares.is) c.comparison_at_once.ensures

pub condition_at_once-returns-in-Negates : goal.condition_at_once-returns-in-Negates
condition_at_once-returns-in-Negates t c =
    behind c.args.file_form (view_scope c.args.scope.now) c.args.depth c.args.bytes.now c.in_ok-word.word.now (tokens c.in_ok-word.rest.now) Negates c.negation_at_once.result (omega arith) c.in_ok-word.ensures.value
    (c.in_ok-test.ensures.value ∙ ap done c.in-Negates.is) c.negation_at_once.ensures

pub condition_at_once-returns-in-Connects : goal.condition_at_once-returns-in-Connects
condition_at_once-returns-in-Connects t c =
    behind c.args.file_form (view_scope c.args.scope.now) c.args.depth c.args.bytes.now c.in_ok-word.word.now (tokens c.in_ok-word.rest.now) (Connects c.in-Connects.connective) c.connection_at_once.result (omega arith) c.in_ok-word.ensures.value
    (c.in_ok-test.ensures.value ∙ ap done c.in-Connects.is) c.connection_at_once.ensures
