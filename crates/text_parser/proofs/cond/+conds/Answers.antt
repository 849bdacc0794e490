use Rattle.std.proofs.Common.{◌≡◌, ◌∙◌, ℕ, zero, suc, ◌-◌, ◌<◌, List, Result, Ok, Bor, refl, sym, ap, subst, arith}
use Rattle.text_words.specs.Answers.{Gives}
use Rattle.text_words.specs.TokenReading.{word_at}
use Rattle.text_words.specs.Tokens.{Lexeme, tokens}
use Rattle.text_words.specs.declared.fault.ReadFault.{ReadFault}
use Rattle.text_grammar.specs.Reading.{test_of, expr_at, cond_at, cond_with}
use Rattle.text_grammar.specs.Tree.{Cond}
use Rattle.text_grammar.specs.View.{view_cond}
use Rattle.text_grammar.specs.declared.cond.RawCond.{RawCond}
use Rattle.text_grammar.specs.declared.file.FileForm.{FileForm}
use Rattle.text_grammar.specs.declared.words.Test.{Test}
use Rattle.text_grammar.specs.declared.words.Test.TheVariants as tests
use Rattle.text_parser.proofs.cond.+conds.Goals as goal

abbrev found : Test → Result Test ReadFault
found k = Ok k

abbrev shown : RawCond × Bor (List ℕ) → Cond × List Lexeme
shown x = (view_cond x.0, tokens x.1.now)

-- a condition by its word, for any depth but 0
cond_step : (form : FileForm) (depth : ℕ) (ts : List Lexeme) (word : List ℕ × List Lexeme) (kind : Test) → 0 < depth → word_at ts ≡ Ok word → test_of word.0 ≡ Ok kind
    → cond_at form depth ts ≡ cond_with (expr_at form (depth - 1)) (cond_at form (depth - 1)) kind word.1
unfolding cond_at
cond_step form zero ts word kind lt a b = absurd (omega arith)
cond_step form (suc depth) ts word kind lt a b = let d : suc depth - 1 ≡ depth = omega arith in rw (a, b, d) refl

-- what is given behind the word is given of the whole condition
behind : (form : FileForm) (depth : ℕ) (bytes : List ℕ) (word : List ℕ × List Lexeme) (kind : Test) (result : Result (RawCond × Bor (List ℕ)) ReadFault) → 0 < depth
    → word_at (tokens bytes) ≡ Ok word → test_of word.0 ≡ Ok kind → Gives shown result (cond_with (expr_at form (depth - 1)) (cond_at form (depth - 1)) kind word.1)
    → Gives shown result (cond_at form depth (tokens bytes))
behind form depth bytes word kind result lt is_word is_kind given = subst (Gives shown result) (sym (cond_step form depth (tokens bytes) word kind lt is_word is_kind)) given

pub cond_of-returns-in-Negates-clause-value : goal.cond_of-returns-in-Negates-clause-value
cond_of-returns-in-Negates-clause-value t c =
    behind c.args.file_form c.args.depth c.args.bytes.now (c.in_ok-word.word.now, tokens c.in_ok-word.rest.now) tests.Negates c.negation_of.result (omega arith) c.in_ok-word.ensures.value (c.in_ok-test.ensures.value ∙ ap found c.in-Negates.is) c.negation_of.ensures.value

pub cond_of-returns-in-Connects-clause-value : goal.cond_of-returns-in-Connects-clause-value
cond_of-returns-in-Connects-clause-value t c =
    behind c.args.file_form c.args.depth c.args.bytes.now (c.in_ok-word.word.now, tokens c.in_ok-word.rest.now) (tests.Connects c.in-Connects.connective) c.connection_of.result (omega arith) c.in_ok-word.ensures.value (c.in_ok-test.ensures.value ∙ ap found c.in-Connects.is) c.connection_of.ensures.value
