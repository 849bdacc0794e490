use Rattle.std.proofs.Common.{◌≡◌, ℕ, zero, suc, ◌-◌, ◌<◌, List, Result, Ok, Bor, refl, sym, subst, arith}
use Rattle.text_words.specs.Answers.{Gives}
use Rattle.text_words.specs.TokenReading.{next_at}
use Rattle.text_words.specs.Tokens.{Lexeme, Opens, tokens}
use Rattle.text_words.specs.declared.fault.ReadFault.{ReadFault}
use Rattle.text_grammar.specs.Reading.{expr_at, compound_with}
use Rattle.text_grammar.specs.Tree.{Expr}
use Rattle.text_grammar.specs.View.{view_expr}
use Rattle.text_grammar.specs.declared.expr.RawExpr.{RawExpr}
use Rattle.text_grammar.specs.declared.file.FileForm.{FileForm}
use Rattle.text_parser.proofs.expr.+exprs.Goals as goal

abbrev shown : RawExpr × Bor (List ℕ) → Expr × List Lexeme
shown x = (view_expr x.0, tokens x.1.now)

-- an expression behind its parenthesis, for any depth but 0
expr_step : (form : FileForm) (depth : ℕ) (ts inside : List Lexeme) → 0 < depth → next_at ts ≡ Ok (Opens, inside) → expr_at form depth ts ≡ compound_with form (expr_at form (depth - 1)) inside
unfolding expr_at
expr_step form zero ts inside lt a = absurd (omega arith)
expr_step form (suc depth) ts inside lt a = let d : suc depth - 1 ≡ depth = omega arith in rw (a, d) refl

-- what is given behind the parenthesis is given of the whole expression
behind : (form : FileForm) (depth : ℕ) (bytes : List ℕ) (inside : List Lexeme) (result : Result (RawExpr × Bor (List ℕ)) ReadFault) → 0 < depth
    → next_at (tokens bytes) ≡ Ok (Opens, inside) → Gives shown result (compound_with form (expr_at form (depth - 1)) inside) → Gives shown result (expr_at form depth (tokens bytes))
behind form depth bytes inside result lt is_next given = subst (Gives shown result) (sym (expr_step form depth (tokens bytes) inside lt is_next)) given

pub expr_of-returns-else-depth-eq0-clause-value : goal.expr_of-returns-else-depth-eq0-clause-value
expr_of-returns-else-depth-eq0-clause-value t c =
    behind c.args.file_form c.args.depth c.args.bytes.now (tokens c.in_ok-token.rest.now) c.compound_of.result (omega arith) (rw c.in-Open.is at c.in_ok-token.ensures.value) c.compound_of.ensures.value
