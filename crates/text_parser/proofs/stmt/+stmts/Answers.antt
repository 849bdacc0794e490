use Rattle.std.proofs.Common.{◌≡◌, ◌++◌, ◌∷◌, ◌-◌, ◌<◌, ℕ, [], List, Result, Ok, Bor, arith, ap, sym, subst, ◌∙◌, refl}
use Rattle.std.proofs.lemmas.Result.{err_from_is_err_and}
use Rattle.std.proofs.lemmas.List.{map_push}
use Rattle.text_grammar.specs.declared.stmt.RawStmt.{RawStmt}
use Rattle.text_grammar.specs.declared.file.FileForm.{FileForm}
use Rattle.text_grammar.specs.declared.words.Keyword.{Keyword}
use Rattle.text_grammar.specs.declared.words.Keyword.TheVariants as keywords
use Rattle.text_words.specs.declared.fault.ReadFault.{ReadFault}
use Rattle.text_words.specs.Tokens.{Lexeme, tokens}
use Rattle.text_grammar.specs.View.{view_stmt, view_stmts}
use Rattle.text_grammar.specs.Tree.{Stmt}
use Rattle.text_words.specs.Answers.{Gives}
use Rattle.text_grammar.specs.Reading.{keyword_of, expr_at, cond_at, stmt_at, stmt_with, seq_with}
use Rattle.text_words.specs.TokenReading.{word_at, close_at, is_open, all_of}
use Rattle.text_words.proofs.Many.{goes_on, ends_at_item, is_done, failed}
use Rattle.text_grammar.proofs.Views.{view_seq}
use Rattle.text_grammar.proofs.Stmts.{stmt_shortens, stmt_step, seq_fails, seq_ends}
use Rattle.text_parser.proofs.stmt.+stmts.Goals as goal

abbrev found : Keyword → Result Keyword ReadFault
found k = Ok k

abbrev shown : RawStmt × Bor (List ℕ) → Stmt × List Lexeme
shown x = (view_stmt x.0, tokens x.1.now)

-- what is given behind the keyword is given of the whole statement
behind : (form : FileForm) (depth : ℕ) (bytes : List ℕ) (word : List ℕ × List Lexeme) (kind : Keyword) (result : Result (RawStmt × Bor (List ℕ)) ReadFault) → 0 < depth
    → word_at (tokens bytes) ≡ Ok word → keyword_of form word.0 ≡ Ok kind → Gives shown result (stmt_with (expr_at form (depth - 1)) (cond_at form (depth - 1)) (stmt_at form (depth - 1)) kind word.1)
    → Gives shown result (stmt_at form depth (tokens bytes))
behind form depth bytes word kind result lt is_word is_kind given = subst (Gives shown result) (sym (stmt_step form depth (tokens bytes) word kind lt is_word is_kind)) given

pub stmt_of-returns-in-Seq-clause-value : goal.stmt_of-returns-in-Seq-clause-value
stmt_of-returns-in-Seq-clause-value t c =
    behind c.args.file_form c.args.depth c.args.bytes.now (c.in_ok-word.word.now, tokens c.in_ok-word.rest.now) keywords.Seq c.seq_of.result (omega arith) c.in_ok-word.ensures.value (c.in_ok-keyword_of.ensures.value ∙ ap found c.in-Seq.is) c.seq_of.ensures.value

pub stmt_of-returns-in-If-clause-value : goal.stmt_of-returns-in-If-clause-value
stmt_of-returns-in-If-clause-value t c =
    behind c.args.file_form c.args.depth c.args.bytes.now (c.in_ok-word.word.now, tokens c.in_ok-word.rest.now) keywords.If c.if_of.result (omega arith) c.in_ok-word.ensures.value (c.in_ok-keyword_of.ensures.value ∙ ap found c.in-If.is) c.if_of.ensures.value

pub stmt_of-returns-in-Repeat-clause-value : goal.stmt_of-returns-in-Repeat-clause-value
stmt_of-returns-in-Repeat-clause-value t c =
    behind c.args.file_form c.args.depth c.args.bytes.now (c.in_ok-word.word.now, tokens c.in_ok-word.rest.now) keywords.Repeat c.repeat_of.result (omega arith) c.in_ok-word.ensures.value (c.in_ok-keyword_of.ensures.value ∙ ap found c.in-Repeat.is) c.repeat_of.ensures.value

pub stmt_of-returns-in-OrElse-clause-value : goal.stmt_of-returns-in-OrElse-clause-value
stmt_of-returns-in-OrElse-clause-value t c =
    behind c.args.file_form c.args.depth c.args.bytes.now (c.in_ok-word.word.now, tokens c.in_ok-word.rest.now) keywords.OrElse c.orelse_of.result (omega arith) c.in_ok-word.ensures.value (c.in_ok-keyword_of.ensures.value ∙ ap found c.in-OrElse.is) c.orelse_of.ensures.value

pub seq_of-returns-in_err-part-clause-value : goal.seq_of-returns-in_err-part-clause-value
seq_of-returns-in_err-part-clause-value t c =
    let p = err_from_is_err_and c.from_residual.result c.from_residual.ensures.1 in
    let part = stmt_at c.args.file_form c.args.depth in
    let all = all_of is_open part (tokens c.args.bytes.now) in
    rw (p.1, p.2) (seq_fails c.in_err-part.field-0.0 part (tokens c.args.bytes.now)
    (ends_at_item c.in_err-part.field-0.0 is_open part (stmt_shortens c.args.file_form c.args.depth) (view_stmts c.parts.parts.items) (tokens c.parts.rest.now) all (sym c.is_open.ensures ∙ c.parts-test.true) c.in_err-part.ensures.value c.parts.invariant.so_far))

pub seq_of-parts-preserved : goal.seq_of-parts-preserved
seq_of-parts-preserved t c =
    let part = c.in_ok-part.part in
    let e : view_stmts c.keep.new.parts.items ≡ view_stmts c.parts.parts.items ++ view_stmt part ∷ [] = rw c.in_ok-keep.ensures (map_push _ c.parts.parts.items part) in
    record {
      so_far = rw e (goes_on is_open (stmt_at c.args.file_form c.args.depth) (stmt_shortens c.args.file_form c.args.depth) (view_stmts c.parts.parts.items) (tokens c.parts.rest.now) (view_stmt part, tokens c.in_ok-part.after.now) (all_of is_open (stmt_at c.args.file_form c.args.depth) (tokens c.args.bytes.now)) (sym c.is_open.ensures ∙ c.parts-test.true) c.in_ok-part.ensures.value c.parts.invariant.so_far);
      same = (refl, refl);
      within = omega (arith, c.in_ok-part.ensures.shorter, c.parts.invariant.within);
    }

pub seq_of-returns-in_err-rest-clause-value : goal.seq_of-returns-in_err-rest-clause-value
seq_of-returns-in_err-rest-clause-value t c =
    let p = err_from_is_err_and c.from_residual-in_err-rest.result c.from_residual-in_err-rest.ensures.1 in
    let part = stmt_at c.args.file_form c.args.depth in
    let parts = view_stmts c.parts.parts.items in
    let all = all_of is_open part (tokens c.args.bytes.now) in
    let ends : all ≡ Ok (parts, tokens c.parts.rest.now) = is_done is_open part parts (tokens c.parts.rest.now) all (sym c.is_open.ensures ∙ c.parts-test.false) c.parts.invariant.so_far in
    rw (p.1, p.2) (failed c.in_err-rest.field-0.0 (close_at (tokens c.parts.rest.now)) _ (seq_with part (tokens c.args.bytes.now)) c.in_err-rest.ensures.value (sym (seq_ends part (tokens c.args.bytes.now) (tokens c.parts.rest.now) parts ends)))

pub seq_of-returns-clause-value : goal.seq_of-returns-clause-value
seq_of-returns-clause-value t c =
    let part = stmt_at c.args.file_form c.args.depth in
    let parts = view_stmts c.parts.parts.items in
    let all = all_of is_open part (tokens c.args.bytes.now) in
    let ends : all ≡ Ok (parts, tokens c.parts.rest.now) = is_done is_open part parts (tokens c.parts.rest.now) all (sym c.is_open.ensures ∙ c.parts-test.false) c.parts.invariant.so_far in
    seq_ends part (tokens c.args.bytes.now) (tokens c.parts.rest.now) parts ends ∙ rw (c.in_ok-rest.ensures.value, view_seq c.parts.parts) refl
