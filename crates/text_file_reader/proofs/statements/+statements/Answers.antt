use Rattle.std.proofs.Common.{◌≡◌, ◌∙◌, ◌++◌, ◌∷◌, ◌-◌, ◌<◌, [], ℕ, List, Bor, Result, Ok, map, ap, sym, arith}
use Rattle.std.specs.Prelude.{IfOk}
use Rattle.std.proofs.lemmas.List.{map_push}
use Rattle.std.proofs.lemmas.Result.{IfOk-weaker}
use Rattle.txn_programs.specs.declared.ast.Stmt.{Stmt}
use Rattle.txn_programs.specs.Tree.{condition_of, statement_of}
use Rattle.txn_programs.specs.Tree as plain
use Rattle.txn_programs.proofs.Rows.{statement_Seq}
use Rattle.text_words.specs.Bytes.{int_value}
use Rattle.text_words.specs.Tokens.{Lexeme, tokens}
use Rattle.text_words.specs.TokenReading.{word_at, is_open, all_of}
use Rattle.text_words.specs.declared.fault.ReadFault.{ReadFault}
use Rattle.text_words.proofs.Many.{is_done}
use Rattle.text_words.proofs.Steps.{done}
use Rattle.text_grammar.specs.Reading.{keyword_of, expr_at, cond_at, stmt_at, stmt_with}
use Rattle.text_grammar.specs.Resolving.{statement_in}
use Rattle.text_grammar.specs.declared.file.FileForm.{FileForm}
use Rattle.text_grammar.specs.declared.words.Keyword.{Keyword}
use Rattle.text_grammar.specs.declared.words.Keyword.TheVariants as keyword
use Rattle.text_grammar.proofs.Stmts.{stmt_shortens}
use Rattle.text_grammar.specs.Scope.{Scope}
use Rattle.text_resolver.specs.Scopes.{view_scope}
use Rattle.text_resolver.proofs.Parts.{chain_is}
use Rattle.text_file_reader.proofs.AtOnce.{begun, one_more_item}
use Rattle.text_file_reader.proofs.Made.{MakesStatement, behind_keyword, skip_makes, retry_makes, if_makes, repeat_makes, orelse_makes, seq_makes}
use Rattle.text_file_reader.proofs.statements.+statements.Goals as goal

-- what is made behind the keyword is made of the whole statement
behind : (form : FileForm) (scope : Scope) (depth : ℕ) (bytes : List ℕ) (word : List ℕ) (inside : List Lexeme) (kind : Keyword) (result : Result (Stmt × Bor (List ℕ)) ReadFault) → 0 < depth
    → word_at (tokens bytes) ≡ Ok (word, inside) → keyword_of form word ≡ Ok kind → IfOk result (λ x. MakesStatement scope (stmt_with (expr_at form (depth - 1)) (cond_at form (depth - 1)) (stmt_at form (depth - 1)) kind inside) (statement_of x.0) (tokens x.1.now))
    → IfOk result (λ x. MakesStatement scope (stmt_at form depth (tokens bytes)) (statement_of x.0) (tokens x.1.now))
behind form scope depth bytes word inside kind result some is_word is_kind made =
    IfOk-weaker result (λ x. MakesStatement scope (stmt_with (expr_at form (depth - 1)) (cond_at form (depth - 1)) (stmt_at form (depth - 1)) kind inside) (statement_of x.0) (tokens x.1.now))
    (λ x. MakesStatement scope (stmt_at form depth (tokens bytes)) (statement_of x.0) (tokens x.1.now))
    (λ x it. behind_keyword form scope depth (tokens bytes) inside (tokens x.1.now) word kind (statement_of x.0) some is_word is_kind it) made

pub statement_at_once-returns-in-Set : goal.statement_at_once-returns-in-Set
statement_at_once-returns-in-Set t c =
    behind c.args.file_form (view_scope c.args.scope.now) c.args.depth c.args.bytes.now c.in_ok-word.word.now (tokens c.in_ok-word.rest.now) keyword.Set c.set_at_once.result (omega arith) c.in_ok-word.ensures.value
    (c.in_ok-keyword_of.ensures.value ∙ ap done c.in-Set.is) c.set_at_once.ensures

pub statement_at_once-returns-in-Put : goal.statement_at_once-returns-in-Put
statement_at_once-returns-in-Put t c =
    behind c.args.file_form (view_scope c.args.scope.now) c.args.depth c.args.bytes.now c.in_ok-word.word.now (tokens c.in_ok-word.rest.now) keyword.Put c.put_at_once.result (omega arith) c.in_ok-word.ensures.value
    (c.in_ok-keyword_of.ensures.value ∙ ap done c.in-Put.is) c.put_at_once.ensures

pub statement_at_once-returns-in-Seq : goal.statement_at_once-returns-in-Seq
statement_at_once-returns-in-Seq t c =
    behind c.args.file_form (view_scope c.args.scope.now) c.args.depth c.args.bytes.now c.in_ok-word.word.now (tokens c.in_ok-word.rest.now) keyword.Seq c.seq_at_once.result (omega arith) c.in_ok-word.ensures.value
    (c.in_ok-keyword_of.ensures.value ∙ ap done c.in-Seq.is) c.seq_at_once.ensures

pub statement_at_once-returns-in-If : goal.statement_at_once-returns-in-If
statement_at_once-returns-in-If t c =
    behind c.args.file_form (view_scope c.args.scope.now) c.args.depth c.args.bytes.now c.in_ok-word.word.now (tokens c.in_ok-word.rest.now) keyword.If c.if_at_once.result (omega arith) c.in_ok-word.ensures.value
    (c.in_ok-keyword_of.ensures.value ∙ ap done c.in-If.is) c.if_at_once.ensures

pub statement_at_once-returns-in-Repeat : goal.statement_at_once-returns-in-Repeat
statement_at_once-returns-in-Repeat t c =
    behind c.args.file_form (view_scope c.args.scope.now) c.args.depth c.args.bytes.now c.in_ok-word.word.now (tokens c.in_ok-word.rest.now) keyword.Repeat c.repeat_at_once.result (omega arith) c.in_ok-word.ensures.value
    (c.in_ok-keyword_of.ensures.value ∙ ap done c.in-Repeat.is) c.repeat_at_once.ensures

pub statement_at_once-returns-in-OrElse : goal.statement_at_once-returns-in-OrElse
statement_at_once-returns-in-OrElse t c =
    behind c.args.file_form (view_scope c.args.scope.now) c.args.depth c.args.bytes.now c.in_ok-word.word.now (tokens c.in_ok-word.rest.now) keyword.OrElse c.orelse_at_once.result (omega arith) c.in_ok-word.ensures.value
    (c.in_ok-keyword_of.ensures.value ∙ ap done c.in-OrElse.is) c.orelse_at_once.ensures

pub statement_at_once-returns-in-Throw : goal.statement_at_once-returns-in-Throw
statement_at_once-returns-in-Throw t c =
    behind c.args.file_form (view_scope c.args.scope.now) c.args.depth c.args.bytes.now c.in_ok-word.word.now (tokens c.in_ok-word.rest.now) keyword.Throw c.throw_at_once.result (omega arith) c.in_ok-word.ensures.value
    (c.in_ok-keyword_of.ensures.value ∙ ap done c.in-Throw.is) c.throw_at_once.ensures

pub statement_at_once-returns-in_ok-rest-in-Skip : goal.statement_at_once-returns-in_ok-rest-in-Skip
statement_at_once-returns-in_ok-rest-in-Skip t c =
    let scope = view_scope c.args.scope.now in
    let inside = tokens c.in_ok-word.rest.now in
    let behind = tokens c.in_ok-rest-in-Skip.rest.now in
    let part = stmt_at c.args.file_form (c.args.depth - 1) in
    behind_keyword c.args.file_form scope c.args.depth (tokens c.args.bytes.now) inside behind c.in_ok-word.word.now keyword.Skip plain.Skip (omega arith) c.in_ok-word.ensures.value (c.in_ok-keyword_of.ensures.value ∙ ap done c.in-Skip.is)
    (skip_makes scope (expr_at c.args.file_form (c.args.depth - 1)) (cond_at c.args.file_form (c.args.depth - 1)) part inside behind c.in_ok-rest-in-Skip.ensures.value)

pub statement_at_once-returns-in_ok-rest-in-Retry : goal.statement_at_once-returns-in_ok-rest-in-Retry
statement_at_once-returns-in_ok-rest-in-Retry t c =
    let scope = view_scope c.args.scope.now in
    let inside = tokens c.in_ok-word.rest.now in
    let behind = tokens c.in_ok-rest-in-Retry.rest.now in
    let part = stmt_at c.args.file_form (c.args.depth - 1) in
    behind_keyword c.args.file_form scope c.args.depth (tokens c.args.bytes.now) inside behind c.in_ok-word.word.now keyword.Retry plain.Retry (omega arith) c.in_ok-word.ensures.value (c.in_ok-keyword_of.ensures.value ∙ ap done c.in-Retry.is)
    (retry_makes scope (expr_at c.args.file_form (c.args.depth - 1)) (cond_at c.args.file_form (c.args.depth - 1)) part inside behind c.in_ok-rest-in-Retry.ensures.value)

pub if_at_once-returns-in-Ok : goal.if_at_once-returns-in-Ok
if_at_once-returns-in-Ok t c =
    if_makes (view_scope c.args.scope.now) (cond_at c.args.file_form c.args.depth) (stmt_at c.args.file_form c.args.depth) (tokens c.args.bytes.now) (tokens c.in_ok-test.rest.now) (tokens c.in-Ok.rest.now)
    (condition_of c.in_ok-test.test) (statement_of c.in-Ok.first.value) (statement_of c.in-Ok.second.value) c.in_ok-test.ensures c.in-Ok.ensures

pub repeat_at_once-returns : goal.repeat_at_once-returns
repeat_at_once-returns t c =
    repeat_makes (view_scope c.args.scope.now) (stmt_at c.args.file_form c.args.depth) (tokens c.args.bytes.now) (tokens c.in_ok-numeral.rest.now) (tokens c.in_ok-body.rest.now) (tokens c.in_ok-rest.rest.now)
    (int_value c.in_ok-numeral.numeral.text.now) c.in_ok-count.count (statement_of c.in_ok-body.body.value) c.in_ok-numeral.ensures.value c.in_ok-count.ensures.value c.in_ok-body.ensures c.in_ok-rest.ensures.value

pub orelse_at_once-returns : goal.orelse_at_once-returns
orelse_at_once-returns t c =
    orelse_makes (view_scope c.args.scope.now) (stmt_at c.args.file_form c.args.depth) (tokens c.args.bytes.now) (tokens c.in_ok-first.rest.now) (statement_of c.in_ok-first.first.value) (statement_of c.in_ok-first.second.value) c.in_ok-first.ensures

pub seq_at_once-parts-init : goal.seq_at_once-parts-init
seq_at_once-parts-init t c =
    rw c.new-parts.ensures.items ([], begun is_open (stmt_at c.args.file_form c.args.depth) (statement_in (view_scope c.args.scope.now)) (tokens c.args.bytes.now))

pub seq_at_once-parts-preserved : goal.seq_at_once-parts-preserved
seq_at_once-parts-preserved t c =
    let part = stmt_at c.args.file_form c.args.depth in
    let one = statement_in (view_scope c.args.scope.now) in
    let front = map statement_of c.parts.parts.items in
    let so_far = c.parts.invariant in
    let more = c.in_ok-part.ensures in
    let e : map statement_of c.keep.new.parts.items ≡ front ++ statement_of c.in_ok-part.part ∷ [] = rw c.in_ok-keep.ensures (map_push statement_of c.parts.parts.items c.in_ok-part.part) in
    rw e (
      so_far.0 ++ more.item ∷ [],
      one_more_item is_open part one (stmt_shortens c.args.file_form c.args.depth) (all_of is_open part (tokens c.args.bytes.now)) so_far.0 front (tokens c.parts.rest.now) (tokens c.in_ok-part.after.now) more.item (statement_of c.in_ok-part.part) so_far.1
          (sym c.is_open.ensures ∙ c.parts-test.true) more.is_read more.is_made,
    )

pub seq_at_once-parts-smaller : goal.seq_at_once-parts-smaller
seq_at_once-parts-smaller t c =
    let shortens = stmt_shortens c.args.file_form c.args.depth in
    let more = c.in_ok-part.ensures in
    shortens.by (tokens c.parts.rest.now) (more.item, tokens c.in_ok-part.after.now) more.is_read

pub seq_at_once-returns : goal.seq_at_once-returns
seq_at_once-returns t c =
    let part = stmt_at c.args.file_form c.args.depth in
    let scope = view_scope c.args.scope.now in
    let ts = tokens c.args.bytes.now in
    let parts = c.parts.parts in
    let so_far = c.parts.invariant in
    let all = all_of is_open part ts in
    let ends : all ≡ Ok (so_far.0, tokens c.parts.rest.now) = is_done is_open part so_far.0 (tokens c.parts.rest.now) all (sym c.is_open.ensures ∙ c.parts-test.false) so_far.1.are_read in
    rw (statement_Seq parts ∙ ap plain.Seq (chain_is parts.items)) (seq_makes scope part ts (tokens c.parts.rest.now) (tokens c.in_ok-rest.rest.now) so_far.0 (map statement_of parts.items) ends so_far.1.are_made c.in_ok-rest.ensures.value)
