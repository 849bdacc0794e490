use Rattle.std.proofs.Common.{◌≡◌, ℕ, List, drop, None, sym, ap, ◌∙◌, arith}
use Rattle.std.proofs.lemmas.Grind.{common_steps}
use Rattle.text_words.specs.TokenView.{view}
use Rattle.text_words.specs.Tokens.{tokens}
use Rattle.explain_files.specs.Judging.{IsRight, names_in, name_fault_for, name_fault_at}
use Rattle.explain_files.specs.Declaring.{view_declared}
use Rattle.std.proofs.lemmas.List.{take_rest}
use Rattle.explain_files.proofs.Judged.{begun, goes_on}
use Rattle.explain_files.proofs.Counted.{name_said, names_more}
use Rattle.explain_files.proofs.names.first_wrong.Goals as goal

pub tokens-preserved : goal.tokens-preserved
tokens-preserved c =
    let w = c.tokens.invariant in
    let t = view c.in-Some.found.token in
    let form = c.args.form in
    let behind = tokens (drop c.in-Some.found.next c.args.bytes.now) in
    let said = c.in_ok-fault.field-0 in
    let none : said ≡ None = grind (arith, common_steps) in
    let fault : said ≡ name_fault_for (view_declared c.tokens.declared) c.tokens.role t behind =
    c.in_ok-fault.ensures.fault ∙ ap (λ (rest : List ℕ). name_fault_for (view_declared c.tokens.declared) c.tokens.role t (tokens rest)) (take_rest c.args.bytes.now c.in-Some.found.next) in
    goes_on (IsRight (name_fault_at form)) form (names_in form) c.args.bytes.now c.tokens.at c.in-Some.found.place c.in-Some.found.next c.tokens.role c.role_behind-role.result (view_declared c.tokens.declared) (view_declared c.judged_token.new.declared) t
    w c.in-Some.ensures.some (name_said form (view_declared c.tokens.declared) c.tokens.role w.before t behind None w.state_is w.used_is (sym none ∙ fault))
    c.role_behind-role.ensures (names_more form (view_declared c.tokens.declared) (view_declared c.judged_token.new.declared) c.tokens.role w.before t w.state_is w.used_is (c.in_ok-fault.ensures.names none))

pub tokens-init : goal.tokens-init
tokens-init c = begun (IsRight (name_fault_at c.args.form)) c.args.form (names_in c.args.form) c.args.bytes.now (view_declared c.args.declared.now) c.requires
