use Rattle.std.proofs.Common.{◌≡◌, ℕ, List, None, refl, drop, ap, ◌∙◌}
use Rattle.std.proofs.lemmas.List.{take_rest}
use Rattle.text_words.specs.TokenView.{view}
use Rattle.text_words.specs.Tokens.{tokens}
use Rattle.explain_files.specs.Judging.{IsRight}
use Rattle.explain_files.specs.Limiting.{many_in, limit_fault, limit_fault_at}
use Rattle.explain_files.specs.Counting.{view_counts}
use Rattle.explain_files.proofs.Judged.{begun, goes_on}
use Rattle.explain_files.proofs.Counted.{limit_said, many_more}
use Rattle.explain_files.proofs.limits.first_excess.Goals as goal

pub tokens-preserved : goal.tokens-preserved
tokens-preserved c =
    let w = c.tokens.invariant in
    let t = view c.in-Some.found.token in
    let form = c.form_of-form.result in
    let many = view_counts c.tokens.counts in
    let behind = tokens (drop c.in-Some.found.next c.args.bytes.now) in
    let fault : None ≡ limit_fault many c.tokens.role t behind =
    c.in_default-judged.ensures.fault ∙ ap (λ (rest : List ℕ). limit_fault many c.tokens.role t (tokens rest)) (take_rest c.args.bytes.now c.in-Some.found.next) in
    goes_on (IsRight (limit_fault_at form)) form (many_in form) c.args.bytes.now c.tokens.at c.in-Some.found.place c.in-Some.found.next c.tokens.role c.role_behind-role.result many (view_counts c.judged.new.counts) t
    w c.in-Some.ensures.some (limit_said form many c.tokens.role w.before t behind None w.state_is w.used_is fault)
    c.role_behind-role.ensures (many_more form many (view_counts c.judged.new.counts) c.tokens.role w.before t w.state_is w.used_is (c.in_default-judged.ensures.counts refl))

pub tokens-init : goal.tokens-init
tokens-init c =
    let form = c.form_of-form.result in
    begun (IsRight (limit_fault_at form)) form (many_in form) c.args.bytes.now (view_counts record { variables = 0; tables = 0; cells = 0; conditions = 0; transactions = 0; parameters = 0; tasks = 0 }) refl
