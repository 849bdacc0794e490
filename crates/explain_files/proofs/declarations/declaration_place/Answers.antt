use Rattle.std.proofs.Common.{◌≡◌, false, drop, refl, arith}
use Rattle.std.proofs.lemmas.Grind.{common_steps}
use Rattle.text_words.specs.TokenView.{view}
use Rattle.text_words.specs.Tokens.{tokens}
use Rattle.explain_files.specs.Declarations.{DoesNotDeclare}
use Rattle.explain_files.proofs.Judged.{begun, goes_on, nothing_seen, does_not_declare}
use Rattle.explain_files.proofs.declarations.declaration_place.Goals as goal

pub tokens-preserved : goal.tokens-preserved
tokens-preserved c =
    let w = c.tokens.invariant in
    let t = view c.in-Some.found.token in
    let form = c.form_of-form.result in
    let behind = tokens (drop c.in-Some.found.next c.args.bytes.now) in
    let other : c.declares.result ≡ false = grind (arith, common_steps) in
    goes_on (DoesNotDeclare form c.args.used c.args.name.now) form nothing_seen c.args.bytes.now c.tokens.at c.in-Some.found.place c.in-Some.found.next c.tokens.role c.role_behind-role.result tt tt t
    w c.in-Some.ensures.some (does_not_declare form c.args.used c.args.name.now w.before c.tokens.role t behind w.used_is (c.declares.ensures.not other)) c.role_behind-role.ensures refl

pub tokens-init : goal.tokens-init
tokens-init c = begun (DoesNotDeclare c.form_of-form.result c.args.used c.args.name.now) c.form_of-form.result nothing_seen c.args.bytes.now tt refl
