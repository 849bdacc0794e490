use Rattle.std.proofs.Common.{◌≡◌, ◌+◌, ◌<◌, ◌||◌, ℕ, Bool, length, drop, get_or, sym, ◌∙◌, ap}
use Rattle.std.specs.Prelude.{nat_eq}
use Rattle.std.proofs.lemmas.Bool.{eq-eqb, ne_eqb}
use Rattle.std.proofs.lemmas.List.{drop_more, drop_all}
use Rattle.attempt.specs.Asking.{Known}
use Rattle.book.specs.Table.{names}
use Rattle.book.proofs.Sleeping.{no_pair}
use Rattle.book.proofs.names.has_name.Goals as goal

named_from : (x : ℕ) (log : Known) (i : ℕ) → i < length log → names x (drop i log) ≡ (nat_eq (get_or log i no_pair).0.0 x || names x (drop (i + 1) log))
named_from x log i low = ap (names x) (drop_more log i no_pair low)

pub loop-pair-preserved : goal.loop-pair-preserved
loop-pair-preserved c =
    let log = c.args.log.now in
    let i = c.loop-pair.pair-index in
    let x = c.args.variable in
    ap (λ (b : Bool). b || names x (drop (i + 1) log)) (sym (ne_eqb (get_or log i no_pair).0.0 x c.if-pair-variable.false))
    ∙ (sym (named_from x log i c.loop-pair-test.true) ∙ c.loop-pair.invariant)

pub returns-then-pair-variable : goal.returns-then-pair-variable
returns-then-pair-variable c =
    let log = c.args.log.now in
    let i = c.loop-pair.pair-index in
    let x = c.args.variable in
    ap (λ (b : Bool). b || names x (drop (i + 1) log)) (sym (eq-eqb (get_or log i no_pair).0.0 x c.if-pair-variable.true))
    ∙ (sym (named_from x log i c.loop-pair-test.true) ∙ c.loop-pair.invariant)

pub returns : goal.returns
returns c = ap (names c.args.variable) (sym (drop_all c.loop-pair.pair-index c.args.log.now c.loop-pair-test.false)) ∙ c.loop-pair.invariant
