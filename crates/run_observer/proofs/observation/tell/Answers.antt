use Rattle.std.proofs.Common.{rules, ◌≡◌, ◌∙◌, sym, subst, ap, arith}
use Rattle.txn_programs.specs.Meaning.{value_at}
use Rattle.attempt.specs.Asking.{Known}
use Rattle.attempt.specs.Frame.{Agrees}
use Rattle.attempt.specs.View.{supplied}
use Rattle.cells.specs.Passing.{at}
use Rattle.run_observer.proofs.Seeing.{at_stays, known_each, agrees_all, agrees_told}
use Rattle.run_observer.proofs.observation.tell.Goals.{in-Some, in-None+in_ok-value-in-None}
use Rattle.run_observer.proofs.observation.tell.Goals as goal

pub read_later-requires-clause-variables : goal.read_later-requires-clause-variables
read_later-requires-clause-variables c i low =
    omega (arith, known_each _ c.log.result.now c.log.ensures.known i low, c.requires.variables)

pub returns-in-Ok-clause-agrees : goal.returns-in-Ok-clause-agrees
returns-in-Ok-clause-agrees c g =
    let m = at c.match-peek.pass in
    let told : c.supply.new.self ≡ supplied c.args.attempt.now c.args.x (value_at m c.args.x) = search rules in
    let agrees : Agrees c.args.attempt.now.log m = elim c.match-peek.branch [
      | in-Some w ↦ subst (Agrees c.args.attempt.now.log) (sym (ap at w.pass-is ∙ at_stays c.args.pass.now c.peek.new.pass c.peek.ensures.stays)) g
      | in-None+in_ok-value-in-None w ↦
          subst (Agrees c.args.attempt.now.log) (sym (ap at w.pass-is))
          (subst (λ (log : Known). Agrees log (at w.read_later.new.pass)) w.log.ensures.value (agrees_all w.log.result.now (at w.read_later.new.pass) w.in_ok-value-in-None.ensures.agrees))
    ] in
    agrees_told c.args.attempt.now c.supply.new.self m c.args.x told agrees
