use Rattle.std.proofs.Common.{◌≡◌, true, false, arith}
use Rattle.std.proofs.lemmas.Grind.{common_steps}
use Rattle.explain_files.proofs.Walked.{begun, goes_on, stops}
use Rattle.explain_files.proofs.walk.first_stop.Goals as goal

pub returns-then-not-step : goal.returns-then-not-step
returns-then-not-step c =
    let step = c.in_ok-step.step in
    let went : step.went ≡ false = grind (arith, common_steps) in
    stops c.args.bytes.now c.tokens.at step.place step.next step.went c.tokens.stack.items c.next_step.new.stack.items went c.requires c.tokens.invariant.reached c.in_ok-step.ensures.place.here c.in_ok-step.ensures.moves

pub tokens-preserved : goal.tokens-preserved
tokens-preserved c =
    let step = c.in_ok-step.step in
    let went : step.went ≡ true = grind (arith, common_steps) in
    record {
      bound = c.in_ok-step.ensures.place.bound;
      reached = goes_on c.args.bytes.now c.tokens.at step.place step.next step.went c.tokens.stack.items c.next_step.new.stack.items went c.tokens.invariant.reached c.in_ok-step.ensures.moves;
    }

pub tokens-init : goal.tokens-init
tokens-init c = record { bound = omega arith; reached = begun c.args.bytes.now c.in_ok-stack.stack.items c.in_ok-stack.ensures }
