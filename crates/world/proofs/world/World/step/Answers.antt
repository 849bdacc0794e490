use Rattle.std.proofs.Common.{rules, sym, subst}
use Rattle.world.specs.Runs.{EndsCheck, EvaluatesFree}
use Rattle.world.specs.View.{WorldView}
use Rattle.world.proofs.Reaching.{reached_led}
use Rattle.world.proofs.world.World.step.Goals as goal

pub invariant_of-self-2 : goal.invariant_of-self-2
invariant_of-self-2 c = record {
  kept = c.in_ok-seen.ensures.ok.kept;
  reached = reached_led c.self.inside.scene c.happen.new.scene c.args.event c.in_ok-seen.seen c.self.invariant.reached c.in_ok-seen.ensures.ok;
}

pub returns-in_err-seen-clause-checks : goal.returns-in_err-seen-clause-checks
returns-in_err-seen-clause-checks c h =
    let sure = c.happen.ensures.checks (subst (λ (v : WorldView). EndsCheck v.world c.args.event) (sym c.self.view_is) h) in
    search (rules, sure)

pub returns-clause-in_place : goal.returns-clause-in_place
returns-clause-in_place c h =
    let free = c.happen.ensures.in_place (subst (λ (v : WorldView). EvaluatesFree v.listing c.args.event) (sym c.self.view_is) h) in
    search (rules, free)
