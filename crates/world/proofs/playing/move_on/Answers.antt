use Rattle.std.proofs.Common.{rules, ◌<◌, ◌∙◌, refl, sym, subst}
use Rattle.world_law.specs.declared.events.Seen.{Seen}
use Rattle.world.proofs.Moved.{leads_again, leads_read, leads_end, now_again, now_read, to_check, to_check_less}
use Rattle.world.proofs.playing.move_on.Goals as goal

pub checks-init : goal.checks-init
checks-init c =
    let a = c.args.world.now in
    let b = c.step.new.self in
    record {
      listing = c.in_ok-seen.ensures.listing;
      on = leads_again a.listing a.listing a.world b.world c.args.task c.in_ok-seen.seen refl c.in_ok-seen.ensures.ok;
      now = now_again a.listing a.world b.world c.args.task c.in_ok-seen.seen c.in_ok-seen.ensures.ok;
    }

pub checks-preserved : goal.checks-preserved
checks-preserved c =
    let i = c.checks.invariant in
    let a = c.checks.world in
    let b = c.read.new.world in
    let t = c.in_ok-seen-in-Checks.seen in
    let n = c.in_ok-seen-in-Checks.ensures.ok in
    record {
      listing = c.in_ok-seen-in-Checks.ensures.listing ∙ i.listing;
      on = leads_read c.args.world.now.listing a.listing c.args.world.now.world a.world b.world c.args.task c.in-Checks.x c.checks.seen t i.listing c.in-Checks.is i.on n;
      now = now_read a.listing a.world b.world c.args.task c.in-Checks.x t (i.now c.in-Checks.x c.in-Checks.is) n;
    }

pub checks-smaller : goal.checks-smaller
checks-smaller c =
    let a = c.checks.world in
    let b = c.read.new.world in
    let t = c.in_ok-seen-in-Checks.seen in
    subst (λ (s : Seen). to_check t b.world < to_check s a.world) (sym c.in-Checks.is)
    (to_check_less a.listing a.world b.world c.args.task c.in-Checks.x t c.in_ok-seen-in-Checks.ensures.ok)

pub returns-in_default : goal.returns-in_default
returns-in_default c =
    let i = c.checks.invariant in
    record {
      listing = i.listing;
      ok = leads_end c.args.world.now.listing c.args.world.now.world c.checks.world.world c.args.task c.checks.seen c.in_default.not-Checks i.on;
      sure = refl;
    }

pub returns-in_err-seen-in-Checks-clause-sure : goal.returns-in_err-seen-in-Checks-clause-sure
returns-in_err-seen-in-Checks-clause-sure c =
    let sure = c.read.ensures.sure (c.checks.invariant.now c.in-Checks.x c.in-Checks.is) in
    search (rules, sure)
