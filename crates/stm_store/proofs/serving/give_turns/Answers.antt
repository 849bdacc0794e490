use Rattle.std.proofs.Common.{◌≢◌, ◌∙◌, Some, None, arith, refl, slice_get, subst, sym}
use Rattle.book.specs.View.{BookView}
use Rattle.book.specs.Tasks.{Ready}
use Rattle.book.proofs.Draining.{taken_running}
use Rattle.stm_store.specs.Turning.{TurnsGiven}
use Rattle.stm_store.proofs.Shapes.{same_shape, then_shape, taken_shape}
use Rattle.stm_store.proofs.serving.give_turns.Goals as goal

pub loop-given-init : goal.loop-given-init
loop-given-init c =
    record {
      turns = TurnsGiven.NoTurn;
      listing = refl;
      bound = omega arith;
      shape = same_shape c.args.book.now;
    }

pub returns-in_default-clause-given : goal.returns-in_default-clause-given
returns-in_default-clause-given c =
    let n = c.in_default.ensures.taken in
    record {
      turns = subst (λ (b : BookView). TurnsGiven c.args.every c.args.book.now c.loop-given.given b) (sym n.1) c.loop-given.invariant.turns;
      bound = c.loop-given.invariant.bound;
      rest = λ less k. subst (λ (b : BookView). slice_get b.tasks k ≢ Some Ready) (sym n.1) (n.0 k);
    }

pub returns-in_default-clause-listing : goal.returns-in_default-clause-listing
returns-in_default-clause-listing c = c.take.ensures.catalogue ∙ c.loop-given.invariant.listing

pub returns-in_default-clause-shape : goal.returns-in_default-clause-shape
returns-in_default-clause-shape c =
    then_shape c.args.book.now c.loop-given.book c.take.new.self c.loop-given.invariant.shape
    (taken_shape c.loop-given.book c.take.new.self None c.in_default.ensures.taken)

pub give_turn-end-requires : goal.give_turn-end-requires
give_turn-end-requires c = record { running = taken_running _ _ c.in-Some.task c.in-Some.ensures.taken }

pub loop-given-preserved : goal.loop-given-preserved
loop-given-preserved c =
    record {
      turns = TurnsGiven.OneMore _ c.in-Some.task c.give_turn-end.result c.loop-given.invariant.turns c.in-Some.ensures.taken c.give_turn-end.ensures.ends;
      listing = c.give_turn-end.ensures.listing ∙ (c.take.ensures.catalogue ∙ c.loop-given.invariant.listing);
      bound = omega (arith, c.loop-given-test.true);
      shape = then_shape c.args.book.now c.take.new.self _
          (then_shape c.args.book.now c.loop-given.book c.take.new.self c.loop-given.invariant.shape
          (taken_shape c.loop-given.book c.take.new.self (Some c.in-Some.task) c.in-Some.ensures.taken))
          c.give_turn-end.ensures.shape;
    }

pub returns-clause-given : goal.returns-clause-given
returns-clause-given c =
    record {
      turns = c.loop-given.invariant.turns;
      bound = c.loop-given.invariant.bound;
      rest = λ less k. absurd (omega (arith, c.loop-given-test.false, less));
    }

pub returns-clause-listing : goal.returns-clause-listing
returns-clause-listing c = c.loop-given.invariant.listing

pub returns-clause-shape : goal.returns-clause-shape
returns-clause-shape c = c.loop-given.invariant.shape
