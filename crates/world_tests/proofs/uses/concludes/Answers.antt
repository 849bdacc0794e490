use Rattle.std.proofs.Common.{◌≡◌, ◌≢◌, ◌∙◌, ◌-◌, ap, sym, subst, refl, ⊎_elim, inl, inr, Option, Some, slice_get}
use Rattle.txn_programs.specs.Listing.{Listing, task_program}
use Rattle.txn_programs.specs.Meaning.{outcome, after}
use Rattle.txn_programs.specs.declared.ast.Outcome.TheVariants.{Retries}
use Rattle.txn_words.specs.Words.{state_of}
use Rattle.attempt.specs.Asking.{Known}
use Rattle.attempt.specs.Frame.{Agrees}
use Rattle.world_law.specs.declared.events.Fate.TheVariants as fate
use Rattle.world_law.specs.World.{Started, Committer, World}
use Rattle.world_law.specs.Opacity.{IsPast, Opaque}
use Rattle.world_tests.specs.Uses.{PairsAreOfOneState, EndsAreOfPrograms, CommitsAreOfPrograms, StatesAreCommitted, ClocksMakeStates, TasksCommitOnce}
use Rattle.world_tests.proofs.uses.concludes.Goals as goal

same_some : (a b : Started) → Some a ≡ Some b → a ≡ b
same_some a b e = cc

pairs : (l : Listing) (w : World) → Opaque l w → PairsAreOfOneState w
pairs l w o i y x z u v at is =
    let r = o.reads i y at in
    let agrees = subst (λ (log : Known). Agrees log (state_of w.history y.rv)) is r.1.0 in
    (y.rv, r.0, agrees.0, agrees.1.0)

commits : (l : Listing) (w : World) → Opaque l w → CommitsAreOfPrograms l w
commits l w o i n y at is low high =
    let made = o.makers n low high in
    let here = made.4 i y (at, inl is) in
    let same = same_some made.1 y (sym made.2.0 ∙ (ap (slice_get w.attempts) (sym here) ∙ at)) in (
      subst (λ (z : Started). state_of w.history n ≡ after (task_program l z.task) (state_of w.history (n - 1))) same made.3.leads,
      subst (λ (z : Started). outcome (task_program l z.task) (state_of w.history (n - 1)) ≢ Retries) same made.3.goes_on,
    )

ends : (l : Listing) (w : World) → Opaque l w → EndsAreOfPrograms l w
ends l w o i y out writes at is = let r = o.reads i y at in (y.rv, r.0, r.1.1 out writes is)

states : (l : Listing) (w : World) → Opaque l w → StatesAreCommitted l w
states l w o n none low high =
    let made = o.makers n low high in
    ⊎_elim (λ (e : made.1.fate ≡ fate.Committed n). (made.0, made.1, made.2.0, e, made.3.agrees, made.3.ended, made.3.leads))
    (λ (p : IsPast w.committer made.0 n). absurd (subst (λ (c : Option Committer). IsPast c made.0 n) none p)) made.2.1

clocks : (l : Listing) (w : World) → Opaque l w → ClocksMakeStates l w
clocks l w o c y is past at low high =
    let made = o.makers c.number low high in
    let own : IsPast w.committer c.place c.number = subst (λ (d : Option Committer). IsPast d c.place c.number) (sym is) (refl, refl, past) in
    let here = made.4 c.place y (at, inr own) in
    let same = same_some made.1 y (sym made.2.0 ∙ (ap (slice_get w.attempts) (sym here) ∙ at)) in
    subst (λ (z : Started). state_of w.history c.number ≡ after (task_program l z.task) (state_of w.history (c.number - 1))) same made.3.leads

once : (l : Listing) (w : World) → Opaque l w → TasksCommitOnce w
once l w o = o.once

pub returns-clause-pairs : goal.returns-clause-pairs
returns-clause-pairs c w reached = pairs c.args.catalogue.now w (c.opacity.ensures.opaque w reached)

pub returns-clause-ends : goal.returns-clause-ends
returns-clause-ends c w reached = ends c.args.catalogue.now w (c.opacity.ensures.opaque w reached)

pub returns-clause-states : goal.returns-clause-states
returns-clause-states c w reached = states c.args.catalogue.now w (c.opacity.ensures.opaque w reached)

pub returns-clause-clocks : goal.returns-clause-clocks
returns-clause-clocks c w reached = clocks c.args.catalogue.now w (c.opacity.ensures.opaque w reached)

pub returns-clause-commits : goal.returns-clause-commits
returns-clause-commits c w reached = commits c.args.catalogue.now w (c.opacity.ensures.opaque w reached)

pub returns-clause-once : goal.returns-clause-once
returns-clause-once c w reached = once c.args.catalogue.now w (c.opacity.ensures.opaque w reached)
