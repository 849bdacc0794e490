use Rattle.std.proofs.Common.{◌≡◌, false, List, sym, subst}
use Rattle.std.specs.Prelude.{All}
use Rattle.explore_law.specs.declared.found.End.{End}
use Rattle.explore_law.specs.declared.found.Kinds.{Kinds}
use Rattle.explore_runner.specs.FoundText.{some_wait}
use Rattle.explore_runner.specs.Denying.{Ends, IsPossible, NoneEnds, Waits}
use Rattle.explore_runner.proofs.Denying.{first_turn, no_wait, no_turn_possible}
use Rattle.explore_runner.proofs.denied.sighted.Goals as goal

pub returns-in-Some-clause-some : goal.returns-in-Some-clause-some
returns-in-Some-clause-some c =
    (sym c.in-Parked.is, subst (λ (es : List End). Waits es c.in-Some.number) c.as_slice.ensures.value c.in-Some.ensures.some)

pub returns-in-Some-first_ending : goal.returns-in-Some-first_ending
returns-in-Some-first_ending c =
    let l = c.args.catalogue.now in
    let f = c.args.found.now in
    let d = c.args.denial in
    let tx = c.in-Some-first_ending.tx in
    let how = c.in-Some-first_ending.ending in
    let e : Ends f.kinds.items d tx how = subst (λ (ks : List Kinds). Ends ks d tx how) c.as_slice-2.ensures.value c.in-Some-first_ending.ensures.some in
    record { some = (e.denied, first_turn l f d tx how c.rules.ensures.names c.requires e); none = tt }

pub returns-in-None-clause-none : goal.returns-in-None-clause-none
returns-in-None-clause-none c =
    let l = c.args.catalogue.now in
    let f = c.args.found.now in
    let none = subst (All (λ (e : End). some_wait e.waiting.items ≡ false)) c.as_slice.ensures.value c.in-None.ensures.none in
    λ possible. no_wait l f c.requires none (subst (IsPossible l) c.in-Parked.is possible)

pub returns-in-None-first_ending : goal.returns-in-None-first_ending
returns-in-None-first_ending c =
    let l = c.args.catalogue.now in
    let f = c.args.found.now in
    let d = c.args.denial in
    let none = subst (All (λ (ks : Kinds). NoneEnds ks d)) c.as_slice-2.ensures.value c.in-None-first_ending.ensures.none in
    record { some = tt; none = no_turn_possible l f d c.rules.ensures.names c.requires none c.in_default.not-Parked }
