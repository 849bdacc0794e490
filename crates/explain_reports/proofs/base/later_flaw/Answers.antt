use Rattle.std.proofs.Common.{◌≡◌, ◌∙◌, ℤ, ℕ, List, refl, ap, subst}
use Rattle.txn_programs.specs.Tree.{Condition}
use Rattle.txn_programs.specs.Meaning.{State}
use Rattle.txn_programs.specs.Listing.{conditions}
use Rattle.txn_programs.specs.Replay.{Snapshot}
use Rattle.txn_programs.specs.Told.{told, base_of}
use Rattle.txn_evaluator.specs.Always.{conditions_of}
use Rattle.explain_reports.specs.First.{AllRight, IsFirstWrong}
use Rattle.explain_reports.specs.Parts.{IsRecent, IsTrueOf}
use Rattle.explain_reports.proofs.Bases.{base_later, base_untrue, base_late}
use Rattle.explain_reports.proofs.base.later_flaw.Goals as goal

pub returns-in-Some : goal.returns-in-Some
returns-in-Some c =
    let l = c.args.catalogue.now in
    let r = told c.args.report.now in
    let i = c.in-Some.i in
    let values : c.deref.result.now ≡ (base_of r).state = c.deref.ensures.value ∙ ap (λ (s : Snapshot). s.state) c.requires.told in
    let first : IsFirstWrong (IsTrueOf (base_of r).state) (conditions l) i =
    subst (λ (cs : List Condition). IsFirstWrong (IsTrueOf (base_of r).state) cs i) c.always.ensures.conditions
    (subst (λ (m : State). IsFirstWrong (IsTrueOf m) (conditions_of c.always.result.now) i) values c.in-Some.ensures) in
    record { fails = base_untrue l r i first; part = refl; flaw_is = (c.requires.later, first) }

pub returns-in-Some-first_late : goal.returns-in-Some-first_late
returns-in-Some-first_late c =
    let l = c.args.catalogue.now in
    let r = told c.args.report.now in
    let i = c.in-Some-first_late.i in
    let values : c.deref.result.now ≡ (base_of r).state = c.deref.ensures.value ∙ ap (λ (s : Snapshot). s.state) c.requires.told in
    let true_there : AllRight (IsTrueOf (base_of r).state) (conditions l) =
    subst (λ (cs : List Condition). AllRight (IsTrueOf (base_of r).state) cs) c.always.ensures.conditions
    (subst (λ (m : State). AllRight (IsTrueOf m) (conditions_of c.always.result.now)) values c.in-None.ensures) in
    let first : IsFirstWrong (IsRecent r.base) r.base_vars i =
    subst (λ (vs : List (ℤ × ℕ)). IsFirstWrong (IsRecent r.base) vs i) c.deref-in-None.ensures.value c.in-Some-first_late.ensures in
    record { fails = base_late l r i first; part = refl; flaw_is = (c.requires.later, true_there, first) }

pub returns-in-None-first_late : goal.returns-in-None-first_late
returns-in-None-first_late c =
    let l = c.args.catalogue.now in
    let r = told c.args.report.now in
    let values : c.deref.result.now ≡ (base_of r).state = c.deref.ensures.value ∙ ap (λ (s : Snapshot). s.state) c.requires.told in
    let true_there : AllRight (IsTrueOf (base_of r).state) (conditions l) =
    subst (λ (cs : List Condition). AllRight (IsTrueOf (base_of r).state) cs) c.always.ensures.conditions
    (subst (λ (m : State). AllRight (IsTrueOf m) (conditions_of c.always.result.now)) values c.in-None.ensures) in
    let recent : AllRight (IsRecent r.base) r.base_vars =
    subst (λ (vs : List (ℤ × ℕ)). AllRight (IsRecent r.base) vs) c.deref-in-None.ensures.value c.in-None-first_late.ensures in
    base_later l r c.requires.later true_there recent
