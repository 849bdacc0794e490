use Rattle.std.proofs.Common.{◌≡◌, ◌∙◌, List, Option, ap, subst}
use Rattle.std.proofs.lemmas.Result.{IfOk-weaker}
use Rattle.txn_programs.specs.declared.report.Entry.{Entry}
use Rattle.txn_programs.specs.Replay.{Snapshot}
use Rattle.txn_programs.specs.Told.{told, snapshot_at, base_of}
use Rattle.checker.specs.declared.verdict.Part.TheVariants as part
use Rattle.checker.specs.Parts.{EntriesHold, TasksHold}
use Rattle.explain_reports.specs.declared.entries.Replayed.{Replayed}
use Rattle.explain_reports.specs.declared.entries.Replayed.TheVariants.{Reached, Stopped}
use Rattle.explain_reports.specs.declared.flaw.Flaw.{Flaw}
use Rattle.checker.specs.View.{view}
use Rattle.explain_reports.specs.Steps.{IsReplayed}
use Rattle.explain_reports.specs.Flaws.{FailsBy, IsPartJudged, IsJudged}
use Rattle.explain_reports.proofs.Judging.{by_entries, by_present, by_tasks, by_parked}
use Rattle.explain_reports.proofs.Replaying.{all_go_on}
use Rattle.explain_reports.proofs.judge.flaw_of.Goals as goal

pub returns-in-Stopped : goal.returns-in-Stopped
returns-in-Stopped c =
    let l = c.args.catalogue.now in
    let r = told c.args.report.now in
    let base_is : view c.in_ok-base.base ≡ base_of r = c.in_ok-base.ensures ∙ ap (snapshot_at r.base) c.deref.ensures.value in
    let stopped : IsReplayed l (base_of r) r.entries (Stopped c.in-Stopped.i c.in-Stopped.due) =
    subst (λ (es : List Entry). IsReplayed l (base_of r) es (Stopped c.in-Stopped.i c.in-Stopped.due)) c.deref-2.ensures.value
    (subst (λ (s : Snapshot). IsReplayed l s c.deref-2.result.now (Stopped c.in-Stopped.i c.in-Stopped.due)) base_is
    (subst (λ (x : Replayed). IsReplayed l (view c.in_ok-base.base) c.deref-2.result.now x) c.in-Stopped.is c.in_ok-stage.ensures)) in
    by_entries l r c.in-Stopped.i c.in-Stopped.due c.in_default.ensures stopped

pub returns-in-Some-present_flaw : goal.returns-in-Some-present_flaw
returns-in-Some-present_flaw c =
    let l = c.args.catalogue.now in
    let r = told c.args.report.now in
    let base_is : view c.in_ok-base.base ≡ base_of r = c.in_ok-base.ensures ∙ ap (snapshot_at r.base) c.deref.ensures.value in
    let all : IsReplayed l (base_of r) r.entries (Reached c.in-Reached.stage) =
    subst (λ (es : List Entry). IsReplayed l (base_of r) es (Reached c.in-Reached.stage)) c.deref-2.ensures.value
    (subst (λ (s : Snapshot). IsReplayed l s c.deref-2.result.now (Reached c.in-Reached.stage)) base_is
    (subst (λ (x : Replayed). IsReplayed l (view c.in_ok-base.base) c.deref-2.result.now x) c.in-Reached.is c.in_ok-stage.ensures)) in
    by_present l r c.in-Some-present_flaw.flaw c.in_default.ensures (all_go_on l (base_of r) r.entries all.0) c.in-Some-present_flaw.ensures

pub returns-in-Some-2 : goal.returns-in-Some-2
returns-in-Some-2 c =
    let l = c.args.catalogue.now in
    let r = told c.args.report.now in
    let base_is : view c.in_ok-base.base ≡ base_of r = c.in_ok-base.ensures ∙ ap (snapshot_at r.base) c.deref.ensures.value in
    let all : IsReplayed l (base_of r) r.entries (Reached c.in-Reached.stage) =
    subst (λ (es : List Entry). IsReplayed l (base_of r) es (Reached c.in-Reached.stage)) c.deref-2.ensures.value
    (subst (λ (s : Snapshot). IsReplayed l s c.deref-2.result.now (Reached c.in-Reached.stage)) base_is
    (subst (λ (x : Replayed). IsReplayed l (view c.in_ok-base.base) c.deref-2.result.now x) c.in-Reached.is c.in_ok-stage.ensures)) in
    let flawed : FailsBy l r part.Tasks c.in-Some-2.flaw = subst (λ (o : Option Flaw). IsPartJudged l r part.Tasks o) c.in-Some-2.is c.in_ok-flaw.ensures in
    by_tasks l r c.in-Some-2.flaw c.in_default.ensures (all_go_on l (base_of r) r.entries all.0) c.in_default-present_flaw.ensures flawed

pub returns : goal.returns
returns c =
    let l = c.args.catalogue.now in
    let r = told c.args.report.now in
    let base_is : view c.in_ok-base.base ≡ base_of r = c.in_ok-base.ensures ∙ ap (snapshot_at r.base) c.deref.ensures.value in
    let all : IsReplayed l (base_of r) r.entries (Reached c.in-Reached.stage) =
    subst (λ (es : List Entry). IsReplayed l (base_of r) es (Reached c.in-Reached.stage)) c.deref-2.ensures.value
    (subst (λ (s : Snapshot). IsReplayed l s c.deref-2.result.now (Reached c.in-Reached.stage)) base_is
    (subst (λ (x : Replayed). IsReplayed l (view c.in_ok-base.base) c.deref-2.result.now x) c.in-Reached.is c.in_ok-stage.ensures)) in
    let entries : EntriesHold l r = all_go_on l (base_of r) r.entries all.0 in
    let tasks : TasksHold l r = subst (λ (o : Option Flaw). IsPartJudged l r part.Tasks o) c.in_default-2.is c.in_ok-flaw.ensures in
    let law = c.lawful_where_all_parts_hold.ensures l r c.requires in
    IfOk-weaker c.parked_flaw.result (IsPartJudged l r part.Parked) (IsJudged l r)
    (λ o h. by_parked l r o law c.in_default.ensures entries c.in_default-present_flaw.ensures tasks h) c.parked_flaw.ensures
