use Rattle.std.proofs.Common.{◌∙◌, List, ap}
use Rattle.std.specs.List.{list_all}
use Rattle.text_line_reader.specs.ReportResolving.{is_known}
use Rattle.text_line_reader.specs.ReportView.{view_entry, view_task}
use Rattle.text_line_reader.specs.declared.report.raw.RawEntry.{RawEntry}
use Rattle.text_line_reader.specs.declared.report.raw.RawTask.{RawTask}
use Rattle.text_line_reader.proofs.ReportKnown.{transactions_are, all_three, not_second, not_first}
use Rattle.text_line_reader.proofs.report.resolve.transactions_known.Goals as goal

pub returns-then-not-entries : goal.returns-then-not-entries
returns-then-not-entries c =
    let l = c.args.catalogue.now in
    let f = λ (es : List RawEntry). list_all (λ e. is_known l (view_entry e).name) es in
    let g = λ (ts : List RawTask). list_all (λ t. is_known l (view_task t).name) ts in
    let a = c.entries_known-entries.ensures ∙ ap f c.deref.ensures.value in
    let b = c.tasks_known-parked.ensures ∙ ap g c.deref-2.ensures.value in
    let d = c.tasks_known-memory.ensures ∙ ap g c.deref-3.ensures.value in
    let total = transactions_are l c.args.report.now c.entries_known-entries.result c.tasks_known-parked.result c.tasks_known-memory.result a b d in
    not_first c.entries_known-entries.result c.tasks_known-parked.result c.tasks_known-memory.result _ total c.if-not-entries.true

pub returns-then-not-parked : goal.returns-then-not-parked
returns-then-not-parked c =
    let l = c.args.catalogue.now in
    let f = λ (es : List RawEntry). list_all (λ e. is_known l (view_entry e).name) es in
    let g = λ (ts : List RawTask). list_all (λ t. is_known l (view_task t).name) ts in
    let a = c.entries_known-entries.ensures ∙ ap f c.deref.ensures.value in
    let b = c.tasks_known-parked.ensures ∙ ap g c.deref-2.ensures.value in
    let d = c.tasks_known-memory.ensures ∙ ap g c.deref-3.ensures.value in
    let total = transactions_are l c.args.report.now c.entries_known-entries.result c.tasks_known-parked.result c.tasks_known-memory.result a b d in
    not_second _ _ _ _ total c.if-not-entries.false c.if-not-parked.true

pub returns : goal.returns
returns c =
    let l = c.args.catalogue.now in
    let f = λ (es : List RawEntry). list_all (λ e. is_known l (view_entry e).name) es in
    let g = λ (ts : List RawTask). list_all (λ t. is_known l (view_task t).name) ts in
    let a = c.entries_known-entries.ensures ∙ ap f c.deref.ensures.value in
    let b = c.tasks_known-parked.ensures ∙ ap g c.deref-2.ensures.value in
    let d = c.tasks_known-memory.ensures ∙ ap g c.deref-3.ensures.value in
    let total = transactions_are l c.args.report.now c.entries_known-entries.result c.tasks_known-parked.result c.tasks_known-memory.result a b d in
    all_three _ _ _ _ total c.if-not-entries.false c.if-not-parked.false
