use Rattle.std.proofs.Common.{[], ◌∷◌, ◌++◌, ℕ, ℤ, List, ap, arith, length, subst, string_bytes}
use Rattle.std.specs.Prelude.{codes}
use Rattle.std.specs.Fmt.{decimal}
use Rattle.std.specs.List.{flat_map}
use Rattle.book_storage.specs.PackedEntries.{told_run}
use Rattle.txn_programs.specs.declared.ast.TaskId.{TaskId}
use Rattle.txn_programs.specs.declared.ast.TxId.{TxId}
use Rattle.txn_programs.specs.declared.report.Entry.{Entry}
use Rattle.text_words.specs.Words.{line}
use Rattle.text_report_printer.specs.ReportText.{value_lines, entry_line, task_line}
use Rattle.runner.specs.Pieces.{Gathers, Breaks}
use Rattle.runner.proofs.Gathering.{breaks_before, gathers_then, map_err, map_ok, on_err, then_breaks}
use Rattle.runner.proofs.Parts.{base_part, journal_part, now_part, parked_part, memory_part, end_part, behind_base, behind_journal, behind_now, behind_parked, parts_are_text}
use Rattle.runner.proofs.pieces.put_report.Goals as goal

pub put_values-requires-clause-each : goal.put_values-requires-clause-each
put_values-requires-clause-each g c = omega (arith, c.rules.ensures.valued, c.requires.fits.base_vars, ap length c.deref.ensures.value)

pub put_values-requires-2-clause-each : goal.put_values-requires-2-clause-each
put_values-requires-2-clause-each g c = omega (arith, c.rules.ensures.valued, c.requires.fits.current_vars, ap length c.deref-3.ensures.value)

pub returns-in_err-put_values-clause-breaks : goal.returns-in_err-put_values-clause-breaks
returns-in_err-put_values-clause-breaks g c =
    let l = c.args.catalogue.now in
    let r = told_run c.args.report.now in
    let broke = subst (λ (vs : List (ℤ × ℕ)). Breaks (g.S.Sink.bytes c.args.sink.now) (string_bytes c.args.text.now) (g.S.Sink.bytes c.put_values.new.sink) (line (codes "base" ∷ decimal r.base ∷ []) ++ value_lines l vs)) c.deref.ensures.value c.in_err-put_values.ensures.breaks in
    on_err _ (subst (Breaks (g.S.Sink.bytes c.args.sink.now) (string_bytes c.args.text.now) (g.S.Sink.bytes c.put_values.new.sink)) (parts_are_text l r) (breaks_before (g.S.Sink.bytes c.args.sink.now) (g.S.Sink.bytes c.put_values.new.sink) (string_bytes c.args.text.now) (base_part l r) (behind_base l r) broke))

pub returns-in_err-put_journal-clause-breaks : goal.returns-in_err-put_journal-clause-breaks
returns-in_err-put_journal-clause-breaks g c =
    let l = c.args.catalogue.now in
    let r = told_run c.args.report.now in
    let g0 = subst (λ (vs : List (ℤ × ℕ)). Gathers (g.S.Sink.bytes c.args.sink.now) (string_bytes c.args.text.now) (g.S.Sink.bytes c.put_values.new.sink) (string_bytes c.put_values.new.text) (line (codes "base" ∷ decimal r.base ∷ []) ++ value_lines l vs)) c.deref.ensures.value c.in_ok-put_values.ensures.gathers in
    let broke = subst (λ (es : List Entry). Breaks (g.S.Sink.bytes c.put_values.new.sink) (string_bytes c.put_values.new.text) (g.S.Sink.bytes c.put_journal.new.sink) (flat_map (entry_line l) es)) c.deref-2.ensures.value c.in_err-put_journal.ensures.breaks in
    on_err _ (subst (Breaks (g.S.Sink.bytes c.args.sink.now) (string_bytes c.args.text.now) (g.S.Sink.bytes c.put_journal.new.sink)) (parts_are_text l r) (then_breaks (g.S.Sink.bytes c.args.sink.now) (g.S.Sink.bytes c.put_values.new.sink) (g.S.Sink.bytes c.put_journal.new.sink) (string_bytes c.args.text.now) (string_bytes c.put_values.new.text) (base_part l r) (behind_base l r) g0 (breaks_before (g.S.Sink.bytes c.put_values.new.sink) (g.S.Sink.bytes c.put_journal.new.sink) (string_bytes c.put_values.new.text) (journal_part l r) (behind_journal l r) broke)))

pub returns-in_err-put_values-2-clause-breaks : goal.returns-in_err-put_values-2-clause-breaks
returns-in_err-put_values-2-clause-breaks g c =
    let l = c.args.catalogue.now in
    let r = told_run c.args.report.now in
    let g0 = subst (λ (vs : List (ℤ × ℕ)). Gathers (g.S.Sink.bytes c.args.sink.now) (string_bytes c.args.text.now) (g.S.Sink.bytes c.put_values.new.sink) (string_bytes c.put_values.new.text) (line (codes "base" ∷ decimal r.base ∷ []) ++ value_lines l vs)) c.deref.ensures.value c.in_ok-put_values.ensures.gathers in
    let g1 = subst (λ (es : List Entry). Gathers (g.S.Sink.bytes c.put_values.new.sink) (string_bytes c.put_values.new.text) (g.S.Sink.bytes c.put_journal.new.sink) (string_bytes c.put_journal.new.text) (flat_map (entry_line l) es)) c.deref-2.ensures.value c.in_ok-put_journal.ensures.gathers in
    let broke = subst (λ (vs : List (ℤ × ℕ)). Breaks (g.S.Sink.bytes c.put_journal.new.sink) (string_bytes c.put_journal.new.text) (g.S.Sink.bytes c.put_values-2.new.sink) (line (codes "now" ∷ decimal r.current ∷ []) ++ value_lines l vs)) c.deref-3.ensures.value c.in_err-put_values-2.ensures.breaks in
    on_err _ (subst (Breaks (g.S.Sink.bytes c.args.sink.now) (string_bytes c.args.text.now) (g.S.Sink.bytes c.put_values-2.new.sink)) (parts_are_text l r) (then_breaks (g.S.Sink.bytes c.args.sink.now) (g.S.Sink.bytes c.put_values.new.sink) (g.S.Sink.bytes c.put_values-2.new.sink) (string_bytes c.args.text.now) (string_bytes c.put_values.new.text) (base_part l r) (behind_base l r) g0 (then_breaks (g.S.Sink.bytes c.put_values.new.sink) (g.S.Sink.bytes c.put_journal.new.sink) (g.S.Sink.bytes c.put_values-2.new.sink) (string_bytes c.put_values.new.text) (string_bytes c.put_journal.new.text) (journal_part l r) (behind_journal l r) g1 (breaks_before (g.S.Sink.bytes c.put_journal.new.sink) (g.S.Sink.bytes c.put_values-2.new.sink) (string_bytes c.put_journal.new.text) (now_part l r) (behind_now l r) broke))))

pub returns-in_err-put_all_tasks-clause-breaks : goal.returns-in_err-put_all_tasks-clause-breaks
returns-in_err-put_all_tasks-clause-breaks g c =
    let l = c.args.catalogue.now in
    let r = told_run c.args.report.now in
    let g0 = subst (λ (vs : List (ℤ × ℕ)). Gathers (g.S.Sink.bytes c.args.sink.now) (string_bytes c.args.text.now) (g.S.Sink.bytes c.put_values.new.sink) (string_bytes c.put_values.new.text) (line (codes "base" ∷ decimal r.base ∷ []) ++ value_lines l vs)) c.deref.ensures.value c.in_ok-put_values.ensures.gathers in
    let g1 = subst (λ (es : List Entry). Gathers (g.S.Sink.bytes c.put_values.new.sink) (string_bytes c.put_values.new.text) (g.S.Sink.bytes c.put_journal.new.sink) (string_bytes c.put_journal.new.text) (flat_map (entry_line l) es)) c.deref-2.ensures.value c.in_ok-put_journal.ensures.gathers in
    let g2 = subst (λ (vs : List (ℤ × ℕ)). Gathers (g.S.Sink.bytes c.put_journal.new.sink) (string_bytes c.put_journal.new.text) (g.S.Sink.bytes c.put_values-2.new.sink) (string_bytes c.put_values-2.new.text) (line (codes "now" ∷ decimal r.current ∷ []) ++ value_lines l vs)) c.deref-3.ensures.value c.in_ok-put_values-2.ensures.gathers in
    let broke = subst (λ (ts : List (TaskId × TxId)). Breaks (g.S.Sink.bytes c.put_values-2.new.sink) (string_bytes c.put_values-2.new.text) (g.S.Sink.bytes c.put_all_tasks.new.sink) (flat_map (task_line l (codes "parked")) ts)) c.deref-4.ensures.value c.in_err-put_all_tasks.ensures.breaks in
    on_err _ (subst (Breaks (g.S.Sink.bytes c.args.sink.now) (string_bytes c.args.text.now) (g.S.Sink.bytes c.put_all_tasks.new.sink)) (parts_are_text l r) (then_breaks (g.S.Sink.bytes c.args.sink.now) (g.S.Sink.bytes c.put_values.new.sink) (g.S.Sink.bytes c.put_all_tasks.new.sink) (string_bytes c.args.text.now) (string_bytes c.put_values.new.text) (base_part l r) (behind_base l r) g0 (then_breaks (g.S.Sink.bytes c.put_values.new.sink) (g.S.Sink.bytes c.put_journal.new.sink) (g.S.Sink.bytes c.put_all_tasks.new.sink) (string_bytes c.put_values.new.text) (string_bytes c.put_journal.new.text) (journal_part l r) (behind_journal l r) g1 (then_breaks (g.S.Sink.bytes c.put_journal.new.sink) (g.S.Sink.bytes c.put_values-2.new.sink) (g.S.Sink.bytes c.put_all_tasks.new.sink) (string_bytes c.put_journal.new.text) (string_bytes c.put_values-2.new.text) (now_part l r) (behind_now l r) g2 (breaks_before (g.S.Sink.bytes c.put_values-2.new.sink) (g.S.Sink.bytes c.put_all_tasks.new.sink) (string_bytes c.put_values-2.new.text) (parked_part l r) (behind_parked l r) broke)))))

pub returns-in_err-put_all_tasks-2-clause-breaks : goal.returns-in_err-put_all_tasks-2-clause-breaks
returns-in_err-put_all_tasks-2-clause-breaks g c =
    let l = c.args.catalogue.now in
    let r = told_run c.args.report.now in
    let g0 = subst (λ (vs : List (ℤ × ℕ)). Gathers (g.S.Sink.bytes c.args.sink.now) (string_bytes c.args.text.now) (g.S.Sink.bytes c.put_values.new.sink) (string_bytes c.put_values.new.text) (line (codes "base" ∷ decimal r.base ∷ []) ++ value_lines l vs)) c.deref.ensures.value c.in_ok-put_values.ensures.gathers in
    let g1 = subst (λ (es : List Entry). Gathers (g.S.Sink.bytes c.put_values.new.sink) (string_bytes c.put_values.new.text) (g.S.Sink.bytes c.put_journal.new.sink) (string_bytes c.put_journal.new.text) (flat_map (entry_line l) es)) c.deref-2.ensures.value c.in_ok-put_journal.ensures.gathers in
    let g2 = subst (λ (vs : List (ℤ × ℕ)). Gathers (g.S.Sink.bytes c.put_journal.new.sink) (string_bytes c.put_journal.new.text) (g.S.Sink.bytes c.put_values-2.new.sink) (string_bytes c.put_values-2.new.text) (line (codes "now" ∷ decimal r.current ∷ []) ++ value_lines l vs)) c.deref-3.ensures.value c.in_ok-put_values-2.ensures.gathers in
    let g3 = subst (λ (ts : List (TaskId × TxId)). Gathers (g.S.Sink.bytes c.put_values-2.new.sink) (string_bytes c.put_values-2.new.text) (g.S.Sink.bytes c.put_all_tasks.new.sink) (string_bytes c.put_all_tasks.new.text) (flat_map (task_line l (codes "parked")) ts)) c.deref-4.ensures.value c.in_ok-put_all_tasks.ensures.gathers in
    let broke = subst (λ (ts : List (TaskId × TxId)). Breaks (g.S.Sink.bytes c.put_all_tasks.new.sink) (string_bytes c.put_all_tasks.new.text) (g.S.Sink.bytes c.put_all_tasks-2.new.sink) (flat_map (task_line l (codes "memory")) ts)) c.deref-5.ensures.value c.in_err-put_all_tasks-2.ensures.breaks in
    on_err _ (subst (Breaks (g.S.Sink.bytes c.args.sink.now) (string_bytes c.args.text.now) (g.S.Sink.bytes c.put_all_tasks-2.new.sink)) (parts_are_text l r) (then_breaks (g.S.Sink.bytes c.args.sink.now) (g.S.Sink.bytes c.put_values.new.sink) (g.S.Sink.bytes c.put_all_tasks-2.new.sink) (string_bytes c.args.text.now) (string_bytes c.put_values.new.text) (base_part l r) (behind_base l r) g0 (then_breaks (g.S.Sink.bytes c.put_values.new.sink) (g.S.Sink.bytes c.put_journal.new.sink) (g.S.Sink.bytes c.put_all_tasks-2.new.sink) (string_bytes c.put_values.new.text) (string_bytes c.put_journal.new.text) (journal_part l r) (behind_journal l r) g1 (then_breaks (g.S.Sink.bytes c.put_journal.new.sink) (g.S.Sink.bytes c.put_values-2.new.sink) (g.S.Sink.bytes c.put_all_tasks-2.new.sink) (string_bytes c.put_journal.new.text) (string_bytes c.put_values-2.new.text) (now_part l r) (behind_now l r) g2 (then_breaks (g.S.Sink.bytes c.put_values-2.new.sink) (g.S.Sink.bytes c.put_all_tasks.new.sink) (g.S.Sink.bytes c.put_all_tasks-2.new.sink) (string_bytes c.put_values-2.new.text) (string_bytes c.put_all_tasks.new.text) (parked_part l r) (behind_parked l r) g3 (breaks_before (g.S.Sink.bytes c.put_all_tasks.new.sink) (g.S.Sink.bytes c.put_all_tasks-2.new.sink) (string_bytes c.put_all_tasks.new.text) (memory_part l r) end_part broke))))))

pub returns-clause-gathers : goal.returns-clause-gathers
returns-clause-gathers g c =
    let l = c.args.catalogue.now in
    let r = told_run c.args.report.now in
    let g0 = subst (λ (vs : List (ℤ × ℕ)). Gathers (g.S.Sink.bytes c.args.sink.now) (string_bytes c.args.text.now) (g.S.Sink.bytes c.put_values.new.sink) (string_bytes c.put_values.new.text) (line (codes "base" ∷ decimal r.base ∷ []) ++ value_lines l vs)) c.deref.ensures.value c.in_ok-put_values.ensures.gathers in
    let g1 = subst (λ (es : List Entry). Gathers (g.S.Sink.bytes c.put_values.new.sink) (string_bytes c.put_values.new.text) (g.S.Sink.bytes c.put_journal.new.sink) (string_bytes c.put_journal.new.text) (flat_map (entry_line l) es)) c.deref-2.ensures.value c.in_ok-put_journal.ensures.gathers in
    let g2 = subst (λ (vs : List (ℤ × ℕ)). Gathers (g.S.Sink.bytes c.put_journal.new.sink) (string_bytes c.put_journal.new.text) (g.S.Sink.bytes c.put_values-2.new.sink) (string_bytes c.put_values-2.new.text) (line (codes "now" ∷ decimal r.current ∷ []) ++ value_lines l vs)) c.deref-3.ensures.value c.in_ok-put_values-2.ensures.gathers in
    let g3 = subst (λ (ts : List (TaskId × TxId)). Gathers (g.S.Sink.bytes c.put_values-2.new.sink) (string_bytes c.put_values-2.new.text) (g.S.Sink.bytes c.put_all_tasks.new.sink) (string_bytes c.put_all_tasks.new.text) (flat_map (task_line l (codes "parked")) ts)) c.deref-4.ensures.value c.in_ok-put_all_tasks.ensures.gathers in
    let g4 = subst (λ (ts : List (TaskId × TxId)). Gathers (g.S.Sink.bytes c.put_all_tasks.new.sink) (string_bytes c.put_all_tasks.new.text) (g.S.Sink.bytes c.put_all_tasks-2.new.sink) (string_bytes c.put_all_tasks-2.new.text) (flat_map (task_line l (codes "memory")) ts)) c.deref-5.ensures.value c.in_ok-put_all_tasks-2.ensures.gathers in
    map_ok c.put_end.result (λ last. subst (Gathers (g.S.Sink.bytes c.args.sink.now) (string_bytes c.args.text.now) (g.S.Sink.bytes c.put_end.new.sink) []) (parts_are_text l r) (gathers_then (g.S.Sink.bytes c.args.sink.now) (g.S.Sink.bytes c.put_values.new.sink) (g.S.Sink.bytes c.put_end.new.sink) (string_bytes c.args.text.now) (string_bytes c.put_values.new.text) [] (base_part l r) (behind_base l r) g0 (gathers_then (g.S.Sink.bytes c.put_values.new.sink) (g.S.Sink.bytes c.put_journal.new.sink) (g.S.Sink.bytes c.put_end.new.sink) (string_bytes c.put_values.new.text) (string_bytes c.put_journal.new.text) [] (journal_part l r) (behind_journal l r) g1 (gathers_then (g.S.Sink.bytes c.put_journal.new.sink) (g.S.Sink.bytes c.put_values-2.new.sink) (g.S.Sink.bytes c.put_end.new.sink) (string_bytes c.put_journal.new.text) (string_bytes c.put_values-2.new.text) [] (now_part l r) (behind_now l r) g2 (gathers_then (g.S.Sink.bytes c.put_values-2.new.sink) (g.S.Sink.bytes c.put_all_tasks.new.sink) (g.S.Sink.bytes c.put_end.new.sink) (string_bytes c.put_values-2.new.text) (string_bytes c.put_all_tasks.new.text) [] (parked_part l r) (behind_parked l r) g3 (gathers_then (g.S.Sink.bytes c.put_all_tasks.new.sink) (g.S.Sink.bytes c.put_all_tasks-2.new.sink) (g.S.Sink.bytes c.put_end.new.sink) (string_bytes c.put_all_tasks.new.text) (string_bytes c.put_all_tasks-2.new.text) [] (memory_part l r) end_part g4 last)))))) c.put_end.ensures.gathers

pub returns-clause-breaks : goal.returns-clause-breaks
returns-clause-breaks g c =
    let l = c.args.catalogue.now in
    let r = told_run c.args.report.now in
    let g0 = subst (λ (vs : List (ℤ × ℕ)). Gathers (g.S.Sink.bytes c.args.sink.now) (string_bytes c.args.text.now) (g.S.Sink.bytes c.put_values.new.sink) (string_bytes c.put_values.new.text) (line (codes "base" ∷ decimal r.base ∷ []) ++ value_lines l vs)) c.deref.ensures.value c.in_ok-put_values.ensures.gathers in
    let g1 = subst (λ (es : List Entry). Gathers (g.S.Sink.bytes c.put_values.new.sink) (string_bytes c.put_values.new.text) (g.S.Sink.bytes c.put_journal.new.sink) (string_bytes c.put_journal.new.text) (flat_map (entry_line l) es)) c.deref-2.ensures.value c.in_ok-put_journal.ensures.gathers in
    let g2 = subst (λ (vs : List (ℤ × ℕ)). Gathers (g.S.Sink.bytes c.put_journal.new.sink) (string_bytes c.put_journal.new.text) (g.S.Sink.bytes c.put_values-2.new.sink) (string_bytes c.put_values-2.new.text) (line (codes "now" ∷ decimal r.current ∷ []) ++ value_lines l vs)) c.deref-3.ensures.value c.in_ok-put_values-2.ensures.gathers in
    let g3 = subst (λ (ts : List (TaskId × TxId)). Gathers (g.S.Sink.bytes c.put_values-2.new.sink) (string_bytes c.put_values-2.new.text) (g.S.Sink.bytes c.put_all_tasks.new.sink) (string_bytes c.put_all_tasks.new.text) (flat_map (task_line l (codes "parked")) ts)) c.deref-4.ensures.value c.in_ok-put_all_tasks.ensures.gathers in
    let g4 = subst (λ (ts : List (TaskId × TxId)). Gathers (g.S.Sink.bytes c.put_all_tasks.new.sink) (string_bytes c.put_all_tasks.new.text) (g.S.Sink.bytes c.put_all_tasks-2.new.sink) (string_bytes c.put_all_tasks-2.new.text) (flat_map (task_line l (codes "memory")) ts)) c.deref-5.ensures.value c.in_ok-put_all_tasks-2.ensures.gathers in
    map_err c.put_end.result (λ last. subst (Breaks (g.S.Sink.bytes c.args.sink.now) (string_bytes c.args.text.now) (g.S.Sink.bytes c.put_end.new.sink)) (parts_are_text l r) (then_breaks (g.S.Sink.bytes c.args.sink.now) (g.S.Sink.bytes c.put_values.new.sink) (g.S.Sink.bytes c.put_end.new.sink) (string_bytes c.args.text.now) (string_bytes c.put_values.new.text) (base_part l r) (behind_base l r) g0 (then_breaks (g.S.Sink.bytes c.put_values.new.sink) (g.S.Sink.bytes c.put_journal.new.sink) (g.S.Sink.bytes c.put_end.new.sink) (string_bytes c.put_values.new.text) (string_bytes c.put_journal.new.text) (journal_part l r) (behind_journal l r) g1 (then_breaks (g.S.Sink.bytes c.put_journal.new.sink) (g.S.Sink.bytes c.put_values-2.new.sink) (g.S.Sink.bytes c.put_end.new.sink) (string_bytes c.put_journal.new.text) (string_bytes c.put_values-2.new.text) (now_part l r) (behind_now l r) g2 (then_breaks (g.S.Sink.bytes c.put_values-2.new.sink) (g.S.Sink.bytes c.put_all_tasks.new.sink) (g.S.Sink.bytes c.put_end.new.sink) (string_bytes c.put_values-2.new.text) (string_bytes c.put_all_tasks.new.text) (parked_part l r) (behind_parked l r) g3 (then_breaks (g.S.Sink.bytes c.put_all_tasks.new.sink) (g.S.Sink.bytes c.put_all_tasks-2.new.sink) (g.S.Sink.bytes c.put_end.new.sink) (string_bytes c.put_all_tasks.new.text) (string_bytes c.put_all_tasks-2.new.text) (memory_part l r) end_part g4 last)))))) c.put_end.ensures.breaks
