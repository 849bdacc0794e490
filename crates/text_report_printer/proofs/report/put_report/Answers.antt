use Rattle.std.proofs.Common.{◌∙◌, ℕ, ℤ, List, [], ◌∷◌, ◌++◌, length, ap, arith, string_bytes}
use Rattle.std.specs.Prelude.{codes}
use Rattle.std.specs.Fmt.{decimal}
use Rattle.std.specs.List.{flat_map}
use Rattle.txn_programs.specs.declared.ast.TaskId.{TaskId}
use Rattle.txn_programs.specs.declared.ast.TxId.{TxId}
use Rattle.txn_programs.specs.declared.report.Entry.{Entry}
use Rattle.text_report_printer.specs.ReportText.{value_lines, entry_line, task_line}
use Rattle.text_words.specs.Words.{line}
use Rattle.text_report_printer.proofs.Appends.{eight_pieces}
use Rattle.text_report_printer.proofs.report.put_report.Goals as goal

pub put_values-requires : goal.put_values-requires
put_values-requires c = omega (arith, c.rules.ensures.valued, c.requires.base_vars, ap length c.deref.ensures.value)

pub put_values-requires-2 : goal.put_values-requires-2
put_values-requires-2 c = omega (arith, c.rules.ensures.valued, c.requires.current_vars, ap length c.deref-3.ensures.value)

pub returns : goal.returns
returns c =
    let l = c.args.catalogue.now in
    let r = c.args.report.now in
    let o1 = string_bytes c.put_number.new.out in
    let o2 = string_bytes c.put_values.new.out in
    let o3 = string_bytes c.put_entries.new.out in
    let o4 = string_bytes c.put_number-2.new.out in
    let o5 = string_bytes c.put_values-2.new.out in
    let o6 = string_bytes c.put_tasks.new.out in
    let o7 = string_bytes c.put_tasks-2.new.out in
    let parked : List (TaskId × TxId) → List ℕ = flat_map (task_line l (codes "parked")) in
    let memory : List (TaskId × TxId) → List ℕ = flat_map (task_line l (codes "memory")) in
    eight_pieces (line (codes "base" ∷ decimal r.base ∷ [])) (value_lines l r.base_vars.items) (flat_map (entry_line l) r.entries.items) (line (codes "now" ∷ decimal r.now ∷ []))
    (value_lines l r.now_vars.items) (parked r.parked.items) (memory r.memory.items) (line (codes "end" ∷ []))
    (string_bytes c.args.out.now) o1 o2 o3 o4 o5 o6 o7 (string_bytes c.push_str.new.self)
    c.in_ok-put_number.ensures.text
    (c.in_ok-put_values.ensures ∙ ap (λ (vs : List (ℤ × ℕ)). o1 ++ value_lines l vs) c.deref.ensures.value)
    (c.in_ok-put_entries.ensures.text ∙ ap (λ (es : List Entry). o2 ++ flat_map (entry_line l) es) c.deref-2.ensures.value)
    c.in_ok-put_number-2.ensures.text
    (c.in_ok-put_values-2.ensures ∙ ap (λ (vs : List (ℤ × ℕ)). o4 ++ value_lines l vs) c.deref-3.ensures.value)
    (c.in_ok-put_tasks.ensures.text ∙ ap (λ (ts : List (TaskId × TxId)). o5 ++ parked ts) c.deref-4.ensures.value)
    (c.in_ok-put_tasks-2.ensures.text ∙ ap (λ (ts : List (TaskId × TxId)). o6 ++ memory ts) c.deref-5.ensures.value)
    c.in_ok-push_str.ensures.bytes
