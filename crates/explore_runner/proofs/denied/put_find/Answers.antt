use Rattle.std.proofs.Common.{◌≡◌, List, ℕ, ◌++◌, ◌∙◌, ap, append_assoc, codes, string_bytes}
use Rattle.text_report_printer.specs.Names.{transaction_name}
use Rattle.explore_runner.specs.Denying.{ending_word}
use Rattle.explore_runner.proofs.Worded.{on_ok}
use Rattle.explore_runner.proofs.denied.put_find.Goals as goal

pub returns : goal.returns
returns c =
    let old = string_bytes c.args.out.now in
    let find = codes ": see --find " in
    let name = transaction_name c.args.catalogue.now c.args.tx.0 in
    let word = ending_word c.args.catalogue.now c.args.ending in
    let one : string_bytes c.push_str.new.self ≡ old ++ find = c.in_ok-push_str.ensures.bytes in
    let two : string_bytes c.push_str-2.new.self ≡ (old ++ find) ++ name =
    c.in_ok-push_str-2.ensures.bytes
    ∙ (ap (λ (t : List ℕ). t ++ c.transaction_name.result.now) one ∙ ap (λ (t : List ℕ). (old ++ find) ++ t) c.transaction_name.ensures.value) in
    on_ok c.put_word.result (string_bytes c.put_word.new.out ≡ string_bytes c.push_str-2.new.self ++ word)
    (string_bytes c.put_word.new.out ≡ old ++ (find ++ (name ++ word)))
    (λ e. e ∙ (ap (λ (t : List ℕ). t ++ word) two ∙ (append_assoc (old ++ find) name word ∙ append_assoc old find (name ++ word))))
    c.put_word.ensures
