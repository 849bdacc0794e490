-- What is shown has no newline: a number, and the beginning of what has none.
use Rattle.std.proofs.Common.{◌∙◌, ℕ, ◌<◌, ◌^◌, List, take, drop, refl, sym, ap}
use Rattle.std.specs.Fmt.{decimal}
use Rattle.std.specs.List.{list_all}
use Rattle.std.proofs.lemmas.Bool.{and_parts}
use Rattle.std.proofs.lemmas.List.{take-append-drop}
use Rattle.std.proofs.lemmas.List.Folds.{list_all-append}
use Rattle.text_words.specs.Bytes.{is_in_line}
use Rattle.text_line_reader.proofs.Numbers.{decimal_number, number_lacks}
use Rattle.explain_files.specs.Telling.{IsInLine}

pub decimal_in_line : (n : ℕ) → n < 2 ^ 64 → IsInLine (decimal n)
decimal_in_line n h = number_lacks 10 refl (decimal n) (decimal_number n h)

pub beginning_in_line : (text : List ℕ) (n : ℕ) → IsInLine text → IsInLine (take n text)
beginning_in_line text n h =
    (and_parts (list_all is_in_line (take n text)) (list_all is_in_line (drop n text))
    (sym (list_all-append is_in_line (take n text) (drop n text)) ∙ ap (list_all is_in_line) (take-append-drop n text) ∙ h)).0
