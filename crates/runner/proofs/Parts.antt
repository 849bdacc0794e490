-- A report in the parts in which it goes out.
use Rattle.std.proofs.Common.{◌≡◌, ℕ, List, [], ◌∷◌, ◌++◌, append_assoc}
use Rattle.std.specs.Prelude.{codes}
use Rattle.std.specs.Fmt.{decimal}
use Rattle.std.specs.List.{flat_map}
use Rattle.txn_programs.specs.Listing.{Listing}
use Rattle.txn_programs.specs.Told.{Told}
use Rattle.text_words.specs.Words.{line}
use Rattle.text_report_printer.specs.ReportText.{value_lines, entry_line, task_line, report_text}

abbrev pub base_part : Listing → Told → List ℕ
base_part l r = line (codes "base" ∷ decimal r.base ∷ []) ++ value_lines l r.base_vars

abbrev pub journal_part : Listing → Told → List ℕ
journal_part l r = flat_map (entry_line l) r.entries

abbrev pub now_part : Listing → Told → List ℕ
now_part l r = line (codes "now" ∷ decimal r.current ∷ []) ++ value_lines l r.current_vars

abbrev pub parked_part : Listing → Told → List ℕ
parked_part l r = flat_map (task_line l (codes "parked")) r.parked

abbrev pub memory_part : Listing → Told → List ℕ
memory_part l r = flat_map (task_line l (codes "memory")) r.memory

abbrev pub end_part : List ℕ
end_part = line (codes "end" ∷ [])

-- what comes behind each part
abbrev pub behind_memory : Listing → Told → List ℕ
behind_memory l r = end_part

abbrev pub behind_parked : Listing → Told → List ℕ
behind_parked l r = memory_part l r ++ end_part

abbrev pub behind_now : Listing → Told → List ℕ
behind_now l r = parked_part l r ++ behind_parked l r

abbrev pub behind_journal : Listing → Told → List ℕ
behind_journal l r = now_part l r ++ behind_now l r

abbrev pub behind_base : Listing → Told → List ℕ
behind_base l r = journal_part l r ++ behind_journal l r

regroup : (a b c d e rest : List ℕ) → (a ++ b) ++ (c ++ ((d ++ e) ++ rest)) ≡ a ++ (b ++ (c ++ (d ++ (e ++ rest))))
regroup a b c d e rest = simp append_assoc

pub parts_are_text : (l : Listing) (r : Told) → base_part l r ++ behind_base l r ≡ report_text l r
parts_are_text l r =
    regroup (line (codes "base" ∷ decimal r.base ∷ [])) (value_lines l r.base_vars) (journal_part l r) (line (codes "now" ∷ decimal r.current ∷ [])) (value_lines l r.current_vars) (behind_now l r)
