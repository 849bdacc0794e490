-- A report that is written has allowed bytes alone.
use Rattle.std.proofs.Common.{◌≡◌, ℕ, Bool, true, List, [], ◌∷◌, ◌++◌, length, refl, sym, subst}
use Rattle.std.specs.Prelude.{codes}
use Rattle.std.specs.List.{list_all, flat_map, AllByRecursion}
use Rattle.std.proofs.lemmas.Bool.{and_from}
use Rattle.text_words.specs.Bytes.{is_allowed}
use Rattle.text_words.specs.Words.{line}
use Rattle.text_line_reader.specs.ReportRaw.{Variable, Cell, Ending, Returned, Threw, Overflow, DivideByZero, Outside, Broke, Entry, Task, Raw, variable_words, cell_words, ending_words, entry_words, task_words, number_words, raw_text, IsVariable, IsCell, HasCells, IsEnding, IsEntry, IsTask, IsRaw}
use Rattle.text_line_reader.specs.Words.{is_number}
use Rattle.txn_programs.specs.Listing.{Listing}
use Rattle.text_line_reader.specs.Reports.{IsWritten, knows_cells}
use Rattle.text_line_reader.proofs.CellSteps.{are_cells}
use Rattle.text_line_reader.proofs.Allowed.{allowed, name_allowed, int_allowed, number_allowed, two, words_allowed, line_allowed, lines_allowed}

variable_allowed : (v : Variable) → IsVariable v → words_allowed (variable_words v) ≡ true
variable_allowed v h = and_from _ _ (name_allowed v.name h.name) (and_from _ _ (int_allowed v.value h.value) (and_from _ _ (number_allowed v.version h.version) refl))

cell_allowed : (c : Cell) → IsCell c → words_allowed (cell_words c) ≡ true
cell_allowed c h =
    and_from _ _ (two c.table (91 ∷ (c.index ++ (93 ∷ []))) (name_allowed c.table h.table) (and_from _ _ refl (two c.index (93 ∷ []) (number_allowed c.index h.index) refl)))
    (and_from _ _ (int_allowed c.value h.value) (and_from _ _ (number_allowed c.version h.version) refl))

ending_allowed : (cells : Bool) (x : Ending) → IsEnding cells x → words_allowed (ending_words x) ≡ true
ending_allowed cells (Returned value) h = and_from _ _ refl (and_from _ _ (int_allowed value h) refl)
ending_allowed cells (Threw value) h = and_from _ _ refl (and_from _ _ (int_allowed value h) refl)
ending_allowed cells Overflow h = refl
ending_allowed cells DivideByZero h = refl
ending_allowed cells Outside h = refl
ending_allowed cells (Broke name) h = and_from _ _ refl (and_from _ _ (name_allowed name h) refl)

entry_allowed : (cells : Bool) (e : Entry) → IsEntry cells e → words_allowed (entry_words e) ≡ true
entry_allowed cells e h =
    and_from _ _ refl (and_from _ _ (number_allowed e.number h.number) (and_from _ _ (number_allowed e.task h.task) (and_from _ _ (name_allowed e.name h.name) (ending_allowed cells e.ending h.ending))))

task_allowed : (word : List ℕ) → allowed word ≡ true → (t : Task) → IsTask t → words_allowed (task_words word t) ≡ true
task_allowed word w t h = and_from _ _ w (and_from _ _ (number_allowed t.task h.task) (and_from _ _ (name_allowed t.name h.name) refl))

numbered_allowed : (word number : List ℕ) → allowed word ≡ true → is_number number ≡ true → allowed (line (number_words word number)) ≡ true
numbered_allowed word number w h = line_allowed (word ∷ number ∷ []) (and_from _ _ w (and_from _ _ (number_allowed number h) refl))

-- bytes that are allowed
record IsAllowed (bytes : List ℕ) : Type 0 where
  by : allowed bytes ≡ true

join : {a b : List ℕ} → IsAllowed a → IsAllowed b → IsAllowed (a ++ b)
join {a} {b} p q = record { by = two a b p.by q.by }

text_allowed : (cells : Bool) (n : ℕ) (r : Raw) → IsRaw cells n r → IsAllowed (raw_text r)
text_allowed cells n r is =
    let number = λ (word digits : List ℕ) (w : allowed word ≡ true) (h : is_number digits ≡ true). let a : IsAllowed (line (number_words word digits)) = record { by = numbered_allowed word digits w h } in a in
    let variables = λ (vs : List Variable) (h : AllByRecursion IsVariable vs). let a : IsAllowed (flat_map (λ v. line (variable_words v)) vs) = record { by = lines_allowed variable_words IsVariable variable_allowed vs h } in a in
    let of_cells = λ (cs : List Cell) (h : HasCells cells cs). let a : IsAllowed (flat_map (λ c. line (cell_words c)) cs) = record { by = lines_allowed cell_words IsCell cell_allowed cs (are_cells cells cs h) } in a in
    let entries : IsAllowed (flat_map (λ e. line (entry_words e)) r.entries) = record { by = lines_allowed entry_words (IsEntry cells) (entry_allowed cells) r.entries is.entries } in
    let tasks = λ (word : List ℕ) (w : allowed word ≡ true) (ts : List Task) (h : AllByRecursion IsTask ts). let a : IsAllowed (flat_map (λ t. line (task_words word t)) ts) = record { by = lines_allowed (task_words word) IsTask (task_allowed word w) ts h } in a in
    let last : IsAllowed (line (codes "end" ∷ [])) = record { by = line_allowed (codes "end" ∷ []) refl } in
    join (number (codes "base") r.base refl is.base) (join (variables r.base_vars is.base_vars) (join (of_cells r.base_cells is.base_cells) (join entries (join (number (codes "now") r.current refl is.current)
    (join (variables r.current_vars is.current_vars) (join (of_cells r.current_cells is.current_cells)
    (join (tasks (codes "parked") refl r.parked is.parked) (join (tasks (codes "memory") refl r.memory is.memory) last))))))))

pub raw_allowed : (l : Listing) (bytes : List ℕ) (r : Raw) → IsWritten l bytes r → list_all is_allowed bytes ≡ true
raw_allowed l bytes r w = subst (λ (bs : List ℕ). allowed bs ≡ true) (sym w.text) (text_allowed (knows_cells l) (length l.names) r w.words).by
