-- All lines of a report: what is read is written so, and what is written so is read.
use Rattle.std.proofs.Common.{◌≡◌, ◌∙◌, ℕ, Bool, true, false, List, [], ◌∷◌, ◌++◌, length, map, None, Ok, refl, sym, ap, subst}
use Rattle.std.specs.Prelude.{codes}
use Rattle.std.specs.List.{list_all, AllByRecursion}
use Rattle.std.proofs.lemmas.Bool.{and_from}
use Rattle.text_words.proofs.Steps.{bind_ok, ok_is}
use Rattle.text_line_reader.specs.Lines.{Line, parted}
use Rattle.text_line_reader.specs.ReportRaw.{Variable, Cell, Ending, Returned, Threw, Overflow, DivideByZero, Outside, Broke, Entry, Task, Raw, variable_words, cell_words, ending_words, entry_words, task_words, number_words, IsVariable, IsCell, HasCells, IsEnding, IsEntry, IsTask, IsRaw}
use Rattle.text_line_reader.specs.Words.{is_number, expect, begins, is_bracketed}
use Rattle.text_line_reader.specs.Rows.{line_at, lines_at, all_at, end_at}
use Rattle.text_line_reader.specs.ReportReading.{numbered_in, variable_in, cell_line_in, entry_in, task_in, cells_at, values_at, raw_at}
use Rattle.text_line_reader.proofs.Parting.{lacks}
use Rattle.text_line_reader.proofs.Steps.{text_of, text_lacks, expect_takes, expect_again, begins_again, begins_not, begins_alone}
use Rattle.text_line_reader.proofs.ReportSteps.{variable_takes, variable_again, entry_takes, entry_again, entry_text, task_takes, task_again, numbered_takes, numbered_again}
use Rattle.text_line_reader.proofs.Rows.{line_of, Reads, TakesLines, stops, line_takes, line_again, lines_take, lines_again, all_take, all_again}
use Rattle.text_line_reader.proofs.Ends.{end_is, end_again}
use Rattle.text_line_reader.proofs.Numbers.{name_lacks, int_lacks, number_lacks}
use Rattle.text_line_reader.proofs.CellSteps.{cell_line_takes, cell_line_again, cell_line_bracketed, not_bracketed}

numbered_reads : (wanted : List ℕ) → lacks 32 wanted ≡ true → Reads (number_words wanted) (λ n. is_number n ≡ true) (numbered_in wanted)
numbered_reads wanted w = record { takes = numbered_takes wanted; again = λ n h. numbered_again wanted n w h }

variable_reads : Reads variable_words IsVariable variable_in
variable_reads = record { takes = variable_takes; again = variable_again }

cell_reads : Reads cell_words IsCell cell_line_in
cell_reads = record { takes = cell_line_takes; again = cell_line_again }

entry_reads : (cells : Bool) → Reads entry_words (IsEntry cells) (entry_in cells)
entry_reads cells = record { takes = entry_takes cells; again = entry_again cells }

task_reads : (wanted : List ℕ) → lacks 32 wanted ≡ true → Reads (task_words wanted) IsTask (task_in wanted)
task_reads wanted w = record { takes = task_takes wanted; again = λ t h. task_again wanted t w h }

-- the last line
abbrev end_words : Unit {0} → List (List ℕ)
end_words u = codes "end" ∷ []

end_reads : Reads end_words (λ u. Unit {0}) (expect (codes "end"))
end_reads = record { takes = λ text u e. record { same = expect_takes (codes "end") text u e; is = tt }; again = λ u h. expect_again (codes "end") }

-- the lines of a report
abbrev pub raw_lines : Raw → List Line
raw_lines r =
    line_of (number_words (codes "base")) r.base
    ∷ (map (line_of variable_words) r.base_vars
    ++ (map (line_of cell_words) r.base_cells
    ++ (map (line_of entry_words) r.entries
    ++ (line_of (number_words (codes "now")) r.current
    ∷ (map (line_of variable_words) r.current_vars
    ++ (map (line_of cell_words) r.current_cells
    ++ (map (line_of (task_words (codes "parked"))) r.parked
    ++ (map (line_of (task_words (codes "memory"))) r.memory
    ++ (line_of end_words tt ∷ [])))))))))

-- the lines are those of cells, and then the rest
record TakesCells (cells : Bool) (ls : List Line) (x : List Cell × List Line) : Type 0 where
  parts : ls ≡ map (line_of cell_words) x.0 ++ x.1
  are : HasCells cells x.0

cells_take : (cells : Bool) (ls : List Line) (x : List Cell × List Line) → cells_at cells ls ≡ Ok x → TakesCells cells ls x
unfolding cells_at
cells_take false ls x e = subst (TakesCells false ls) (ok_is ([], ls) x e) (record { parts = refl; are = refl })
cells_take true ls x e =
    let t : TakesLines cell_words IsCell ls x = all_take cell_words IsCell is_bracketed cell_line_in cell_reads ls x e in
    record { parts = t.parts; are = t.are }

-- the lines are those of so many variables, then those of cells, and then the rest
record TakesValues (cells : Bool) (n : ℕ) (ls : List Line) (x : (List Variable × List Cell) × List Line) : Type 0 where
  parts : ls ≡ map (line_of variable_words) x.0.0 ++ (map (line_of cell_words) x.0.1 ++ x.1)
  count : length x.0.0 ≡ n
  variables : AllByRecursion IsVariable x.0.0
  cells_are : HasCells cells x.0.1

values_take : (cells : Bool) (n : ℕ) (ls : List Line) (x : (List Variable × List Cell) × List Line) → values_at cells n ls ≡ Ok x → TakesValues cells n ls x
unfolding values_at
values_take cells n ls x e =
    let a = bind_ok (lines_at variable_in n ls) _ x e in
    let b = bind_ok (cells_at cells a.0.1) _ x a.2 in
    let vars = lines_take variable_words IsVariable variable_in variable_reads n ls a.0 a.1 in
    let of_cells = cells_take cells a.0.1 b.0 b.1 in
    subst (TakesValues cells n ls) (ok_is ((a.0.0, b.0.0), b.0.1) x b.2) (record {
      parts = vars.0.parts ∙ ap (λ (us : List Line). map (line_of variable_words) a.0.0 ++ us) of_cells.parts;
      count = vars.1;
      variables = vars.0.are;
      cells_are = of_cells.are;
    })

pub record TakesRaw (cells : Bool) (n : ℕ) (ls : List Line) (r : Raw) : Type 0 where
  pub parts : ls ≡ raw_lines r
  pub is : IsRaw cells n r

pub raw_takes : (cells : Bool) (n : ℕ) (ls : List Line) (r : Raw) → raw_at cells n ls ≡ Ok r → TakesRaw cells n ls r
unfolding raw_at
raw_takes cells n ls r e =
    let a = bind_ok (line_at (numbered_in (codes "base")) ls) _ r e in
    let b = bind_ok (values_at cells n a.0.1) _ r a.2 in
    let c = bind_ok (all_at (codes "entry") (entry_in cells) b.0.1) _ r b.2 in
    let d = bind_ok (line_at (numbered_in (codes "now")) c.0.1) _ r c.2 in
    let f = bind_ok (values_at cells n d.0.1) _ r d.2 in
    let g = bind_ok (all_at (codes "parked") (task_in (codes "parked")) f.0.1) _ r f.2 in
    let h = bind_ok (all_at (codes "memory") (task_in (codes "memory")) g.0.1) _ r g.2 in
    let k = bind_ok (line_at (expect (codes "end")) h.0.1) _ r h.2 in
    let m = bind_ok (end_at k.0.1) _ r k.2 in
    let base = line_takes (number_words (codes "base")) (λ t. is_number t ≡ true) (numbered_in (codes "base")) (numbered_reads (codes "base") refl) ls a.0 a.1 in
    let base_values = values_take cells n a.0.1 b.0 b.1 in
    let entries = all_take entry_words (IsEntry cells) (begins (codes "entry")) (entry_in cells) (entry_reads cells) b.0.1 c.0 c.1 in
    let current = line_takes (number_words (codes "now")) (λ t. is_number t ≡ true) (numbered_in (codes "now")) (numbered_reads (codes "now") refl) c.0.1 d.0 d.1 in
    let current_values = values_take cells n d.0.1 f.0 f.1 in
    let parked = all_take (task_words (codes "parked")) IsTask (begins (codes "parked")) (task_in (codes "parked")) (task_reads (codes "parked") refl) f.0.1 g.0 g.1 in
    let memory = all_take (task_words (codes "memory")) IsTask (begins (codes "memory")) (task_in (codes "memory")) (task_reads (codes "memory") refl) g.0.1 h.0 h.1 in
    let last = line_takes end_words (λ u. Unit {0}) (expect (codes "end")) end_reads h.0.1 k.0 k.1 in
    let made : Raw = record { base = a.0.0; base_vars = b.0.0.0; base_cells = b.0.0.1; entries = c.0.0; current = d.0.0; current_vars = f.0.0.0; current_cells = f.0.0.1; parked = g.0.0; memory = h.0.0 } in
    subst (TakesRaw cells n ls) (ok_is made r m.2) (record {
      parts = base.parts
          ∙ ap (λ (us : List Line). line_of (number_words (codes "base")) a.0.0 ∷ us) (base_values.parts
          ∙ ap (λ (us : List Line). map (line_of variable_words) b.0.0.0 ++ (map (line_of cell_words) b.0.0.1 ++ us)) (entries.parts
          ∙ ap (λ (us : List Line). map (line_of entry_words) c.0.0 ++ us) (current.parts
          ∙ ap (λ (us : List Line). line_of (number_words (codes "now")) d.0.0 ∷ us) (current_values.parts
          ∙ ap (λ (us : List Line). map (line_of variable_words) f.0.0.0 ++ (map (line_of cell_words) f.0.0.1 ++ us)) (parked.parts
          ∙ ap (λ (us : List Line). map (line_of (task_words (codes "parked"))) g.0.0 ++ us) (memory.parts
          ∙ ap (λ (us : List Line). map (line_of (task_words (codes "memory"))) h.0.0 ++ us) (last.parts
          ∙ ap (λ (us : List Line). line_of end_words tt ∷ us) (end_is k.0.1 m.0 m.1))))))));
      is = record {
        base = base.is;
        base_count = base_values.count;
        base_vars = base_values.variables;
        base_cells = base_values.cells_are;
        entries = entries.are;
        current = current.is;
        current_count = current_values.count;
        current_vars = current_values.variables;
        current_cells = current_values.cells_are;
        parked = parked.are;
        memory = memory.are;
      };
    })

-- ---- again

last_alone : parted 32 (codes "end") ≡ None
unfolding parted
last_alone = refl

memory_stops : (memory : List Task) → stops (begins (codes "parked")) (map (line_of (task_words (codes "memory"))) memory ++ (line_of end_words tt ∷ []))
memory_stops [] = begins_alone (codes "parked") (codes "end") last_alone
memory_stops (t ∷ ts) = begins_not (codes "parked") (codes "memory") (t.task ++ 32 ∷ t.name) refl refl

-- ---- lines of cells, and the lines behind them

ending_lacks : (cells : Bool) (x : Ending) → IsEnding cells x → list_all (lacks 91) (ending_words x) ≡ true
ending_lacks cells (Returned value) h = and_from _ _ refl (and_from _ _ (int_lacks 91 refl value h) refl)
ending_lacks cells (Threw value) h = and_from _ _ refl (and_from _ _ (int_lacks 91 refl value h) refl)
ending_lacks cells Overflow h = refl
ending_lacks cells DivideByZero h = refl
ending_lacks cells Outside h = refl
ending_lacks cells (Broke name) h = and_from _ _ refl (and_from _ _ (name_lacks 91 refl name h) refl)

entry_lacks : (cells : Bool) (e : Entry) → IsEntry cells e → list_all (lacks 91) (entry_words e) ≡ true
entry_lacks cells e h =
    and_from _ _ refl (and_from _ _ (number_lacks 91 refl e.number h.number) (and_from _ _ (number_lacks 91 refl e.task h.task)
    (and_from _ _ (name_lacks 91 refl e.name h.name) (ending_lacks cells e.ending h.ending))))

task_lacks : (word : List ℕ) → lacks 91 word ≡ true → (t : Task) → IsTask t → list_all (lacks 91) (task_words word t) ≡ true
task_lacks word w t h = and_from _ _ w (and_from _ _ (number_lacks 91 refl t.task h.task) (and_from _ _ (name_lacks 91 refl t.name h.name) refl))

number_stops : (number : List ℕ) (rest : List Line) → is_number number ≡ true → stops is_bracketed (line_of (number_words (codes "now")) number ∷ rest)
number_stops number rest h = not_bracketed _ (text_lacks 91 refl (number_words (codes "now") number) (and_from _ _ refl (and_from _ _ (number_lacks 91 refl number h) refl)))

entries_stop : (cells : Bool) (es : List Entry) (number : List ℕ) (rest : List Line) → AllByRecursion (IsEntry cells) es → is_number number ≡ true
    → stops is_bracketed (map (line_of entry_words) es ++ (line_of (number_words (codes "now")) number ∷ rest))
entries_stop cells [] number rest h k = number_stops number rest k
entries_stop cells (e ∷ es) number rest h k = not_bracketed _ (text_lacks 91 refl (entry_words e) (entry_lacks cells e h.0))

last_stops : stops is_bracketed (line_of end_words tt ∷ [])
last_stops = not_bracketed (codes "end") refl

tasks_stop : (word : List ℕ) → lacks 91 word ≡ true → (ts : List Task) (rest : List Line) → AllByRecursion IsTask ts → stops is_bracketed rest
    → stops is_bracketed (map (line_of (task_words word)) ts ++ rest)
tasks_stop word w [] rest h k = k
tasks_stop word w (t ∷ ts) rest h k = not_bracketed _ (text_lacks 91 refl (task_words word t) (task_lacks word w t h.0))

so_written : (cells : Bool) (cs : List Cell) (rest : List Line) → HasCells cells cs → stops is_bracketed rest → cells_at cells (map (line_of cell_words) cs ++ rest) ≡ Ok (cs, rest)
unfolding cells_at
so_written false cs rest h stop = subst (λ (xs : List Cell). cells_at false (map (line_of cell_words) xs ++ rest) ≡ Ok (xs, rest)) (sym h) refl
so_written true cs rest h stop = all_again cell_words IsCell is_bracketed cell_line_in cell_reads cell_line_bracketed cs rest h stop

so_many : (n : ℕ) (vars : List Variable) (rest : List Line) → length vars ≡ n → AllByRecursion IsVariable vars → lines_at variable_in n (map (line_of variable_words) vars ++ rest) ≡ Ok (vars, rest)
so_many n vars rest count h = subst (λ (m : ℕ). lines_at variable_in m (map (line_of variable_words) vars ++ rest) ≡ Ok (vars, rest)) count (lines_again variable_words IsVariable variable_in variable_reads vars rest h)

values_again : (cells : Bool) (n : ℕ) (vars : List Variable) (cs : List Cell) (rest : List Line) → length vars ≡ n → AllByRecursion IsVariable vars → HasCells cells cs → stops is_bracketed rest
    → values_at cells n (map (line_of variable_words) vars ++ (map (line_of cell_words) cs ++ rest)) ≡ Ok ((vars, cs), rest)
unfolding values_at
values_again cells n vars cs rest count h k stop = rw (so_many n vars (map (line_of cell_words) cs ++ rest) count h, so_written cells cs rest k stop) refl

entry_begins : (e : Entry) → begins (codes "entry") (text_of (entry_words e)) ≡ true
entry_begins e = ap (begins (codes "entry")) (entry_text e) ∙ begins_again (codes "entry") _ refl

pub raw_again : (cells : Bool) (n : ℕ) (r : Raw) → IsRaw cells n r → raw_at cells n (raw_lines r) ≡ Ok r
unfolding raw_at
raw_again cells n r is =
    let l7 : List Line = line_of end_words tt ∷ [] in
    let l6 : List Line = map (line_of (task_words (codes "memory"))) r.memory ++ l7 in
    let l5 : List Line = map (line_of (task_words (codes "parked"))) r.parked ++ l6 in
    let l45 : List Line = map (line_of cell_words) r.current_cells ++ l5 in
    let l4 : List Line = map (line_of variable_words) r.current_vars ++ l45 in
    let l3 : List Line = line_of (number_words (codes "now")) r.current ∷ l4 in
    let l2 : List Line = map (line_of entry_words) r.entries ++ l3 in
    let l12 : List Line = map (line_of cell_words) r.base_cells ++ l2 in
    let l1 : List Line = map (line_of variable_words) r.base_vars ++ l12 in
    rw (
      line_again (number_words (codes "base")) (λ t. is_number t ≡ true) (numbered_in (codes "base")) (numbered_reads (codes "base") refl) r.base l1 is.base,
      values_again cells n r.base_vars r.base_cells l2 is.base_count is.base_vars is.base_cells (entries_stop cells r.entries r.current l4 is.entries is.current),
      all_again entry_words (IsEntry cells) (begins (codes "entry")) (entry_in cells) (entry_reads cells) (λ e h. entry_begins e) r.entries l3 is.entries (begins_not (codes "entry") (codes "now") r.current refl refl),
      line_again (number_words (codes "now")) (λ t. is_number t ≡ true) (numbered_in (codes "now")) (numbered_reads (codes "now") refl) r.current l4 is.current,
      values_again cells n r.current_vars r.current_cells l5 is.current_count is.current_vars is.current_cells (tasks_stop (codes "parked") refl r.parked l6 is.parked (tasks_stop (codes "memory") refl r.memory l7 is.memory last_stops)),
      all_again (task_words (codes "parked")) IsTask (begins (codes "parked")) (task_in (codes "parked")) (task_reads (codes "parked") refl) (λ t h. begins_again (codes "parked") (t.task ++ 32 ∷ t.name) refl) r.parked l6 is.parked (memory_stops r.memory),
      all_again (task_words (codes "memory")) IsTask (begins (codes "memory")) (task_in (codes "memory")) (task_reads (codes "memory") refl) (λ t h. begins_again (codes "memory") (t.task ++ 32 ∷ t.name) refl) r.memory l7 is.memory (begins_alone (codes "memory") (codes "end") last_alone),
      line_again end_words (λ u. Unit {0}) (expect (codes "end")) end_reads tt [] tt,
      end_again,
    ) refl
