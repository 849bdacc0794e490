-- A report as it is written: its words, before any name or number is judged.
use Rattle.std.specs.Prelude.{◌≡◌, ℕ, Bool, true, false, List, [], ◌∷◌, ◌++◌, length, codes}
use Rattle.std.specs.List.{flat_map, AllByRecursion}
use Rattle.txn_programs.specs.Names.{is_name}
use Rattle.text_words.specs.Bytes.{is_int}
use Rattle.text_words.specs.Words.{line}
use Rattle.text_report_printer.specs.ReportText.{cell_text}
use Rattle.text_line_reader.specs.Words.{is_number}

-- NAME VALUE VERSION
pub record Variable : Type 0 where
  pub name : List ℕ
  pub value : List ℕ
  pub version : List ℕ

-- NAME[INDEX] VALUE VERSION
pub record Cell : Type 0 where
  pub table : List ℕ
  pub index : List ℕ
  pub value : List ℕ
  pub version : List ℕ

-- how an entry's transaction ended
pub data Ending : Type 0 where
  Returned : (value : List ℕ) → Ending
  Threw : (value : List ℕ) → Ending
  Overflow : Ending
  DivideByZero : Ending
  Outside : Ending
  Broke : (name : List ℕ) → Ending

-- NUMBER TASK NAME and how it ended
pub record Entry : Type 0 where
  pub number : List ℕ
  pub task : List ℕ
  pub name : List ℕ
  pub ending : Ending

-- TASK NAME
pub record Task : Type 0 where
  pub task : List ℕ
  pub name : List ℕ

pub record Raw : Type 0 where
  pub base : List ℕ
  pub base_vars : List Variable
  pub base_cells : List Cell
  pub entries : List Entry
  pub current : List ℕ
  pub current_vars : List Variable
  pub current_cells : List Cell
  pub parked : List Task
  pub memory : List Task

-- ---- the words of each line

abbrev pub variable_words : Variable → List (List ℕ)
variable_words v = v.name ∷ v.value ∷ v.version ∷ []

abbrev pub cell_words : Cell → List (List ℕ)
cell_words c = cell_text c.table c.index ∷ c.value ∷ c.version ∷ []

abbrev pub ending_words : Ending → List (List ℕ)
ending_words (Returned value) = codes "returned" ∷ value ∷ []
ending_words (Threw value) = codes "threw" ∷ value ∷ []
ending_words Overflow = codes "overflow" ∷ []
ending_words DivideByZero = codes "zerodiv" ∷ []
ending_words Outside = codes "outside" ∷ []
ending_words (Broke name) = codes "broke" ∷ name ∷ []

abbrev pub entry_words : Entry → List (List ℕ)
entry_words e = codes "entry" ∷ e.number ∷ e.task ∷ e.name ∷ ending_words e.ending

abbrev pub task_words : List ℕ → Task → List (List ℕ)
task_words word t = word ∷ t.task ∷ t.name ∷ []

-- a word and a number
abbrev pub number_words : List ℕ → List ℕ → List (List ℕ)
number_words word number = word ∷ number ∷ []

abbrev pub raw_text : Raw → List ℕ
raw_text r =
    line (number_words (codes "base") r.base)
    ++ (flat_map (λ v. line (variable_words v)) r.base_vars
    ++ (flat_map (λ c. line (cell_words c)) r.base_cells
    ++ (flat_map (λ e. line (entry_words e)) r.entries
    ++ (line (number_words (codes "now") r.current)
    ++ (flat_map (λ v. line (variable_words v)) r.current_vars
    ++ (flat_map (λ c. line (cell_words c)) r.current_cells
    ++ (flat_map (λ t. line (task_words (codes "parked") t)) r.parked
    ++ (flat_map (λ t. line (task_words (codes "memory") t)) r.memory
    ++ line (codes "end" ∷ [])))))))))

-- ---- names and integers

pub record IsVariable (v : Variable) : Type 0 where
  pub name : is_name v.name ≡ true
  pub value : is_int v.value ≡ true
  pub version : is_number v.version ≡ true

pub record IsCell (c : Cell) : Type 0 where
  pub table : is_name c.table ≡ true
  pub index : is_number c.index ≡ true
  pub value : is_int c.value ≡ true
  pub version : is_number c.version ≡ true

-- there are lines of cells only where cells can be told
abbrev pub HasCells : Bool → List Cell → Type 0
HasCells false cs = cs ≡ []
HasCells true cs = AllByRecursion IsCell cs

-- it is outside only where cells can be told
abbrev pub IsEnding : Bool → Ending → Type 0
IsEnding cells (Returned value) = is_int value ≡ true
IsEnding cells (Threw value) = is_int value ≡ true
IsEnding cells Overflow = Unit {0}
IsEnding cells DivideByZero = Unit {0}
IsEnding cells Outside = cells ≡ true
IsEnding cells (Broke name) = is_name name ≡ true

pub record IsEntry (cells : Bool) (e : Entry) : Type 0 where
  pub number : is_number e.number ≡ true
  pub task : is_number e.task ≡ true
  pub name : is_name e.name ≡ true
  pub ending : IsEnding cells e.ending

pub record IsTask (t : Task) : Type 0 where
  pub task : is_number t.task ≡ true
  pub name : is_name t.name ≡ true

-- each word is of its kind, and there is a line for each of so many variables
pub record IsRaw (cells : Bool) (variables : ℕ) (r : Raw) : Type 0 where
  pub base : is_number r.base ≡ true
  pub base_count : length r.base_vars ≡ variables
  pub base_vars : AllByRecursion IsVariable r.base_vars
  pub base_cells : HasCells cells r.base_cells
  pub entries : AllByRecursion (IsEntry cells) r.entries
  pub current : is_number r.current ≡ true
  pub current_count : length r.current_vars ≡ variables
  pub current_vars : AllByRecursion IsVariable r.current_vars
  pub current_cells : HasCells cells r.current_cells
  pub parked : AllByRecursion IsTask r.parked
  pub memory : AllByRecursion IsTask r.memory
