-- The line of each flaw, at its place.
use Rattle.std.proofs.Common.{◌≡◌, ◌∙◌, ℕ, ℤ, zero, suc, ◌+◌, ◌<◌, ◌≤◌, List, [], ◌∷◌, ◌++◌, length, length-append, map, Some, refl, sym, ap, subst, arith, append_assoc, inl, inr}
use Rattle.std.proofs.lemmas.Bool.Decides.{leb_tells}
use Rattle.std.specs.Prelude.{codes}
use Rattle.std.specs.List.{slice_get}
use Rattle.std.specs.Fmt.{decimal, signed_decimal}
use Rattle.std.proofs.lemmas.Option.{same_Some}
use Rattle.txn_programs.specs.declared.ast.TaskId.{TaskId}
use Rattle.txn_programs.specs.declared.ast.TxId.{TxId}
use Rattle.txn_programs.specs.declared.report.Entry as entry
use Rattle.txn_programs.specs.Listing.{Listing, program_at, values}
use Rattle.txn_programs.specs.LawfulReport.{CellsBegin}
use Rattle.txn_programs.specs.Told.{Told}
use Rattle.text_words.specs.Words.{line as line_of}
use Rattle.text_report_printer.specs.Names.{value_name}
use Rattle.text_report_printer.specs.ReportText.{outcome_text}
use Rattle.text_line_reader.specs.Lines.{Line, Whole}
use Rattle.text_line_reader.proofs.ReportSteps.{text_of}
use Rattle.explain_reports.specs.declared.flaw.TaskLine.{TaskLine}
use Rattle.explain_reports.specs.declared.flaw.TaskLine.TheVariants as line
use Rattle.explain_reports.specs.declared.flaw.Flaw.{Flaw}
use Rattle.explain_reports.specs.declared.flaw.Flaw.TheVariants.{Untrue, Opening, Late, Entry, Number, Present, NotOwn, Again, Falls, Count, Ends}
use Rattle.explain_reports.specs.Flaws.{IsFlaw, IsThere}
use Rattle.explain_reports.specs.Parts.{Opens, IsRecent}
use Rattle.explain_reports.specs.Rows.{lines_before, lines_of, place_of_base, place_of_entry, place_behind_now, place_of_present, place_of_parked, place_of_memory, place_of_end, place_of_task, place_of_flaw, IsValueRow, HasLine, IsPresentRow, IsEntryRow, IsTaskRow, IsRowOfTask, IsRow}
use Rattle.explain_reports.proofs.Lined.{base_row, now_row, end_row, variable_row, entry_row, task_row, value_rows, entry_rows, task_rows, report_rows}
use Rattle.explain_reports.proofs.Valued.{in_front, behind, some_at, value_at, values_sized, before_end, begun_value, AreWhole, whole_behind, whole_line, whole_values}

-- ---- places in lists

behind_one : {A : Type 0} (x y : A) (xs : List A) (k : ℕ) → slice_get xs k ≡ Some y → slice_get (x ∷ xs) (1 + k) ≡ Some y
behind_one x y xs k e = let next : 1 + k ≡ suc k = omega arith in ap (slice_get (x ∷ xs)) next ∙ e

mapped_at : {A B : Type 0} (f : A → B) (xs : List A) (k : ℕ) (x : A) → slice_get xs k ≡ Some x → slice_get (map f xs) k ≡ Some (f x)
mapped_at f [] k x e = absurd (cc)
mapped_at f (y ∷ xs) zero x e = ap (λ z. Some (f z)) (same_Some y x e)
mapped_at f (y ∷ xs) (suc k) x e = mapped_at f xs k x e

sized_map : {A B : Type 0} (f : A → B) (xs : List A) → length (map f xs) ≡ length xs
sized_map f [] = refl
sized_map f (x ∷ xs) = ap suc (sized_map f xs)

-- ---- the parts of a report's lines, from the last to the first

abbrev last_lines : List Line
last_lines = Whole end_row ∷ []

abbrev memory_lines : Listing → Told → List Line
memory_lines l r = task_rows l (codes "memory") r.memory ++ last_lines

abbrev parked_lines : Listing → Told → List Line
parked_lines l r = task_rows l (codes "parked") r.parked ++ memory_lines l r

abbrev present_lines : Listing → Told → List Line
present_lines l r = value_rows l r.current_vars ++ parked_lines l r

abbrev now_lines : Listing → Told → List Line
now_lines l r = Whole (now_row r) ∷ present_lines l r

abbrev entry_lines : Listing → Told → List Line
entry_lines l r = entry_rows l r.entries ++ now_lines l r

-- there are as many values as there may be, and a cell of version 0 begins as it is
pub record Sized (l : Listing) (r : Told) : Type 0 where
  pub valued : values l ≡ length l.initial
  pub base : length r.base_vars ≡ values l
  pub present : length r.current_vars ≡ values l
  pub begun : CellsBegin l r.base_vars

in_entries : (l : Listing) (r : Told) (k : ℕ) (x : Line) → Sized l r → slice_get (entry_lines l r) k ≡ Some x → slice_get (report_rows l r) (place_of_entry l r k) ≡ Some x
in_entries l r k x s e =
    behind_one (Whole (base_row r)) x (value_rows l r.base_vars ++ entry_lines l r) (lines_of l r.base_vars + k)
    (behind (lines_of l r.base_vars) (value_rows l r.base_vars) (entry_lines l r) k x (values_sized l r.base_vars s.base) e)

in_now : (l : Listing) (r : Told) (k : ℕ) (x : Line) → Sized l r → slice_get (now_lines l r) k ≡ Some x → slice_get (report_rows l r) (1 + (lines_of l r.base_vars + (length r.entries + k))) ≡ Some x
in_now l r k x s e = in_entries l r (length r.entries + k) x s (behind (length r.entries) (entry_rows l r.entries) (now_lines l r) k x (sized_map (λ (e : entry.Entry). Whole (entry_row l e)) r.entries) e)

in_present : (l : Listing) (r : Told) (k : ℕ) (x : Line) → Sized l r → slice_get (present_lines l r) k ≡ Some x → slice_get (report_rows l r) (place_behind_now l r k) ≡ Some x
in_present l r k x s e = in_now l r (1 + k) x s (behind_one (Whole (now_row r)) x (present_lines l r) k e)

in_parked : (l : Listing) (r : Told) (k : ℕ) (x : Line) → Sized l r → slice_get (parked_lines l r) k ≡ Some x → slice_get (report_rows l r) (place_of_parked l r k) ≡ Some x
in_parked l r k x s e = in_present l r (lines_of l r.current_vars + k) x s (behind (lines_of l r.current_vars) (value_rows l r.current_vars) (parked_lines l r) k x (values_sized l r.current_vars s.present) e)

in_memory : (l : Listing) (r : Told) (k : ℕ) (x : Line) → Sized l r → slice_get (memory_lines l r) k ≡ Some x → slice_get (report_rows l r) (place_of_memory l r k) ≡ Some x
in_memory l r k x s e = in_parked l r (length r.parked + k) x s (behind (length r.parked) (task_rows l (codes "parked") r.parked) (memory_lines l r) k x (sized_map (λ (t : TaskId × TxId). Whole (task_row l (codes "parked") t)) r.parked) e)

in_last : (l : Listing) (r : Told) → Sized l r → slice_get (report_rows l r) (place_of_end l r) ≡ Some (Whole end_row)
in_last l r s =
    let none : length r.memory + 0 ≡ length r.memory = omega arith in
    subst (λ n. slice_get (report_rows l r) (place_of_memory l r n) ≡ Some (Whole end_row)) none
    (in_memory l r (length r.memory + 0) (Whole end_row) s (behind (length r.memory) (task_rows l (codes "memory") r.memory) last_lines 0 (Whole end_row) (sized_map (λ (t : TaskId × TxId). Whole (task_row l (codes "memory") t)) r.memory) refl))

-- ---- a line's text and its newline

line_text : (word : List ℕ) (words rest : List (List ℕ)) → line_of (word ∷ words) ≡ text_of (word ∷ words) ++ 10 ∷ []
line_text word [] rest = refl
line_text word (next ∷ words) rest =
    ap (λ (t : List ℕ). word ++ 32 ∷ t) (line_text next words rest) ∙ sym (append_assoc word (32 ∷ text_of (next ∷ words)) (10 ∷ []))

-- the line at a place, of this kind
pub record RowAt (l : Listing) (r : Told) (place : ℕ) (Is : List ℕ → Type 0) : Type 0 where
  pub text : List ℕ
  pub stands : slice_get (report_rows l r) place ≡ Some (Whole text)
  pub row : Is (text ++ 10 ∷ [])

base_value : (l : Listing) (r : Told) (i : ℕ) (v : ℤ × ℕ) → Sized l r → slice_get r.base_vars i ≡ Some v → HasLine l i v → RowAt l r (place_of_base l r i) (IsValueRow l r.base_vars i)
base_value l r i v s e h =
    let name = value_name l i in
    let row : Line = Whole (variable_row name v) in
    record {
      text = variable_row name v;
      stands = behind_one (Whole (base_row r)) row (value_rows l r.base_vars ++ entry_lines l r) (lines_before l r.base_vars i)
          (in_front (value_rows l r.base_vars) (entry_lines l r) (lines_before l r.base_vars i) row (value_at l r.base_vars i v s.base e h));
      row = (v, e, sym (line_text name (signed_decimal v.0 ∷ decimal v.1 ∷ []) []));
    }

-- a value that begins otherwise has a line
opening_line : (l : Listing) (r : Told) (i : ℕ) (v : ℤ × ℕ) → Sized l r → slice_get r.base_vars i ≡ Some v → (Opens l.initial i v → ⊥) → HasLine l i v
opening_line l r i v s e wrong =
    elim (leb_tells (suc i) (length l.names)) [
      | inl d ↦ inl d.1
      | inr d ↦ inr (λ none. wrong (begun_value l r.base_vars i v (s.base ∙ s.valued) s.begun (omega (arith, d.1)) e none, none))
    ]

late_line : (l : Listing) (r : Told) (i : ℕ) (v : ℤ × ℕ) → (IsRecent r.base i v → ⊥) → HasLine l i v
late_line l r i v wrong = inr (λ none. wrong (omega (arith, none)))

-- the lines from the present values on
whole_tasks : (l : Listing) (word : List ℕ) (ts : List (TaskId × TxId)) → AreWhole (task_rows l word ts)
whole_tasks l word [] = tt
whole_tasks l word (t ∷ ts) = whole_tasks l word ts

whole_present : (l : Listing) (r : Told) → AreWhole (present_lines l r)
whole_present l r =
    whole_behind (value_rows l r.current_vars) (parked_lines l r) (whole_values l r.current_vars)
    (whole_behind (task_rows l (codes "parked") r.parked) (memory_lines l r) (whole_tasks l (codes "parked") r.parked)
    (whole_behind (task_rows l (codes "memory") r.memory) last_lines (whole_tasks l (codes "memory") r.memory) tt))

-- there is a line behind those of the values
one_behind : (l : Listing) (r : Told) (k : ℕ) → Sized l r → k ≤ lines_of l r.current_vars → k < length (present_lines l r)
one_behind l r k s h =
    omega (
      arith,
      h,
      values_sized l r.current_vars s.present,
      length-append (value_rows l r.current_vars) (parked_lines l r),
      length-append (task_rows l (codes "parked") r.parked) (memory_lines l r),
      length-append (task_rows l (codes "memory") r.memory) last_lines,
    )

whole_text : (a b : List ℕ) → Whole a ≡ Whole b → a ≡ b
whole_text a b e = cc

present_value : (l : Listing) (r : Told) (i : ℕ) (v : ℤ × ℕ) → Sized l r → slice_get r.current_vars i ≡ Some v → RowAt l r (place_of_present l r i) (IsPresentRow l r.current_vars i)
present_value l r i v s e =
    let k = lines_before l r.current_vars i in
    let x = some_at (present_lines l r) k (one_behind l r k s (before_end l r.current_vars i s.present)) in
    let whole = whole_line (present_lines l r) k x.0 (whole_present l r) x.1 in
    let name = value_name l i in
    let row : Line = Whole (variable_row name v) in
    record {
      text = whole.0;
      stands = in_present l r k (Whole whole.0) s (x.1 ∙ ap Some whole.1);
      row = (
        v,
        e,
        λ h.
            let own = in_front (value_rows l r.current_vars) (parked_lines l r) k row (value_at l r.current_vars i v s.present e h) in
            let same : Whole whole.0 ≡ row = same_Some (Whole whole.0) row (sym (ap Some whole.1) ∙ sym x.1 ∙ own) in
            ap (λ (t : List ℕ). t ++ 10 ∷ []) (whole_text whole.0 (variable_row name v) same) ∙ sym (line_text name (signed_decimal v.0 ∷ decimal v.1 ∷ []) []),
      );
    }

entry_at : (l : Listing) (r : Told) (i : ℕ) (e : entry.Entry) → Sized l r → slice_get r.entries i ≡ Some e → RowAt l r (place_of_entry l r i) (IsEntryRow l r.entries i)
entry_at l r i e s at =
    record {
      text = entry_row l e;
      stands = in_entries l r i (Whole (entry_row l e)) s
          (in_front (entry_rows l r.entries) (now_lines l r) i (Whole (entry_row l e)) (mapped_at (λ (x : entry.Entry). Whole (entry_row l x)) r.entries i e at));
      row = (e, at, sym (line_text (codes "entry") (decimal e.number ∷ decimal e.task.0 ∷ (program_at l e.tx).name ∷ outcome_text l e.outcome ∷ []) []));
    }

parked_at : (l : Listing) (r : Told) (i : ℕ) (p : TaskId × TxId) → Sized l r → slice_get r.parked i ≡ Some p → RowAt l r (place_of_parked l r i) (IsTaskRow l (codes "parked") r.parked i)
parked_at l r i p s at =
    record {
      text = task_row l (codes "parked") p;
      stands = in_parked l r i (Whole (task_row l (codes "parked") p)) s
          (in_front (task_rows l (codes "parked") r.parked) (memory_lines l r) i (Whole (task_row l (codes "parked") p)) (mapped_at (λ (x : TaskId × TxId). Whole (task_row l (codes "parked") x)) r.parked i p at));
      row = (p, at, sym (line_text (codes "parked") (decimal p.0.0 ∷ (program_at l p.1).name ∷ []) []));
    }

memory_at : (l : Listing) (r : Told) (i : ℕ) (p : TaskId × TxId) → Sized l r → slice_get r.memory i ≡ Some p → RowAt l r (place_of_memory l r i) (IsTaskRow l (codes "memory") r.memory i)
memory_at l r i p s at =
    record {
      text = task_row l (codes "memory") p;
      stands = in_memory l r i (Whole (task_row l (codes "memory") p)) s
          (in_front (task_rows l (codes "memory") r.memory) last_lines i (Whole (task_row l (codes "memory") p)) (mapped_at (λ (x : TaskId × TxId). Whole (task_row l (codes "memory") x)) r.memory i p at));
      row = (p, at, sym (line_text (codes "memory") (decimal p.0.0 ∷ (program_at l p.1).name ∷ []) []));
    }

-- ---- of each flaw

task_at : (l : Listing) (r : Told) (at : TaskLine) → Sized l r → IsThere r at → RowAt l r (place_of_task l r at) (IsRowOfTask l r at)
task_at l r (line.Entry i) s lt = let x = some_at r.entries i lt in entry_at l r i x.0 s x.1
task_at l r (line.Parked i) s lt = let x = some_at r.parked i lt in parked_at l r i x.0 s x.1
task_at l r (line.Memory i) s lt = let x = some_at r.memory i lt in memory_at l r i x.0 s x.1

falls_at : (l : Listing) (r : Told) (at : TaskLine) → Sized l r → IsFlaw l r (Falls at) → RowAt l r (place_of_task l r at) (IsRowOfTask l r at)
falls_at l r (line.Entry i) s f = absurd f.2
falls_at l r (line.Parked i) s f = parked_at l r i f.2.item s f.2.stands
falls_at l r (line.Memory i) s f = memory_at l r i f.2.1.item s f.2.1.stands

pub row_at : (l : Listing) (r : Told) (flaw : Flaw) → Sized l r → IsFlaw l r flaw → RowAt l r (place_of_flaw l r flaw) (IsRow l r flaw)
row_at l r (Untrue id) s f = record { text = base_row r; stands = refl; row = sym (line_text (codes "base") (decimal r.base ∷ []) []) }
row_at l r (Opening i value) s f = base_value l r i f.1.item s f.1.stands (opening_line l r i f.1.item s f.1.stands f.1.wrong)
row_at l r (Late i) s f = base_value l r i f.2.item s f.2.stands (late_line l r i f.2.item f.2.wrong)
row_at l r (Entry i due) s f = entry_at l r i f.0.item s f.0.stands
row_at l r (Number n) s f =
    record {
      text = now_row r;
      stands =
          let none : length r.entries + 0 ≡ length r.entries = omega arith in
          subst (λ n. slice_get (report_rows l r) (place_of_entry l r n) ≡ Some (Whole (now_row r))) none (in_now l r 0 (Whole (now_row r)) s refl);
      row = sym (line_text (codes "now") (decimal r.current ∷ []) []);
    }
row_at l r (Present i value version) s f = present_value l r i f.1.item s f.1.stands
row_at l r (NotOwn at tx) s f = task_at l r at s f.0.there
row_at l r (Again at) s f = task_at l r at s f.1.there
row_at l r (Falls at) s f = falls_at l r at s f
row_at l r Count s f = record { text = end_row; stands = in_last l r s; row = sym (line_text (codes "end") [] []) }
row_at l r (Ends i ending) s f = parked_at l r i f.0.item s f.0.stands
