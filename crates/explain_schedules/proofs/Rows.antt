-- The lines of bytes, read.
use Rattle.std.proofs.Common.{◌≡◌, ◌∙◌, ℕ, Bool, true, false, not, List, [], ◌∷◌, ◌++◌, map, Option, Some, None, Ok, refl, sym, ap, append_assoc}
use Rattle.std.specs.Prelude.{◌==◌, codes}
use Rattle.std.specs.List.{AllByRecursion}
use Rattle.std.proofs.lemmas.Bool.{and_from, and_parts}
use Rattle.std.proofs.lemmas.List.{append-nil}
use Rattle.std.proofs.lemmas.Grind.{flat_map-append}
use Rattle.text_words.specs.Words.{line}
use Rattle.text_report_printer.specs.ReportText.{cell_text}
use Rattle.text_words.proofs.Steps.{bind_ok}
use Rattle.text_line_reader.specs.Lines.{Line, Whole, Cut, lines, parted}
use Rattle.text_line_reader.proofs.Parting.{lines_nil, lines_text, parted_takes}
use Rattle.text_line_reader.proofs.Numbers.{name_lacks, number_lacks}
use Rattle.text_line_reader.proofs.CellSteps.{cell_lacks}
use Rattle.text_line_reader.proofs.Rows.{line_of}
use Rattle.text_line_reader.proofs.Steps.{text_of}
use Rattle.text_line_reader.proofs.Texts.{Makes, one_line, each_line, three}
use Rattle.text_line_reader.specs.ScheduleRaw.{Raw, OfTask, OfVariable, OfCell, Word, task_word, variable_word, raw_words, raw_text, IsRaw}
use Rattle.text_line_reader.specs.ScheduleReading.{move_in, raw_in, raws_at}
use Rattle.text_line_reader.proofs.ScheduleRows.{raws_again}
use Rattle.text_line_reader.proofs.ScheduleSteps.{task_word_is, variable_word_is, move_takes}
use Rattle.explain_schedules.specs.Words.{lacks}
use Rattle.explain_schedules.proofs.Parts.{parted_lacks, unparted_lacks, lacks_both}

raw_line : (cells : Bool) (r : Raw) → IsRaw cells r → Makes (line (raw_words r)) (line_of raw_words r ∷ [])
raw_line cells (OfTask v number) h = one_line (task_word v) (number ∷ []) (and_from _ _ (task_word_is v).in_line (and_from _ _ (number_lacks 10 refl number h) refl))
raw_line cells (OfVariable v number name) h = one_line (variable_word v) (number ∷ name ∷ []) (three (variable_word v) number name (variable_word_is v).in_line (number_lacks 10 refl number h.0) (name_lacks 10 refl name h.1))
raw_line cells (OfCell v number table index) h =
    one_line (variable_word v) (number ∷ cell_text table index ∷ [])
    (three (variable_word v) number (cell_text table index) (variable_word_is v).in_line (number_lacks 10 refl number h.1) (cell_lacks 10 refl refl refl refl table index h.2 h.3))
raw_line cells Word h = one_line (codes "word") [] refl

makes : (cells : Bool) (raws : List Raw) → AllByRecursion (IsRaw cells) raws → Makes (raw_text raws) (map (line_of raw_words) raws)
makes cells raws h = each_line raw_words (IsRaw cells) (raw_line cells) raws h

text_read : (cells : Bool) (raws : List Raw) → AllByRecursion (IsRaw cells) raws → raws_at cells (lines (raw_text raws)) ≡ Ok raws
text_read cells raws h =
    ap (raws_at cells) (ap lines (sym (append-nil (raw_text raws))) ∙ (makes cells raws h).by [] ∙ ap (λ (z : List Line). map (line_of raw_words) raws ++ z) lines_nil ∙ append-nil (map (line_of raw_words) raws))
    ∙ raws_again cells raws h

later_read : (cells : Bool) (xs ys : List Line) (zs : List Raw) → raws_at cells (xs ++ ys) ≡ Ok zs → (ws : List Raw) × (raws_at cells ys ≡ Ok ws)
later_read cells [] ys zs e = (zs, e)
later_read cells (x ∷ xs) ys zs e =
    let a = bind_ok (raw_in cells x) _ zs e in
    let b = bind_ok (raws_at cells (xs ++ ys)) _ zs a.2 in
    later_read cells xs ys b.0 b.1

-- what stands behind lines is read, where all is
pub behind_read : (cells : Bool) (front : List Raw) → AllByRecursion (IsRaw cells) front → (bytes rest : List ℕ) (raws : List Raw) → AllByRecursion (IsRaw cells) raws → raw_text raws ≡ (raw_text front ++ bytes) ++ rest
    → (ws : List Raw) × (raws_at cells (lines (bytes ++ rest)) ≡ Ok ws)
behind_read cells front h bytes rest raws k e =
    later_read cells (map (line_of raw_words) front) (lines (bytes ++ rest)) raws
    (ap (raws_at cells) (sym ((makes cells front h).by (bytes ++ rest)) ∙ ap lines (sym (append_assoc (raw_text front) bytes rest) ∙ sym e)) ∙ text_read cells raws k)

pub first_read : (cells : Bool) (text : List ℕ) (ls : List Line) (ws : List Raw) → raws_at cells (Whole text ∷ ls) ≡ Ok ws → (r : Raw) × (move_in cells text ≡ Ok r)
first_read cells text ls ws e = let a = bind_ok (move_in cells text) _ ws e in (a.0, a.1)

pub whole_read : (cells : Bool) (text rest : List ℕ) (ws : List Raw) → lacks 10 text ≡ true → raws_at cells (lines (text ++ 10 ∷ rest)) ≡ Ok ws → (r : Raw) × (move_in cells text ≡ Ok r)
whole_read cells text rest ws h e = first_read cells text (lines rest) ws (ap (raws_at cells) (sym (lines_text text rest h)) ∙ e)

not_true : (b : Bool) → not b ≡ true → b ≡ false
not_true true h = absurd cc
not_true false h = refl

cut_lines : (b : ℕ) (bytes : List ℕ) → lacks 10 (b ∷ bytes) ≡ true → lines (b ∷ bytes) ≡ Cut (b ∷ bytes) ∷ []
unfolding lines
cut_lines b [] h = let p = and_parts (not (b == 10)) true h in rw (not_true (b == 10) p.0) refl
cut_lines b (c ∷ bytes) h =
    let p = and_parts (not (b == 10)) (lacks 10 (c ∷ bytes)) h in
    let q = and_parts (not (c == 10)) (lacks 10 bytes) p.1 in
    let rest = cut_lines c bytes p.1 in
    rw (not_true (b == 10) p.0, rest) refl

pub none_cut : (cells : Bool) (b : ℕ) (bytes : List ℕ) (ws : List Raw) → lacks 10 (b ∷ bytes) ≡ true → raws_at cells (lines (b ∷ bytes)) ≡ Ok ws → ⊥
none_cut cells b bytes ws h e = let k = ap (raws_at cells) (cut_lines b bytes h) in cc

begun_at : (cells : Bool) (b : ℕ) (front more : List ℕ) (ws : List Raw) (o : Option (List ℕ × List ℕ)) → parted 10 more ≡ o → lacks 10 (b ∷ front) ≡ true → raws_at cells (lines (b ∷ (front ++ more))) ≡ Ok ws
    → (s : List ℕ) × (r : Raw) × (move_in cells (b ∷ (front ++ s)) ≡ Ok r)
begun_at cells b front more ws None is h e = absurd (none_cut cells b (front ++ more) ws (lacks_both 10 (b ∷ front) more h (unparted_lacks 10 more is)) e)
begun_at cells b front more ws (Some x) is h e =
    let text : b ∷ (front ++ more) ≡ (b ∷ (front ++ x.0)) ++ 10 ∷ x.1 =
    ap (λ (t : List ℕ). b ∷ (front ++ t)) (parted_takes 10 more x is) ∙ sym (append_assoc (b ∷ front) x.0 (10 ∷ x.1)) in
    let w = whole_read cells (b ∷ (front ++ x.0)) x.1 ws (lacks_both 10 (b ∷ front) x.0 h (parted_lacks 10 more x is)) (ap (λ (t : List ℕ). raws_at cells (lines t)) (sym text) ∙ e) in
    (x.0, w.0, w.1)

-- some line begins with bytes with which lines begin
pub begun_read : (cells : Bool) (front more : List ℕ) (ws : List Raw) → (front ≡ [] → ⊥) → lacks 10 front ≡ true → raws_at cells (lines (front ++ more)) ≡ Ok ws → (s : List ℕ) × (r : Raw) × (move_in cells (front ++ s) ≡ Ok r)
begun_read cells [] more ws some h e = absurd (some refl)
begun_read cells (b ∷ front) more ws some h e = begun_at cells b front more ws (parted 10 more) refl h e

-- ---- one line more

line_whole : (r : Raw) → line (raw_words r) ≡ text_of (raw_words r) ++ 10 ∷ []
line_whole (OfTask v task) = sym (append_assoc (task_word v) (32 ∷ task) (10 ∷ []))
line_whole (OfVariable v task name) =
    sym (append_assoc (variable_word v) (32 ∷ (task ++ 32 ∷ name)) (10 ∷ []) ∙ ap (λ (t : List ℕ). variable_word v ++ 32 ∷ t) (append_assoc task (32 ∷ name) (10 ∷ [])))
line_whole (OfCell v task table index) =
    sym (append_assoc (variable_word v) (32 ∷ (task ++ 32 ∷ cell_text table index)) (10 ∷ []) ∙ ap (λ (t : List ℕ). variable_word v ++ 32 ∷ t) (append_assoc task (32 ∷ cell_text table index) (10 ∷ [])))
line_whole Word = refl

pub line_is : (cells : Bool) (text : List ℕ) (r : Raw) → move_in cells text ≡ Ok r → line (raw_words r) ≡ text ++ 10 ∷ []
line_is cells text r e = line_whole r ∙ ap (λ (t : List ℕ). t ++ 10 ∷ []) (sym (move_takes cells text r e).same)

pub text_more : (before : List Raw) (r : Raw) → raw_text (before ++ r ∷ []) ≡ raw_text before ++ line (raw_words r)
text_more before r = flat_map-append (λ (s : Raw). line (raw_words s)) before (r ∷ []) ∙ ap (λ (t : List ℕ). raw_text before ++ t) (append-nil (line (raw_words r)))

pub all_more : {A : Type 0} (P : A → Type 0) (xs : List A) (x : A) → AllByRecursion P xs → P x → AllByRecursion P (xs ++ x ∷ [])
all_more P [] x h k = (k, tt)
all_more P (y ∷ xs) x h k = (h.0, all_more P xs x h.1 k)
