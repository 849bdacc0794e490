-- The walk to the first line of which something is not so.
use Rattle.std.proofs.Common.{◌≡◌, ◌∙◌, ℕ, ◌+◌, ◌≤◌, Bool, true, false, ◌&&◌, List, [], ◌∷◌, ◌++◌, length, Option, Some, None, Ok, refl, sym, ap, subst, append_assoc, length-append, arith}
use Rattle.std.specs.List.{list_all}
use Rattle.std.proofs.lemmas.Bool.{and_from}
use Rattle.std.proofs.lemmas.List.Folds.{list_all-append}
use Rattle.std.proofs.lemmas.Option.{same_Some}
use Rattle.text_words.proofs.Steps.{bind_ok, ok_is}
use Rattle.text_line_reader.specs.Lines.{Whole, lines}
use Rattle.text_line_reader.proofs.Parting.{lines_text}
use Rattle.text_line_reader.specs.ScheduleRaw.{Raw, raw_text}
use Rattle.text_line_reader.specs.ScheduleReading.{move_in, raws_at}
use Rattle.txn_programs.specs.Listing.{Listing}
use Rattle.text_line_reader.specs.Reports.{knows_cells}
use Rattle.text_line_reader.specs.Schedules.{IsWritten}
use Rattle.text_line_reader.proofs.ScheduleSteps.{move_takes}
use Rattle.text_line_reader.proofs.Written.{written_is_read}
use Rattle.explain_schedules.specs.Words.{lacks, IsParted, name_place, task_place}
use Rattle.explain_schedules.specs.Lines.{StopsAt}
use Rattle.explain_schedules.specs.declared.line.Wanted.{Wanted}
use Rattle.explain_schedules.specs.Places.{IsFirstLine}
use Rattle.explain_schedules.specs.declared.explaining.Finding.{Finding}
use Rattle.explain_schedules.specs.declared.judging.Judged.{Judged}
use Rattle.explain_schedules.specs.declared.judging.Judged.TheVariants.{Names, Tasks}
use Rattle.explain_schedules.specs.Walking.{IsGoing, IsUneven, right_of, place_of, said_of, wrong_at}
use Rattle.explain_schedules.proofs.Lines.{stops_fails, task_in_line, name_in_line}
use Rattle.explain_schedules.proofs.Rows.{none_cut, line_is, text_more}

pub begins_going : (l : Listing) (right : Raw → Bool) (bytes : List ℕ) → IsUneven l right bytes → IsGoing l right bytes bytes
begins_going l right bytes u =
    record { before = []; later = u.raws; written = u.written; text = refl; read = written_is_read l bytes u.raws u.written; so_before = refl; not_later = u.not_all }

pub going_length : (l : Listing) (right : Raw → Bool) (bytes rest : List ℕ) → (g : IsGoing l right bytes rest) → length bytes ≡ length (raw_text g.before) + length rest
going_length l right bytes rest g = ap length g.text ∙ length-append (raw_text g.before) rest

-- the next line and those behind it
record Next (cells : Bool) (line after : List ℕ) (later : List Raw) : Type 0 where
  raw : Raw
  others : List Raw
  line_read : move_in cells line ≡ Ok raw
  read : raws_at cells (lines after) ≡ Ok others
  are : later ≡ raw ∷ others

next : (l : Listing) (right : Raw → Bool) (bytes rest line after : List ℕ) → (g : IsGoing l right bytes rest) → IsParted 10 rest line after → Next (knows_cells l) line after g.later
next l right bytes rest line after g p =
    let e : raws_at (knows_cells l) (Whole line ∷ lines after) ≡ Ok g.later = ap (raws_at (knows_cells l)) (sym (ap lines p.whole ∙ lines_text line after p.lacking)) ∙ g.read in
    let a = bind_ok (move_in (knows_cells l) line) _ g.later e in
    let b = bind_ok (raws_at (knows_cells l) (lines after)) _ g.later a.2 in
    record { raw = a.0; others = b.0; line_read = a.1; read = b.1; are = sym (ok_is (a.0 ∷ b.0) g.later b.2) }

-- each line is read
pub is_read : (l : Listing) (right : Raw → Bool) (bytes rest line after : List ℕ) (at : ℕ) (wanted : Wanted) → IsGoing l right bytes rest → IsParted 10 rest line after → StopsAt (knows_cells l) line at wanted → ⊥
is_read l right bytes rest line after at wanted g p s =
    let n = next l right bytes rest line after g p in
    let is = n.line_read in
    let none = stops_fails (knows_cells l) line at wanted s in
    cc

same_raw : (cells : Bool) (text : List ℕ) (a b : Raw) → move_in cells text ≡ Ok a → move_in cells text ≡ Ok b → a ≡ b
same_raw cells text a b e f = ok_is a b (sym e ∙ f)

rest_not : (b : Bool) (c : Bool) → (b && c) ≡ false → b ≡ true → c ≡ false
rest_not true c h e = h
rest_not false c h e = absurd cc

pub goes_on : (l : Listing) (right : Raw → Bool) (bytes rest line after : List ℕ) (r : Raw) → IsGoing l right bytes rest → IsParted 10 rest line after → move_in (knows_cells l) line ≡ Ok r → right r ≡ true → IsGoing l right bytes after
goes_on l right bytes rest line after r g p e so =
    let n = next l right bytes rest line after g p in
    let same = same_raw (knows_cells l) line n.raw r n.line_read e in
    let later : g.later ≡ r ∷ n.others = n.are ∙ ap (λ (x : Raw). x ∷ n.others) same in
    record {
      before = g.before ++ r ∷ [];
      later = n.others;
      written = subst (IsWritten l bytes) (ap (λ (xs : List Raw). g.before ++ xs) later ∙ sym (append_assoc g.before (r ∷ []) n.others)) g.written;
      text = g.text ∙ ap (λ (t : List ℕ). raw_text g.before ++ t) (p.whole ∙ sym (append_assoc line (10 ∷ []) after) ∙ ap (λ (t : List ℕ). t ++ after) (sym (line_is (knows_cells l) line r e)))
          ∙ sym (append_assoc (raw_text g.before) _ after) ∙ ap (λ (t : List ℕ). t ++ after) (sym (text_more g.before r));
      read = n.read;
      so_before = list_all-append right g.before (r ∷ []) ∙ and_from _ _ g.so_before (and_from _ _ so refl);
      not_later = rest_not (right r) (list_all right n.others) (ap (list_all right) (sym later) ∙ g.not_later) so;
    }

same_gone : (a b c gone : ℕ) → c ≡ a + b → gone + b ≡ c → gone ≡ a
same_gone a b c gone e f = omega arith

pub found_line : (l : Listing) (right : Raw → Bool) (place_in : Raw → ℕ) (said : Raw → Finding) (bytes rest line after : List ℕ) (r : Raw) (gone at : ℕ) (finding : Finding) → IsGoing l right bytes rest → IsParted 10 rest line after → move_in (knows_cells l) line ≡ Ok r
    → right r ≡ false → at ≡ place_in r → finding ≡ said r → gone + length rest ≡ length bytes → IsFirstLine l right place_in said bytes (gone + at) finding
found_line l right place_in said bytes rest line after r gone at finding g p e wrong is tells len =
    let n = next l right bytes rest line after g p in
    let same = same_raw (knows_cells l) line n.raw r n.line_read e in
    let m = same_gone (length (raw_text g.before)) (length rest) (length bytes) gone (going_length l right bytes rest g) len in
    record {
      lines = g.before;
      raw = r;
      after = n.others;
      written = subst (IsWritten l bytes) (ap (λ (xs : List Raw). g.before ++ xs) (n.are ∙ ap (λ (x : Raw). x ∷ n.others) same)) g.written;
      so_before = g.so_before;
      not_here = wrong;
      at = ap (λ (k : ℕ). k + at) m ∙ ap (λ (k : ℕ). length (raw_text g.before) + k) is;
      finding_is = tells;
    }

none_later : (cells : Bool) (rest : List ℕ) (later : List Raw) → lacks 10 rest ≡ true → raws_at cells (lines rest) ≡ Ok later → later ≡ []
unfolding lines
none_later cells [] later h e = sym (ok_is [] later e)
none_later cells (b ∷ rest) later h e = absurd (none_cut cells b rest later h e)

-- one is found
pub none_left : (l : Listing) (right : Raw → Bool) (bytes rest : List ℕ) → IsGoing l right bytes rest → lacks 10 rest ≡ true → ⊥
none_left l right bytes rest g lack =
    let none = none_later (knows_cells l) rest g.later lack g.read in
    let not : list_all right [] ≡ false = ap (list_all right) (sym none) ∙ g.not_later in
    cc

-- the same flag of cells
pub read_by : (a b : Bool) (text : List ℕ) (r : Raw) → a ≡ b → move_in a text ≡ Ok r → move_in b text ≡ Ok r
read_by a b text r same e = subst (λ (c : Bool). move_in c text ≡ Ok r) same e

pub stops_by : (a b : Bool) (text : List ℕ) (at : ℕ) (wanted : Wanted) → a ≡ b → StopsAt a text at wanted → StopsAt b text at wanted
stops_by a b text at wanted same s = subst (λ (c : Bool). StopsAt c text at wanted) same s

-- where a line is wrong, and what is said of it
pub record IsWrong (b : Bool) (place : ℕ) (said : Finding) (at : ℕ) (finding : Finding) : Type 0 where
  pub not_so : b ≡ false
  pub at_is : at ≡ place
  pub finding_is : finding ≡ said

some_wrong : (place : ℕ) (said : Finding) (x : ℕ × Finding) → Some (place, said) ≡ Some x → IsWrong false place said x.0 x.1
some_wrong place said x e =
    let same = same_Some _ _ e in
    record { not_so = refl; at_is = sym (ap (λ (y : ℕ × Finding). y.0) same); finding_is = sym (ap (λ (y : ℕ × Finding). y.1) same) }

pub told_wrong : (b : Bool) (place : ℕ) (said : Finding) (o : Option (ℕ × Finding)) (x : ℕ × Finding) → o ≡ wrong_at b place said → o ≡ Some x → IsWrong b place said x.0 x.1
told_wrong true place said o x e f = absurd (let h = sym e ∙ f in cc)
told_wrong false place said o x e f = some_wrong place said x (sym e ∙ f)

pub told_right : (b : Bool) (place : ℕ) (said : Finding) (o : Option (ℕ × Finding)) → o ≡ wrong_at b place said → o ≡ None → b ≡ true
told_right true place said o e f = refl
told_right false place said o e f = absurd (let h = sym e ∙ f in cc)

-- ---- the place is in the line

place_reaches : (cells : Bool) (judged : Judged) (line : List ℕ) (r : Raw) → move_in cells line ≡ Ok r → place_of judged r ≤ length line
place_reaches cells Names line r e = subst (λ (t : List ℕ). name_place r ≤ length t) (sym (move_takes cells line r e).same) (name_in_line r)
place_reaches cells Tasks line r e = subst (λ (t : List ℕ). task_place r ≤ length t) (sym (move_takes cells line r e).same) (task_in_line r)

within : (gone at place line after rest bytes : ℕ) → at ≡ place → place ≤ line → line + (1 + after) ≡ rest → gone + rest ≡ bytes → gone + at ≤ bytes
within gone at place line after rest bytes e reach len g = omega arith

pub wrong_within : (cells : Bool) (l : Listing) (judged : Judged) (line : List ℕ) (r : Raw) (o : Option (ℕ × Finding)) (x : ℕ × Finding) (gone after rest bytes : ℕ) → move_in cells line ≡ Ok r
    → o ≡ wrong_at (right_of l judged r) (place_of judged r) (said_of l judged r) → o ≡ Some x → length line + (1 + after) ≡ rest → gone + rest ≡ bytes → gone + x.0 ≤ bytes
wrong_within cells l judged line r o x gone after rest bytes read e is len g =
    let told = told_wrong (right_of l judged r) (place_of judged r) (said_of l judged r) o x e is in
    within gone x.0 (place_of judged r) (length line) after rest bytes told.at_is (place_reaches cells judged line r read) len g
