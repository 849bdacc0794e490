-- Where a line stops being one, bytes stop being the beginning of a schedule.
use Rattle.std.proofs.Common.{◌≡◌, ◌∙◌, ℕ, ◌+◌, Bool, true, List, [], ◌∷◌, ◌++◌, length, Ok, Err, refl, sym, ap, subst, inl, inr, append_assoc, length-append, arith}
use Rattle.std.specs.List.{AllByRecursion}
use Rattle.std.proofs.lemmas.List.{append-nil}
use Rattle.text_words.specs.Bytes.{is_blank}
use Rattle.text_words.specs.Words.{line}
use Rattle.text_words.specs.declared.fault.ReadFault.TheVariants.{Shape}
use Rattle.text_line_reader.specs.Lines.{lines}
use Rattle.text_line_reader.specs.ScheduleRaw.{Raw, raw_text, IsRaw}
use Rattle.text_line_reader.specs.ScheduleReading.{move_in, raws_at}
use Rattle.text_line_reader.proofs.ScheduleSteps.{move_takes}
use Rattle.explain_schedules.specs.Words.{behind, lacks, EndsWord, ending, IsParted}
use Rattle.explain_schedules.specs.Lines.{Opens, Closes, StopsAt}
use Rattle.explain_schedules.specs.Places.{Begins, IsWrongWord, IsStop}
use Rattle.explain_schedules.specs.declared.line.Wanted.{Wanted}
use Rattle.explain_schedules.specs.declared.line.Wanted.TheVariants as want
use Rattle.explain_schedules.specs.Walking.{IsWalked}
use Rattle.explain_schedules.proofs.Parts.{behind_more, behind_whole, behind_length, lacks_parts, word_bytes}
use Rattle.explain_schedules.proofs.Rows.{behind_read, whole_read, begun_read, line_is, text_more, all_more}

-- ---- none goes on

no_ending : (cells : Bool) (front : List Raw) → AllByRecursion (IsRaw cells) front → (before : List (List ℕ)) (word : List ℕ) → lacks 10 (behind before word) ≡ true → move_in cells (behind before word) ≡ Err Shape
    → Begins cells (raw_text front ++ behind before (word ++ 10 ∷ [])) → ⊥
no_ending cells front h before word lack fails b =
    let r = behind_read cells front h (behind before (word ++ 10 ∷ [])) b.rest b.raws b.words b.text in
    let text : behind before word ++ 10 ∷ b.rest ≡ behind before (word ++ 10 ∷ []) ++ b.rest =
    sym (append_assoc (behind before word) (10 ∷ []) b.rest) ∙ ap (λ (t : List ℕ). t ++ b.rest) (behind_more before word (10 ∷ [])) in
    let w = whole_read cells (behind before word) b.rest r.0 lack (ap (λ (t : List ℕ). raws_at cells (lines t)) text ∙ r.1) in
    let is = w.1 in
    cc

some_bytes : (before : List (List ℕ)) (word : List ℕ) → behind before (word ++ 32 ∷ []) ≡ [] → ⊥
some_bytes before word e =
    let a : length (behind before (word ++ 32 ∷ [])) ≡ 0 = ap length e in
    let b = behind_length before (word ++ 32 ∷ []) in
    let c = length-append word (32 ∷ []) in
    omega arith

no_space : (cells : Bool) (front : List Raw) → AllByRecursion (IsRaw cells) front → (before : List (List ℕ)) (word : List ℕ) → lacks 10 (behind before (word ++ 32 ∷ [])) ≡ true → ((more : List ℕ) → move_in cells (behind before (word ++ (32 ∷ more))) ≡ Err Shape)
    → Begins cells (raw_text front ++ behind before (word ++ 32 ∷ [])) → ⊥
no_space cells front h before word lack fails b =
    let r = behind_read cells front h (behind before (word ++ 32 ∷ [])) b.rest b.raws b.words b.text in
    let w = begun_read cells (behind before (word ++ 32 ∷ [])) b.rest r.0 (some_bytes before word) lack r.1 in
    let text : behind before (word ++ 32 ∷ []) ++ w.0 ≡ behind before (word ++ 32 ∷ w.0) =
    behind_more before (word ++ 32 ∷ []) w.0 ∙ ap (behind before) (append_assoc word (32 ∷ []) w.0) in
    let is = ap (move_in cells) (sym text) ∙ w.2 in
    let none = fails w.0 in
    cc

-- no bytes, or first a newline
abbrev pub NewlineFirst : List ℕ → Type 0
NewlineFirst [] = Unit {0}
NewlineFirst (b ∷ tail) = b ≡ 10

first_lacks : (before : List (List ℕ)) (word : List ℕ) (b : ℕ) (rest : List ℕ) → lacks 10 (behind before (word ++ b ∷ rest)) ≡ true → lacks 10 (behind before (word ++ b ∷ [])) ≡ true
first_lacks before word b rest h =
    (lacks_parts 10 (behind before (word ++ b ∷ [])) rest (ap (lacks 10) (behind_more before (word ++ b ∷ []) rest ∙ ap (behind before) (append_assoc word (b ∷ []) rest)) ∙ h)).0

closed_at : (cells : Bool) (front : List Raw) → AllByRecursion (IsRaw cells) front → (before : List (List ℕ)) (word rest tail : List ℕ) → lacks 10 (behind before (word ++ rest)) ≡ true → NewlineFirst tail → Closes cells before word rest
    → Begins cells (raw_text front ++ behind before (word ++ ending (rest ++ tail))) → ⊥
closed_at cells front h before word [] [] l t c b = no_ending cells front h before word (ap (λ (u : List ℕ). lacks 10 (behind before u)) (sym (append-nil word)) ∙ l) c b
closed_at cells front h before word [] (d ∷ tail) l t c b =
    no_ending cells front h before word (ap (λ (u : List ℕ). lacks 10 (behind before u)) (sym (append-nil word)) ∙ l) c (subst (λ (x : ℕ). Begins cells (raw_text front ++ behind before (word ++ x ∷ []))) t b)
closed_at cells front h before word (d ∷ rest) tail l t c b =
    no_space cells front h before word
    (subst (λ (x : ℕ). lacks 10 (behind before (word ++ x ∷ [])) ≡ true) c.0 (first_lacks before word d rest l))
    c.1 (subst (λ (x : ℕ). Begins cells (raw_text front ++ behind before (word ++ x ∷ []))) c.0 b)

-- ---- the word before

ends_at : (cells : Bool) (rest tail : List ℕ) (before : List (List ℕ)) (word : List ℕ) → NewlineFirst tail → Closes cells before word rest → EndsWord (rest ++ tail)
ends_at cells [] [] before word t c = tt
ends_at cells [] (d ∷ tail) before word t c = subst (λ (x : ℕ). is_blank x ≡ true) (sym t) refl
ends_at cells (d ∷ rest) tail before word t c = subst (λ (x : ℕ). is_blank x ≡ true) (sym c.0) refl

opens_at : (cells : Bool) (front : List Raw) → AllByRecursion (IsRaw cells) front → (before : List (List ℕ)) → Opens cells before → Begins cells (raw_text front ++ behind before [])
opens_at cells front h before o =
    record {
      raws = front ++ o.raw ∷ [];
      words = all_more (IsRaw cells) front o.raw h o.is;
      rest = o.more;
      text = text_more front o.raw ∙ ap (λ (t : List ℕ). raw_text front ++ t) (o.text ∙ behind_whole before o.more) ∙ sym (append_assoc (raw_text front) (behind before []) o.more);
    }

last_lacks : (sep : ℕ) (before : List (List ℕ)) (word : List ℕ) → lacks sep (behind before word) ≡ true → lacks sep word ≡ true
last_lacks sep before word h = (lacks_parts sep (behind before []) word (ap (lacks sep) (sym (behind_whole before word)) ∙ h)).1

pub wrong_word : (cells : Bool) (front : List Raw) → AllByRecursion (IsRaw cells) front → (text tail : List ℕ) (at : ℕ) (wanted : Wanted) → StopsAt cells text at wanted → lacks 10 text ≡ true → NewlineFirst tail → IsWrongWord cells (raw_text front ++ (text ++ tail)) (length (raw_text front) + at) wanted
wrong_word cells front h text tail at wanted s l t =
    let lack : lacks 10 (behind s.before (s.word ++ s.rest)) ≡ true = ap (lacks 10) (sym s.text_is) ∙ l in
    record {
      lines = front;
      before = s.before;
      word = s.word;
      rest = s.rest ++ tail;
      text = ap (λ (u : List ℕ). raw_text front ++ u) (ap (λ (u : List ℕ). u ++ tail) s.text_is ∙ behind_more s.before (s.word ++ s.rest) tail ∙ ap (behind s.before) (append_assoc s.word s.rest tail));
      at = ap (λ (n : ℕ). length (raw_text front) + n) s.at_is;
      whole = word_bytes s.word s.spaceless (lacks_parts 10 s.word s.rest (last_lacks 10 s.before (s.word ++ s.rest) lack)).0;
      ends = ends_at cells s.rest tail s.before s.word t s.closes;
      opens = opens_at cells front h s.before s.opens;
      closed = closed_at cells front h s.before s.word s.rest tail lack t s.closes;
      wanted_is = s.wanted_is;
    }

-- ---- the walk

pub at_first : (cells : Bool) (bytes : List ℕ) → IsWalked cells bytes bytes
at_first cells bytes = record { before = []; words = tt; text = refl }

pub walks_on : (cells : Bool) (bytes rest line after : List ℕ) (r : Raw) → IsWalked cells bytes rest → IsParted 10 rest line after → move_in cells line ≡ Ok r → IsWalked cells bytes after
walks_on cells bytes rest line after r w p e =
    record {
      before = w.before ++ r ∷ [];
      words = all_more (IsRaw cells) w.before r w.words (move_takes cells line r e).is;
      text = w.text ∙ ap (λ (t : List ℕ). raw_text w.before ++ t) (p.whole ∙ sym (append_assoc line (10 ∷ []) after) ∙ ap (λ (t : List ℕ). t ++ after) (sym (line_is cells line r e)))
          ∙ sym (append_assoc (raw_text w.before) _ after) ∙ ap (λ (t : List ℕ). t ++ after) (sym (text_more w.before r));
    }

pub walked_length : (cells : Bool) (bytes rest : List ℕ) → (w : IsWalked cells bytes rest) → length bytes ≡ length (raw_text w.before) + length rest
walked_length cells bytes rest w = ap length w.text ∙ length-append (raw_text w.before) rest

same_gone : (a b c gone : ℕ) → c ≡ a + b → gone + b ≡ c → gone ≡ a
same_gone a b c gone e f = omega arith

pub stop_in_line : (cells : Bool) (bytes rest line after : List ℕ) (at gone : ℕ) (wanted : Wanted) → IsWalked cells bytes rest → IsParted 10 rest line after → StopsAt cells line at wanted → gone + length rest ≡ length bytes → IsStop cells bytes (gone + at) wanted
stop_in_line cells bytes rest line after at gone wanted w p s e =
    let n = same_gone (length (raw_text w.before)) (length rest) (length bytes) gone (walked_length cells bytes rest w) e in
    let text : raw_text w.before ++ (line ++ 10 ∷ after) ≡ bytes = ap (λ (t : List ℕ). raw_text w.before ++ t) (sym p.whole) ∙ sym w.text in
    inl (subst (λ (b : List ℕ). IsWrongWord cells b (gone + at) wanted) text (subst (λ (k : ℕ). IsWrongWord cells (raw_text w.before ++ (line ++ 10 ∷ after)) (k + at) wanted) (sym n) (wrong_word cells w.before w.words line (10 ∷ after) at wanted s p.lacking refl)))

pub stop_in_last : (cells : Bool) (bytes rest : List ℕ) (at gone : ℕ) (wanted : Wanted) → IsWalked cells bytes rest → lacks 10 rest ≡ true → StopsAt cells rest at wanted → gone + length rest ≡ length bytes → IsStop cells bytes (gone + at) wanted
stop_in_last cells bytes rest at gone wanted w l s e =
    let n = same_gone (length (raw_text w.before)) (length rest) (length bytes) gone (walked_length cells bytes rest w) e in
    let text : raw_text w.before ++ (rest ++ []) ≡ bytes = ap (λ (t : List ℕ). raw_text w.before ++ t) (append-nil rest) ∙ sym w.text in
    inl (subst (λ (b : List ℕ). IsWrongWord cells b (gone + at) wanted) text (subst (λ (k : ℕ). IsWrongWord cells (raw_text w.before ++ (rest ++ [])) (k + at) wanted) (sym n) (wrong_word cells w.before w.words rest [] at wanted s l tt)))

pub stop_at_end : (cells : Bool) (bytes rest : List ℕ) (r : Raw) (place : ℕ) → IsWalked cells bytes rest → move_in cells rest ≡ Ok r → place ≡ length bytes → IsStop cells bytes place want.Newline
stop_at_end cells bytes rest r place w e at =
    inr (record {
      lines = w.before ++ r ∷ [];
      words = all_more (IsRaw cells) w.before r w.words (move_takes cells rest r e).is;
      text = text_more w.before r ∙ ap (λ (t : List ℕ). raw_text w.before ++ t) (line_is cells rest r e) ∙ sym (append_assoc (raw_text w.before) rest (10 ∷ [])) ∙ ap (λ (t : List ℕ). t ++ 10 ∷ []) (sym w.text);
      at = at;
      wanted_is = refl;
    })
