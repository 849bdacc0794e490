-- What a cell's name and its line are read as, and what is read again.
use Rattle.std.proofs.Common.{◌≡◌, ◌∙◌, ℕ, Bool, true, false, not, eqb, List, [], ◌∷◌, ◌++◌, None, Ok, refl, sym, ap, subst, append_assoc}
use Rattle.std.specs.Prelude.{is_some}
use Rattle.std.specs.List.{AllByRecursion}
use Rattle.std.proofs.lemmas.Bool.{and_parts, and_from, not-true}
use Rattle.std.proofs.lemmas.List.Folds.{list_all-append}
use Rattle.txn_programs.specs.Names.{is_name, is_name_byte}
use Rattle.text_words.proofs.Steps.{bind_ok, ok_is}
use Rattle.text_report_printer.specs.ReportText.{cell_text}
use Rattle.text_line_reader.specs.Lines.{parted}
use Rattle.text_line_reader.specs.Words.{is_number, given, first_word, name_in, int_in, number_in, expect, is_bracketed, cell_in}
use Rattle.text_line_reader.specs.ReportRaw.{Cell, cell_words, IsCell, HasCells}
use Rattle.text_line_reader.specs.ReportReading.{cell_line_in}
use Rattle.text_line_reader.proofs.Parting.{lacks, parted_takes, parted_again}
use Rattle.text_line_reader.proofs.Numbers.{is_int_byte, name_lacks, int_lacks, number_lacks}
use Rattle.text_line_reader.proofs.Steps.{text_of, given_ok, word_takes, word_again, name_takes, int_takes, number_takes, name_again, int_again, number_again, expect_takes, expect_again, Takes}

-- ---- a bracket, or none

pub parted_none : (sep : ℕ) (bs : List ℕ) → lacks sep bs ≡ true → parted sep bs ≡ None
unfolding parted
parted_none sep [] h = refl
parted_none sep (b ∷ bs) h =
    let p = and_parts (not (eqb b sep)) (lacks sep bs) h in
    rw (not-true (eqb b sep) p.0, parted_none sep bs p.1) refl

pub not_bracketed : (text : List ℕ) → lacks 91 text ≡ true → is_bracketed text ≡ false
unfolding is_bracketed
not_bracketed text h = rw (parted_none 91 text h) refl

pub bracketed : (name index rest : List ℕ) → is_name name ≡ true → is_bracketed (cell_text name index ++ rest) ≡ true
unfolding is_bracketed
bracketed name index rest h =
    ap (λ (t : List ℕ). is_some (parted 91 t)) (append_assoc name (91 ∷ (index ++ (93 ∷ []))) rest)
    ∙ rw (parted_again 91 name ((index ++ (93 ∷ [])) ++ rest) (name_lacks 91 refl name h)) refl

-- ---- NAME[INDEX]

pub cell_lacks : (sep : ℕ) → is_name_byte sep ≡ false → is_int_byte sep ≡ false → eqb 91 sep ≡ false → eqb 93 sep ≡ false
    → (name index : List ℕ) → is_name name ≡ true → is_number index ≡ true → lacks sep (cell_text name index) ≡ true
cell_lacks sep a b left right name index h k =
    list_all-append (λ c. not (eqb c sep)) name (91 ∷ (index ++ (93 ∷ [])))
    ∙ and_from _ _ (name_lacks sep a name h) (and_from _ _ (ap not left)
    (list_all-append (λ c. not (eqb c sep)) index (93 ∷ []) ∙ and_from _ _ (number_lacks sep b index k) (and_from _ _ (ap not right) refl)))

-- the text of a cell's name
pub record IsCellName (text : List ℕ) (x : List ℕ × List ℕ) : Type 0 where
  pub same : text ≡ cell_text x.0 x.1
  pub name : is_name x.0 ≡ true
  pub index : is_number x.1 ≡ true

pub cell_takes : (text : List ℕ) (x : List ℕ × List ℕ) → cell_in text ≡ Ok x → IsCellName text x
unfolding cell_in
cell_takes text x e =
    let a = bind_ok (given (parted 91 text)) _ x e in
    let b = bind_ok (given (parted 93 a.0.1)) _ x a.2 in
    let c = bind_ok (expect [] b.0.1) _ x b.2 in
    let d = bind_ok (name_in a.0.0) _ x c.2 in
    let f = bind_ok (number_in b.0.0) _ x d.2 in
    let n = name_takes a.0.0 d.0 d.1 in
    let i = number_takes b.0.0 f.0 f.1 in
    let none = expect_takes [] b.0.1 c.0 c.1 in
    subst (IsCellName text) (ok_is (d.0, f.0) x f.2) (record {
      same = parted_takes 91 text a.0 (given_ok (parted 91 text) a.0 a.1)
          ∙ ap (λ (t : List ℕ). a.0.0 ++ 91 ∷ t) (parted_takes 93 a.0.1 b.0 (given_ok (parted 93 a.0.1) b.0 b.1))
          ∙ ap (λ (t : List ℕ). a.0.0 ++ 91 ∷ (b.0.0 ++ 93 ∷ t)) none
          ∙ ap (λ (w : List ℕ). w ++ 91 ∷ (b.0.0 ++ 93 ∷ [])) n.same
          ∙ ap (λ (w : List ℕ). d.0 ++ 91 ∷ (w ++ 93 ∷ [])) i.same;
      name = n.passes;
      index = i.passes;
    })

pub cell_again : (name index : List ℕ) → is_name name ≡ true → is_number index ≡ true → cell_in (cell_text name index) ≡ Ok (name, index)
unfolding cell_in
cell_again name index h k =
    rw (
      parted_again 91 name (index ++ (93 ∷ [])) (name_lacks 91 refl name h),
      parted_again 93 index [] (number_lacks 93 refl index k),
      expect_again [],
      name_again name h,
      number_again index k,
    ) refl

-- ---- its line

pub cell_line_takes : (text : List ℕ) (c : Cell) → cell_line_in text ≡ Ok c → Takes cell_words IsCell text c
unfolding cell_line_in
cell_line_takes text c e =
    let a = bind_ok (first_word text) _ c e in
    let b = bind_ok (first_word a.0.1) _ c a.2 in
    let d = bind_ok (cell_in a.0.0) _ c b.2 in
    let f = bind_ok (int_in b.0.0) _ c d.2 in
    let g = bind_ok (number_in b.0.1) _ c f.2 in
    let n = cell_takes a.0.0 d.0 d.1 in
    let i = int_takes b.0.0 f.0 f.1 in
    let m = number_takes b.0.1 g.0 g.1 in
    let made : Cell = record { table = d.0.0; index = d.0.1; value = f.0; version = g.0 } in
    subst (Takes cell_words IsCell text) (ok_is made c g.2) (record {
      same = word_takes text a.0 a.1 ∙ ap (λ (t : List ℕ). a.0.0 ++ 32 ∷ t) (word_takes a.0.1 b.0 b.1)
          ∙ ap (λ (w : List ℕ). w ++ 32 ∷ (b.0.0 ++ 32 ∷ b.0.1)) n.same
          ∙ ap (λ (w : List ℕ). cell_text d.0.0 d.0.1 ++ 32 ∷ (w ++ 32 ∷ b.0.1)) i.same
          ∙ ap (λ (w : List ℕ). cell_text d.0.0 d.0.1 ++ 32 ∷ (f.0 ++ 32 ∷ w)) m.same;
      is = record { table = n.name; index = n.index; value = i.passes; version = m.passes };
    })

pub cell_line_again : (c : Cell) → IsCell c → cell_line_in (text_of (cell_words c)) ≡ Ok c
unfolding cell_line_in
cell_line_again c h =
    rw (
      word_again (cell_text c.table c.index) (c.value ++ 32 ∷ c.version) (cell_lacks 32 refl refl refl refl c.table c.index h.table h.index),
      word_again c.value c.version (int_lacks 32 refl c.value h.value),
      cell_again c.table c.index h.table h.index,
      int_again c.value h.value,
      number_again c.version h.version,
    ) refl

pub cell_line_bracketed : (c : Cell) → IsCell c → is_bracketed (text_of (cell_words c)) ≡ true
cell_line_bracketed c h = bracketed c.table c.index (32 ∷ (c.value ++ 32 ∷ c.version)) h.table

-- each line of a cell is that of one
pub are_cells : (cells : Bool) (cs : List Cell) → HasCells cells cs → AllByRecursion IsCell cs
are_cells false cs h = subst (AllByRecursion IsCell) (sym h) tt
are_cells true cs h = h
