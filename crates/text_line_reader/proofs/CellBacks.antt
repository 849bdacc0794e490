-- What is told of cells is written as their lines, where each cell without a line is as it was at first.
use Rattle.std.proofs.Common.{◌≡◌, ◌∙◌, ℕ, suc, ◌+◌, ◌-◌, ◌<◌, ◌≤◌, ◌^◌, true, false, eqb, ◌&&◌, List, [], ◌∷◌, ◌++◌, length, Option, Some, None, Ok, Err, refl, sym, ap, subst, arith, inl, inr}
use Rattle.std.specs.Prelude.{ℤ, FitsSigned, nat_le, slice_get}
use Rattle.std.specs.Int.{w64}
use Rattle.std.specs.Fmt.{signed_decimal}
use Rattle.std.specs.List.{flat_map, AllByRecursion}
use Rattle.std.specs.Str.Parse.{digits_value}
use Rattle.std.proofs.lemmas.Bool.{and_parts, and_from, leb-true, le-leb}
use Rattle.std.proofs.lemmas.Bool.Decides.{eqb_tells}
use Rattle.std.proofs.lemmas.Option.{same_Some}
use Rattle.txn_programs.specs.declared.ast.VarId.{VarId}
use Rattle.txn_programs.specs.declared.limits.TheConstants.{MAX_TASKS}
use Rattle.txn_programs.specs.LawfulReport.{UnwrittenBegin}
use Rattle.txn_programs.specs.Limits.{limits_hold}
use Rattle.txn_programs.specs.Listing.{Listing, cells}
use Rattle.txn_programs.proofs.Lawful.{limits_parts}
use Rattle.text_words.specs.Bytes.{int_value}
use Rattle.text_words.specs.Numbers.{number_of}
use Rattle.text_words.specs.Words.{line}
use Rattle.text_words.proofs.Steps.{bind_ok, done, ok_is, chosen}
use Rattle.text_words.specs.declared.fault.ReadFault.TheVariants.{Limit}
use Rattle.text_report_printer.specs.ReportText.{variable_line, cell_text, cell_name, cell_line}
use Rattle.text_line_reader.specs.ReportRaw.{Cell, cell_words, IsCell}
use Rattle.text_line_reader.specs.ReportResolving.{cell_id, is_from, next_id, in_order, count_in, found, is_written, cell_told, filled}
use Rattle.text_line_reader.specs.Rows.{each}
use Rattle.text_line_reader.proofs.Numbers.{number_written}
use Rattle.text_line_reader.proofs.Spots.{spots, spots_length, spot_lines}
use Rattle.text_line_reader.proofs.CellPlaces.{cell_back as name_back}
use Rattle.text_line_reader.proofs.WordsTold.{value_back, CountBack, count_back}

-- ---- one line

-- what it says, and that the cell was written
record CellBack (l : Listing) (c : Cell) (x : VarId × (ℤ × ℕ)) : Type 0 where
  id : cell_id l c ≡ Some x.0
  text : digits_value 10 c.index < 2 ^ 64 → line (cell_words c) ≡ cell_line c.table (digits_value 10 c.index) x.1
  value : FitsSigned w64 x.1.0
  version : x.1.1 ≤ MAX_TASKS
  written : eqb x.1.1 0 ≡ false

found_is : (o : Option VarId) (x : VarId) → found o ≡ Ok x → o ≡ Some x
found_is None x e = absurd cc
found_is (Some y) x e = ap (λ (z : VarId). Some z) (ok_is y x e)

written_is : (version n : ℕ) → is_written version ≡ Ok n → (version ≡ n) × (eqb n 0 ≡ false)
written_is version n e =
    elim (chosen (eqb version 0) (Err Limit) (done version) (Ok n) e) [
      | inl p ↦ absurd (let h = p.1 in cc)
      | inr p ↦ (ok_is version n p.1, subst (λ (k : ℕ). eqb k 0 ≡ false) (ok_is version n p.1) p.0)
    ]

written_line : (name : List ℕ) (index : ℕ) (v : ℤ × ℕ) → eqb v.1 0 ≡ false → cell_line name index v ≡ variable_line (cell_name name index) v
written_line name index v h = rw h refl

cell_back : (l : Listing) (c : Cell) (x : VarId × (ℤ × ℕ)) → IsCell c → cell_told l c ≡ Ok x → CellBack l c x
unfolding cell_told
cell_back l c x is e =
    let a = bind_ok (found (cell_id l c)) _ x e in
    let b = bind_ok (number_of (int_value c.value)) _ x a.2 in
    let d = bind_ok (count_in c.version) _ x b.2 in
    let f = bind_ok (is_written d.0) _ x d.2 in
    let value = value_back c.value b.0 is.value b.1 in
    let w = written_is d.0 f.0 f.1 in
    let version : CountBack c.version f.0 = subst (CountBack c.version) w.0 (count_back c.version d.0 is.version d.1) in
    let made : VarId × (ℤ × ℕ) = (a.0, (b.0, f.0)) in
    let index = digits_value 10 c.index in
    subst (CellBack l c) (ok_is made x f.2) (record {
      id = found_is (cell_id l c) a.0 a.1;
      text = λ small.
          ap (λ (n : List ℕ). line (cell_text c.table n ∷ c.value ∷ c.version ∷ [])) (sym (number_written c.index is.index small))
          ∙ ap (λ (n : List ℕ). line (cell_name c.table index ∷ n ∷ c.version ∷ [])) (sym value.written)
          ∙ ap (λ (n : List ℕ). line (cell_name c.table index ∷ signed_decimal b.0 ∷ n ∷ [])) (sym version.written)
          ∙ sym (written_line c.table index (b.0, f.0) w.1);
      value = value.fits;
      version = version.most;
      written = w.1;
    })

-- ---- the lines from a cell on

-- where a cell that is known stands among these
pub record StandsAt (ss : List (List ℕ × ℕ)) (k : ℕ) (c : Cell) : Type 0 where
  pub is : slice_get ss k ≡ Some (c.table, digits_value 10 c.index)
  pub small : digits_value 10 c.index < 2 ^ 64

abbrev pub Stands : Listing → ℕ → List (List ℕ × ℕ) → Type 0
Stands l first ss = (c : Cell) (x : VarId) (k : ℕ) → cell_id l c ≡ Some x → x.0 ≡ first + k → StandsAt ss k c

later : (l : Listing) (first : ℕ) (s : List ℕ × ℕ) (ss : List (List ℕ × ℕ)) → Stands l first (s ∷ ss) → Stands l (suc first) ss
later l first s ss h c x k id at = let t = h c x (suc k) id (omega (arith, at)) in record { is = t.is; small = t.small }

-- what is told of cells, as it fills the values from this one on
pub record CellsBack (ss : List (List ℕ × ℕ)) (initial : List ℤ) (cs : List Cell) (vs : List (ℤ × ℕ)) : Type 0 where
  pub text : flat_map (λ c. line (cell_words c)) cs ≡ spot_lines ss vs
  pub count : length vs ≡ length initial
  pub begin : UnwrittenBegin initial vs
  pub values : AllByRecursion (λ v. FitsSigned w64 v.0) vs
  pub versions : AllByRecursion (λ v. v.1 ≤ MAX_TASKS) vs

-- a cell without a line
one_unwritten : (s : List ℕ × ℕ) (ss : List (List ℕ × ℕ)) (first : ℤ) (initial : List ℤ) (cs : List Cell) (vs : List (ℤ × ℕ)) → FitsSigned w64 first → CellsBack ss initial cs vs → CellsBack (s ∷ ss) (first ∷ initial) cs ((first, 0) ∷ vs)
one_unwritten s ss first initial cs vs fits h =
    record {
      text = h.text;
      count = ap suc h.count;
      begin = (λ e. refl, h.begin);
      values = (fits, h.values);
      versions = (omega arith, h.versions);
    }

not_zero : {A : Type 0} (n : ℕ) → eqb n 0 ≡ false → n ≡ 0 → A
not_zero n h e = absurd (let yes : eqb n 0 ≡ true = rw e refl in cc)

-- and one with its line
one_written : (l : Listing) (s : List ℕ × ℕ) (ss : List (List ℕ × ℕ)) (first : ℤ) (initial : List ℤ) (c : Cell) (cs : List Cell) (x : VarId × (ℤ × ℕ)) (vs : List (ℤ × ℕ)) → CellBack l c x → StandsAt (s ∷ ss) 0 c
    → CellsBack ss initial cs vs → CellsBack (s ∷ ss) (first ∷ initial) (c ∷ cs) (x.1 ∷ vs)
one_written l s ss first initial c cs x vs b at h =
    let same : (c.table, digits_value 10 c.index) ≡ s = sym (same_Some _ _ at.is) in
    record {
      text = ap (λ (t : List ℕ). t ++ flat_map (λ d. line (cell_words d)) cs) (b.text at.small)
          ∙ ap (λ (t : List ℕ × ℕ). cell_line t.0 t.1 x.1 ++ flat_map (λ d. line (cell_words d)) cs) same
          ∙ ap (λ (t : List ℕ). cell_line s.0 s.1 x.1 ++ t) h.text;
      count = ap suc h.count;
      begin = (λ e. not_zero x.1.1 b.written e, h.begin);
      values = (b.value, h.values);
      versions = (b.version, h.versions);
    }

-- the next line is that of this cell, or of a later one
filled_here : (x : ℕ) (first : ℤ) (initial : List ℤ) (t : VarId × (ℤ × ℕ)) (ts : List (VarId × (ℤ × ℕ))) → eqb t.0.0 x ≡ true → filled (first ∷ initial) x (t ∷ ts) ≡ t.1 ∷ filled initial (suc x) ts
filled_here x first initial t ts h = rw h refl

filled_later : (x : ℕ) (first : ℤ) (initial : List ℤ) (t : VarId × (ℤ × ℕ)) (ts : List (VarId × (ℤ × ℕ))) → eqb t.0.0 x ≡ false → filled (first ∷ initial) x (t ∷ ts) ≡ (first, 0) ∷ filled initial (suc x) (t ∷ ts)
filled_later x first initial t ts h = rw h refl

-- in what order cells stand
ordered : (l : Listing) (least : ℕ) (o : Option VarId) (x : VarId) (cs : List Cell) → o ≡ Some x → (is_from least o && in_order l (next_id o) cs) ≡ true → (least ≤ x.0) × (in_order l (suc x.0) cs ≡ true)
ordered l least None x cs is h = absurd cc
ordered l least (Some y) x cs is h =
    let p = and_parts (nat_le least y.0) (in_order l (suc y.0) cs) h in
    let q : (least ≤ y.0) × (in_order l (suc y.0) cs ≡ true) = (leb-true least y.0 p.0, p.1) in
    subst (λ (z : VarId). (least ≤ z.0) × (in_order l (suc z.0) cs ≡ true)) (same_Some _ _ is) q

order_from : (l : Listing) (least : ℕ) (o : Option VarId) (x : VarId) (cs : List Cell) → o ≡ Some x → least ≤ x.0 → in_order l (suc x.0) cs ≡ true → (is_from least o && in_order l (next_id o) cs) ≡ true
order_from l least o x cs is le h = subst (λ (p : Option VarId). (is_from least p && in_order l (next_id p) cs) ≡ true) (sym is) (and_from _ _ (le-leb least x.0 le) h)

pub cells_back : (l : Listing) (x : ℕ) (ss : List (List ℕ × ℕ)) (initial : List ℤ) (cs : List Cell) (ts : List (VarId × (ℤ × ℕ))) → length initial ≡ length ss → AllByRecursion (FitsSigned w64) initial
    → Stands l x ss → AllByRecursion IsCell cs → in_order l x cs ≡ true → each (cell_told l) cs ≡ Ok ts → CellsBack ss initial cs (filled initial x ts)
cells_back l x [] (v ∷ initial) cs ts long fit stands are order e = absurd (omega (arith, long))
cells_back l x (s ∷ ss) [] cs ts long fit stands are order e = absurd (omega (arith, long))
cells_back l x [] [] [] ts long fit stands are order e = record { text = refl; count = refl; begin = tt; values = tt; versions = tt }
cells_back l x [] [] (c ∷ cs) ts long fit stands are order e =
    let a = bind_ok (cell_told l c) _ ts e in
    let b = cell_back l c a.0 are.0 a.1 in
    let o = ordered l x (cell_id l c) a.0.0 cs b.id order in
    let le = o.0 in
    absurd (let h = (stands c a.0.0 (a.0.0.0 - x) b.id (omega (arith, le))).is in cc)
cells_back l x (s ∷ ss) (v ∷ initial) [] ts long fit stands are order e =
    let none : [] ≡ ts = ok_is [] ts e in
    subst (λ (us : List (VarId × (ℤ × ℕ))). CellsBack (s ∷ ss) (v ∷ initial) [] (filled (v ∷ initial) x us)) none
    (one_unwritten s ss v initial [] (filled initial (suc x) []) fit.0 (cells_back l (suc x) ss initial [] [] (omega (arith, long)) fit.1 (later l x s ss stands) tt refl refl))
cells_back l x (s ∷ ss) (v ∷ initial) (c ∷ cs) ts long fit stands are order e =
    let a = bind_ok (cell_told l c) _ ts e in
    let d = bind_ok (each (cell_told l) cs) _ ts a.2 in
    let b = cell_back l c a.0 are.0 a.1 in
    let o = ordered l x (cell_id l c) a.0.0 cs b.id order in
    let le = o.0 in
    let is = ok_is (a.0 ∷ d.0) ts d.2 in
    elim (eqb_tells a.0.0.0 x) [
      | inl h ↦
          let here : a.0.0.0 ≡ x + 0 = h.1 ∙ omega arith in
          let order' : in_order l (suc x) cs ≡ true = subst (λ (k : ℕ). in_order l (suc k) cs ≡ true) h.1 o.1 in
          subst (λ (us : List (VarId × (ℤ × ℕ))). CellsBack (s ∷ ss) (v ∷ initial) (c ∷ cs) (filled (v ∷ initial) x us)) is
          (subst (CellsBack (s ∷ ss) (v ∷ initial) (c ∷ cs)) (sym (filled_here x v initial a.0 d.0 h.0))
          (one_written l s ss v initial c cs a.0 (filled initial (suc x) d.0) b (stands c a.0.0 0 b.id here)
          (cells_back l (suc x) ss initial cs d.0 (omega (arith, long)) fit.1 (later l x s ss stands) are.1 order' d.1)))
      | inr h ↦
          let more : suc x ≤ a.0.0.0 = let differs = h.1 in omega (arith, le, differs) in
          subst (λ (us : List (VarId × (ℤ × ℕ))). CellsBack (s ∷ ss) (v ∷ initial) (c ∷ cs) (filled (v ∷ initial) x us)) is
          (subst (CellsBack (s ∷ ss) (v ∷ initial) (c ∷ cs)) (sym (filled_later x v initial a.0 d.0 h.0))
          (one_unwritten s ss v initial (c ∷ cs) (filled initial (suc x) (a.0 ∷ d.0)) fit.0
          (cells_back l (suc x) ss initial (c ∷ cs) (a.0 ∷ d.0) (omega (arith, long)) fit.1 (later l x s ss stands) are (order_from l (suc x) (cell_id l c) a.0.0 cs b.id more o.1) (subst (λ (us : List (VarId × (ℤ × ℕ))). each (cell_told l) (c ∷ cs) ≡ Ok us) (sym is) e))))
    ]

-- ---- those of all tables

all_stand : (l : Listing) → limits_hold l ≡ true → Stands l (length l.names) (spots l.tables)
all_stand l limits c x k id at =
    let a = name_back l c.table c.index x id in
    let place = a.place in
    let few = (limits_parts l limits).cells in
    let inside = a.inside in
    let same : a.far ≡ k = omega (arith, place, at) in
    record { is = subst (λ (n : ℕ). slice_get (spots l.tables) n ≡ Some (c.table, digits_value 10 c.index)) same a.is; small = omega (arith, few, inside) }

from_first : (l : Listing) (c : Cell) (o : Option VarId) (cs : List Cell) → cell_id l c ≡ o → (is_from 0 o && in_order l (next_id o) cs) ≡ true → (is_from (length l.names) o && in_order l (next_id o) cs) ≡ true
from_first l c None cs id h = absurd cc
from_first l c (Some x) cs id h =
    let place = (name_back l c.table c.index x id).place in
    and_from _ _ (le-leb (length l.names) x.0 (omega (arith, place))) (and_parts (nat_le 0 x.0) (in_order l (suc x.0) cs) h).1

-- each comes behind the variables
pub in_tables : (l : Listing) (cs : List Cell) → in_order l 0 cs ≡ true → in_order l (length l.names) cs ≡ true
in_tables l [] h = refl
in_tables l (c ∷ cs) h = from_first l c (cell_id l c) cs refl h

pub tables_back : (l : Listing) (initial : List ℤ) (cs : List Cell) (ts : List (VarId × (ℤ × ℕ))) → limits_hold l ≡ true → length initial ≡ cells l → AllByRecursion (FitsSigned w64) initial
    → AllByRecursion IsCell cs → in_order l 0 cs ≡ true → each (cell_told l) cs ≡ Ok ts → CellsBack (spots l.tables) initial cs (filled initial (length l.names) ts)
tables_back l initial cs ts limits long fit are order e =
    cells_back l (length l.names) (spots l.tables) initial cs ts (long ∙ sym (spots_length l.tables)) fit (all_stand l limits) are (in_tables l cs order) e
